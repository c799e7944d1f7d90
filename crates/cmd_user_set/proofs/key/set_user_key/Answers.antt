use Rattle.std.proofs.Common.{arith}
use Rattle.std.specs.Str.{chars}
use Rattle.store_kv.specs.Draft.{tables_of}
use Rattle.cmd_user_set.proofs.Setting.{key_not_set, key_set, not_named}
use Rattle.cmd_user_set.proofs.key.set_user_key.Goals as goal

pub returns-in_err-number-clause-sets : goal.returns-in_err-number-clause-sets
returns-in_err-number-clause-sets g c told w s =
    not_named (chars c.args.org.now) (chars c.args.user.now) (chars c.args.secret.now) w (tables_of g.K.Keeper.state c.user_named.new.draft) c.user_named.result c.in_err-number.field-0.0 c.from_residual.result c.in_err-number.was c.from_residual.ensures.1
    (c.user_named.ensures.finds told w s)

pub returns-in_err-change_key-clause-sets : goal.returns-in_err-change_key-clause-sets
returns-in_err-change_key-clause-sets g c told w s =
    let state = g.K.Keeper.state in
    let a = c.args.draft.now in
    let b = c.user_named.new.draft in
    let d = c.change_key.new.draft in
    let first = c.draft_laws.ensures.told_first 1 0 0 a b d c.change_key.ensures.drafts.makes.works told in
    let same = c.call_laws.ensures.tables 0 _ a b c.user_named.ensures.calls first in
    key_not_set c.local_laws.ensures.each c.local_laws.ensures.whole (tables_of state a) (tables_of state b) (tables_of state d) w s (chars c.args.org.now) (chars c.args.user.now) (chars c.args.secret.now) (c.in_ok-number.number, c.in_ok-number.id) (omega arith) same
    (c.in_ok-number.ensures.finds first w s) c.change_key.result c.in_err-change_key.field-0.0 c.from_residual-in_err-change_key.result c.in_err-change_key.was c.from_residual-in_err-change_key.ensures.1 (c.change_key.ensures.what (c.call_laws.ensures.told_then 0 _ a b d c.user_named.ensures.calls first told))

pub returns-clause-sets : goal.returns-clause-sets
returns-clause-sets g c told w s =
    let state = g.K.Keeper.state in
    let a = c.args.draft.now in
    let b = c.user_named.new.draft in
    let d = c.change_key.new.draft in
    let first = c.draft_laws.ensures.told_first 1 0 0 a b d c.change_key.ensures.drafts.makes.works told in
    let same = c.call_laws.ensures.tables 0 _ a b c.user_named.ensures.calls first in
    key_set c.local_laws.ensures.each c.local_laws.ensures.whole (tables_of state a) (tables_of state b) (tables_of state d) w s (chars c.args.org.now) (chars c.args.user.now) (chars c.args.secret.now) (c.in_ok-number.number, c.in_ok-number.id) (omega arith) same
    (c.in_ok-number.ensures.finds first w s) c.in_ok-change_key.field-0 c.change_key.result c.in_ok-change_key.was (c.change_key.ensures.what (c.call_laws.ensures.told_then 0 _ a b d c.user_named.ensures.calls first told))
