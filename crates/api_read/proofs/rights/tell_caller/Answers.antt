use Rattle.std.proofs.Common.{◌∙◌, Result, arith, subst}
use Rattle.access_user.specs.Granting.{FindsRights, IsUserRights}
use Rattle.access_user.specs.declared.rights.UserRights.{UserRights}
use Rattle.model.specs.Shown.{readable_shown}
use Rattle.store_abstraction.specs.Calls.{Calls, ended, ended_edit}
use Rattle.store_kv.specs.Draft.{tables_of}
use Rattle.store_kv.specs.Tables.{Tables}
use Rattle.store_rows.specs.declared.fail.StoreFail.{StoreFail}
use Rattle.api_read.specs.Tells.{IsAsker, TellsTo}
use Rattle.api_read.proofs.Askers.{calls_within, no_rights, rights_of_asker, tells_them}
use Rattle.api_read.proofs.rights.tell_caller.Goals as goal

-- ---- an administrator

pub returns-then-caller-clause-tells : goal.returns-then-caller-clause-tells
returns-then-caller-clause-tells g c told =
    let caller = c.args.caller.now in
    tells_them caller.org (IsAsker caller) _ (g.Q.RecordRead.telling c.args.read.now) (tables_of g.K.Keeper.state c.args.draft.now) c.tell.result
    (λ q a s asking. asking.admin ∙ c.if-caller.true) (c.tell.ensures.tells told)

-- ---- any other user

pub returns-in-Ok-clause-tells : goal.returns-in-Ok-clause-tells
returns-in-Ok-clause-tells g c told =
    let state = g.K.Keeper.state in
    let caller = c.args.caller.now in
    let a = c.args.draft.now in
    let b = c.user_rights.new.draft in
    let d = c.tell-in-Ok.new.draft in
    let e = ended c.user_rights.result in
    let calls = c.user_rights.ensures.calls in
    let first = c.call_laws.ensures.told_first readable_shown (ended_edit c.tell-in-Ok.result) a b d c.tell-in-Ok.ensures.calls told in
    let later = c.call_laws.ensures.told_then 0 e a b d calls first told in
    let same = c.call_laws.ensures.tables 0 e a b calls first in
    let finds = subst (λ (r : Result UserRights StoreFail). FindsRights caller.org caller.user (tables_of state a) r) c.in-Ok.is (c.user_rights.ensures.finds first) in
    tells_them caller.org (IsAsker caller) (λ x. IsUserRights x.tenant x.user c.in-Ok.rights) (g.Q.RecordRead.telling c.args.read.now) (tables_of state a) c.tell-in-Ok.result
    (rights_of_asker caller (tables_of state a) c.in-Ok.rights c.if-caller.false finds)
    (subst (λ (t : Tables). TellsTo caller.org (λ x. IsUserRights x.tenant x.user c.in-Ok.rights) (g.Q.RecordRead.telling c.args.read.now) t c.tell-in-Ok.result) same (c.tell-in-Ok.ensures.tells later))

pub returns-in-Ok-clause-calls : goal.returns-in-Ok-clause-calls
returns-in-Ok-clause-calls g c =
    let state = g.K.Keeper.state in
    c.call_laws.ensures.then 0 readable_shown (ended_edit c.tell-in-Ok.result) c.args.draft.now c.user_rights.new.draft c.tell-in-Ok.new.draft
    (subst (λ (r : Result UserRights StoreFail). Calls state 0 (ended r) c.args.draft.now c.user_rights.new.draft) c.in-Ok.is c.user_rights.ensures.calls) c.tell-in-Ok.ensures.calls

-- ---- rights that weren't read

pub returns-in-Err-clause-tells : goal.returns-in-Err-clause-tells
returns-in-Err-clause-tells g c told =
    let state = g.K.Keeper.state in
    let caller = c.args.caller.now in
    let m = tables_of state c.args.draft.now in
    no_rights caller.org caller.user (IsAsker caller) (g.Q.RecordRead.telling c.args.read.now) m c.in-Err.fail
    (subst (λ (r : Result UserRights StoreFail). FindsRights caller.org caller.user m r) c.in-Err.is (c.user_rights.ensures.finds told))

pub returns-in-Err-clause-calls : goal.returns-in-Err-clause-calls
returns-in-Err-clause-calls g c =
    let state = g.K.Keeper.state in
    calls_within state c.draft_laws.ensures.reads_most 0 readable_shown _ c.args.draft.now c.user_rights.new.draft (omega arith)
    (subst (λ (r : Result UserRights StoreFail). Calls state 0 (ended r) c.args.draft.now c.user_rights.new.draft) c.in-Err.is c.user_rights.ensures.calls)
