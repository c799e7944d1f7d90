use Rattle.std.proofs.Common.{refl}
use Rattle.store_kv.specs.Draft.{tables_of}
use Rattle.access_user.specs.declared.sight.UserSight.{UserSight}
use Rattle.access_user.proofs.Judged.{sighted, unshared, unsighted}
use Rattle.access_user.proofs.sight.sight_of.Goals as goal

pub returns-in-Ok-has_shares-clause-finds : goal.returns-in-Ok-has_shares-clause-finds
returns-in-Ok-has_shares-clause-finds g c told =
    let state = g.K.Keeper.state in
    let a = c.args.draft.now in
    let b = c.own_top.new.draft in
    let d = c.has_shares.new.draft in
    let tell = c.draft_laws.ensures.both 0 0 a b d c.own_top.ensures.calls.reads c.has_shares.ensures.calls.reads told in
    let sight : UserSight = record { rights = c.args.rights; own = c.in-Ok.own; shared = c.in-Ok-has_shares.shared } in
    sighted c.args.rights.now c.args.layout.now (tables_of state a) (tables_of state b) tell.2 sight refl (c.in-Ok.ensures.finds tell.0) (c.in-Ok-has_shares.ensures.finds tell.1)

pub returns-in-Err-has_shares-clause-finds : goal.returns-in-Err-has_shares-clause-finds
returns-in-Err-has_shares-clause-finds g c told =
    let state = g.K.Keeper.state in
    let a = c.args.draft.now in
    let b = c.own_top.new.draft in
    let d = c.has_shares.new.draft in
    let tell = c.draft_laws.ensures.both 0 0 a b d c.own_top.ensures.calls.reads c.has_shares.ensures.calls.reads told in
    unshared c.args.rights.now c.args.layout.now (tables_of state a) (tables_of state b) tell.2 c.in-Err-has_shares.fail (c.in-Err-has_shares.ensures.finds tell.1)

pub returns-in-Err-clause-finds : goal.returns-in-Err-clause-finds
returns-in-Err-clause-finds g c told =
    unsighted c.args.rights.now c.args.layout.now (tables_of g.K.Keeper.state c.args.draft.now) c.in-Err.fail (c.in-Err.ensures.finds told)
