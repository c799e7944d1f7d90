use Rattle.std.proofs.Common.{Some, subst, sym}
use Rattle.store_kv.specs.Tables.{Tables}
use Rattle.access_traits.specs.Rights.{level_shown}
use Rattle.store_abstraction.specs.Local.{StandsIn}
use Rattle.access_shares.proofs.Refusing.{by_level, detail_fails, level_fails, shareable_passed}
use Rattle.access_shares.proofs.shareable.find_shareable.Goals as goal

pub returns-in_err-level-clause-finds : goal.returns-in_err-level-clause-finds
returns-in_err-level-clause-finds g c told q a s w =
    let e = c.in_err-level.field-0.0 in
    shareable_passed a c.args.id.now e c.from_residual.result c.from_residual.ensures.1 (level_fails a c.args.id.now e (c.in_err-level.ensures.finds told q a s w))

pub returns-in_err-check_detail-clause-finds : goal.returns-in_err-check_detail-clause-finds
returns-in_err-check_detail-clause-finds g c told q a s w =
    let e = c.in_err-check_detail.field-0.0 in
    let next = c.in_err-check_detail.ensures in
    let tells = c.draft_laws.ensures.both level_shown 0 c.args.draft.now c.readable_level.new.draft c.check_detail.new.draft c.in_ok-level.ensures.calls.reads next.calls.reads told in
    let stands = subst (λ (m : Tables). StandsIn c.args.org q m (Some a.tenant)) (sym tells.2) s in
    let on = c.in_ok-level.ensures.finds tells.0 q a s w in
    shareable_passed a c.args.id.now e c.from_residual-in_err-check_detail.result c.from_residual-in_err-check_detail.ensures.1
    (detail_fails a c.args.id.now c.in_ok-level.level on e (next.passes tells.1 q a.tenant on.item stands on.there))

pub returns-clause-finds : goal.returns-clause-finds
returns-clause-finds g c told q a s w =
    let next = c.in_ok-check_detail.ensures in
    let tells = c.draft_laws.ensures.both level_shown 0 c.args.draft.now c.readable_level.new.draft c.check_detail.new.draft c.in_ok-level.ensures.calls.reads next.calls.reads told in
    let stands = subst (λ (m : Tables). StandsIn c.args.org q m (Some a.tenant)) (sym tells.2) s in
    let on = c.in_ok-level.ensures.finds tells.0 q a s w in
    by_level a c.args.id.now c.in_ok-level.level on (next.passes tells.1 q a.tenant on.item stands on.there).0 c.check_level.result c.check_level.ensures.passes
