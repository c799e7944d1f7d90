use Rattle.std.proofs.Common.{Some, subst, sym, refl}
use Rattle.store_kv.specs.Tables.{Tables}
use Rattle.access_traits.specs.Rights.{level_shown}
use Rattle.store_abstraction.specs.Local.{StandsIn}
use Rattle.access_shares.specs.inner.Accepting.{share_named}
use Rattle.access_shares.proofs.Verdicts.{end_by, end_passed, end_unshareable}
use Rattle.access_shares.proofs.unsharing.accept_end.Goals as goal

pub returns-in_err-find_shareable-clause-accepts : goal.returns-in_err-find_shareable-clause-accepts
returns-in_err-find_shareable-clause-accepts g c told q a s w =
    let x = c.args.named.now in
    let e = c.in_err-find_shareable.field-0.0 in
    end_passed a x e c.from_residual.result c.from_residual.ensures.1 (end_unshareable a x e (c.in_err-find_shareable.ensures.finds told q a s w))

pub returns-clause-accepts : goal.returns-clause-accepts
returns-clause-accepts g c told q a s w =
    let x = c.args.named.now in
    let next = c.find_share.ensures in
    let tells = c.draft_laws.ensures.both level_shown 0 c.args.draft.now c.find_shareable.new.draft c.find_share.new.draft c.in_ok-find_shareable.ensures.calls.reads next.calls.reads told in
    let stands = subst (λ (m : Tables). StandsIn c.args.org q m (Some a.tenant)) (sym tells.2) s in
    end_by a x (c.in_ok-find_shareable.ensures.finds tells.0 q a s w) c.find_share.result (next.passes tells.1 q a.tenant (share_named x) stands refl refl)
