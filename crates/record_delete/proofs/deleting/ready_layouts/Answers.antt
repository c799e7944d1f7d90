use Rattle.std.proofs.Common.{◌≤◌, ◌∙◌, List, Some, length, subst, sym}
use Rattle.store_abstraction.specs.declared.layout.Layout.{Layout}
use Rattle.record_delete.specs.inner.Adding.{AreReady}
use Rattle.record_delete.proofs.ReadyLayouts.{all_pass, all_ready}
use Rattle.record_delete.proofs.deleting.ready_layouts.Goals as goal

pub returns-then-are_ready-clause-ready : goal.returns-then-are_ready-clause-ready
returns-then-are_ready-clause-ready g c =
    subst (λ (ls : List Layout). AreReady c.args.org ls × (length ls ≤ 100)) c.as_slice.ensures (all_ready c.args.org c.as_slice.result.now (sym c.are_ready.ensures ∙ c.if-are_ready.true))

pub returns-else-are_ready-clause-finds : goal.returns-else-are_ready-clause-finds
returns-else-are_ready-clause-finds g c told q t s =
    λ _. all_pass c.data_laws.ensures.typed c.pivot_laws.ensures.converting c.args.org q t s.sound c.as_slice.result.now (sym (c.in_ok-all.ensures.finds told q (Some t) s) ∙ sym c.as_slice.ensures) (sym c.are_ready.ensures ∙ c.if-are_ready.false)
