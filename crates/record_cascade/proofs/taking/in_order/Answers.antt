use Rattle.std.proofs.Common.{List, ℕ, sym, subst, ◌∙◌}
use Rattle.record_cascade.specs.inner.Masters.{IsInOrder}
use Rattle.record_cascade.proofs.taking.in_order.Goals as goal

pub returns : goal.returns
returns c = subst (λ (is : List (List ℕ)). IsInOrder c.args.ids.now is) (sym (c.from_vec.ensures ∙ c.in_ok-listed.ensures)) c.in_ok-set.ensures
