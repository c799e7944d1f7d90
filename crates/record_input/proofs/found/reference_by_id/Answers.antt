use Rattle.std.proofs.Common.{ap, sym, ◌∙◌, List, ℕ}
use Rattle.base_value.specs.declared.value.Value.TheVariants.{Ref}
use Rattle.record_input.specs.inner.Found.{reference_by_id}
use Rattle.record_input.proofs.Known.{none_made}
use Rattle.record_input.proofs.found.reference_by_id.Goals as goal

pub returns-in-None : goal.returns-in-None
returns-in-None c = ap (λ (id : List ℕ). Ref id) c.new.ensures ∙ none_made ∙ ap reference_by_id (sym c.in-None.is)
