-- How far the change of a field's type is, by its parts.
use Rattle.std.specs.Prelude.{◌≡◌, ℕ, List, [], Option, slice_get}
use Rattle.std.specs.Option.{option_and_then}
use Rattle.base_value.specs.declared.job.Outcome.{Outcome}
use Rattle.base_value.specs.declared.job.Phase.{Phase}
use Rattle.model.specs.Cases.{in_case}
use Rattle.model.specs.Objects.{object_numbered}
use Rattle.model.specs.Tenant.{Job, Tenant}

-- the names of the object and of its field whose type changes; empty where there is none
abbrev pub changing_object : Tenant → Job → List ℕ
changing_object t j = in_case (object_numbered t j.object) [] (λ o. o.name)

abbrev pub changing_field : Tenant → Job → List ℕ
changing_field t j = in_case (option_and_then (λ o. slice_get o.fields j.field) (object_numbered t j.object)) [] (λ f. f.name)

-- these are the names, the phase, the outcome, and the record that didn't convert
pub record IsStateOf (t : Tenant) (j : Job) (o f : List ℕ) (p : Phase) (x : Outcome) (r : Option (List ℕ)) : Type 0 where
  pub object : o ≡ changing_object t j
  pub field : f ≡ changing_field t j
  pub phase : p ≡ j.phase
  pub outcome : x ≡ j.outcome
  pub failed : r ≡ j.failed
