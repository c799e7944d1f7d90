-- How far the change of a field's type is: what is told of it. It is this product's own.
use Rattle.std.specs.Prelude.{[], slice_get}
use Rattle.std.specs.Option.{option_and_then}
use Rattle.model.specs.Cases.{in_case}
use Rattle.model.specs.Objects.{object_numbered}
use Rattle.model.specs.Tenant.{Job, Tenant}
use Rattle.retype_request.specs.declared.state.ChangeState.{ChangeState}

-- the names of its object and of its field, empty where there is none, and how far it is
abbrev pub state_in : Tenant → Job → ChangeState
state_in t j =
    record {
      object = in_case (object_numbered t j.object) [] (λ o. o.name);
      field = in_case (option_and_then (λ o. slice_get o.fields j.field) (object_numbered t j.object)) [] (λ f. f.name);
      phase = j.phase;
      outcome = j.outcome;
      failed = j.failed;
    }
