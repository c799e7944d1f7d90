-- How far a change is, by its row and the layout of its object. No public contract reaches these words.
-- It is this product's own.
use Rattle.std.specs.Prelude.{ℕ, Bool, false, not, List, [], slice_get, Option}
use Rattle.store_rows.specs.declared.job.JobRow.{JobRow}
use Rattle.model.specs.Cases.{in_case}
use Rattle.model.specs.Retyping.{job_is_done}
use Rattle.store_abstraction.specs.declared.layout.Layout.{Layout}
use Rattle.retype_request.specs.declared.state.ChangeState.{ChangeState}

-- there is a change that isn't done
abbrev pub busy_by : Option JobRow → Bool
busy_by row = in_case row false (λ r. not (job_is_done r.phase))

abbrev pub object_name : Option Layout → List ℕ
object_name layout = in_case layout [] (λ l. l.name)

abbrev pub name_at : Layout → (field : ℕ) → List ℕ
name_at l field = in_case (slice_get l.fields field) [] (λ f. f.name)

abbrev pub field_name : Option Layout → (field : ℕ) → List ℕ
field_name layout field = in_case layout [] (λ l. name_at l field)

abbrev pub state_by : JobRow → Option Layout → ChangeState
state_by row layout =
    record {
      object = object_name layout;
      field = field_name layout row.field;
      phase = row.phase;
      outcome = row.outcome;
      failed = row.failed;
    }
