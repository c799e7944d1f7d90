-- The members that say how far the change of a field's type is.
use Rattle.std.specs.Prelude.{ℕ, List, [], ◌∷◌, ◌++◌, codes, Option}
use Rattle.base_json.specs.Printing.{printed_text, printed_null}
use Rattle.base_value.specs.declared.job.Outcome.{Outcome}
use Rattle.base_value.specs.declared.job.Phase.{Phase}
use Rattle.model.specs.Cases.{in_case}
use Rattle.model.specs.Replies.{id_json, outcome_name, phase_name}
use Rattle.model.specs.RowsJson.{member_json}

-- which field it is
abbrev pub place_members : (object field : List ℕ) → List (List ℕ)
place_members object field = member_json (codes "object") (printed_text object) ∷ member_json (codes "field") (printed_text field) ∷ []

-- the phase, the outcome, and the record that didn't convert, or null
abbrev pub phase_member : Phase → List ℕ
phase_member p = member_json (codes "phase") (printed_text (phase_name p))

abbrev pub outcome_member : Outcome → List ℕ
outcome_member x = member_json (codes "outcome") (printed_text (outcome_name x))

abbrev pub record_json : Option (List ℕ) → List ℕ
record_json r = in_case r printed_null id_json

abbrev pub progress_members : Phase → Outcome → Option (List ℕ) → List (List ℕ)
progress_members p x r = phase_member p ∷ outcome_member x ∷ member_json (codes "record") (record_json r) ∷ []

-- all of them
abbrev pub state_members : (object field : List ℕ) → Phase → Outcome → Option (List ℕ) → List (List ℕ)
state_members object field p x r = place_members object field ++ progress_members p x r
