-- The ids to which branches lead. No public contract reaches these words.
use Rattle.std.specs.Prelude.{ℕ, List, Option, slice_get}
use Rattle.std.specs.Option.{option_and_then}
use Rattle.formula.specs.Meaning.{value_at}
use Rattle.model.specs.declared.record.Record.{Record}
use Rattle.base_value.specs.Values.{ref_of}
use Rattle.query_plan.specs.paths.Branches.{record_above}
use Rattle.query_plan.specs.declared.paths.branches.Branch.{Branch}

-- the id to which the value at a position refers, of the record with this number, if there is one
abbrev pub id_in : List (Option Record) → (number position : ℕ) → Option (List ℕ)
id_in before n position = option_and_then (λ p. ref_of (value_at p.values position)) (option_and_then (λ p. p) (slice_get before n))

-- the id to which a branch leads, by the row's record and those of the branches before
abbrev pub id_above : Record → (before : List (Option Record)) → Branch → Option (List ℕ)
id_above r before b = option_and_then (λ p. ref_of (value_at p.values b.step.position)) (record_above r before b.above)
