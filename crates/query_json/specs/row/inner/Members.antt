-- Parents.
use Rattle.std.specs.Prelude.{ℕ, List, [], ◌∷◌, map, Option, slice_get}
use Rattle.std.specs.Option.{option_and_then}
use Rattle.base_json.specs.Printing.{printed_null}
use Rattle.model.specs.Cases.{in_case}
use Rattle.model.specs.RowsJson.{object_json}
use Rattle.model.specs.declared.record.Record.{Record}
use Rattle.query_plan.specs.Shown.{Shows, member_text, type_and_address}
use Rattle.query_plan.specs.declared.plan.Member.{Member}

-- the record of a branch, if there is one
abbrev pub record_at : (far : List (Option Record)) → ℕ → Option Record
record_at far n = option_and_then (λ p. p) (slice_get far n)

-- what is behind the colon: null where the branch has no record, and else nothing
abbrev pub end_text : (far : List (Option Record)) → ℕ → List ℕ
end_text far n = in_case (record_at far n) printed_null (λ p. [])

-- a parent: its type and its address, and its members, which are by the row's record
abbrev pub parent_text : Shows → (far : List (Option Record)) → Record → (object : List ℕ) → List Member → (parent : Record) → List ℕ
parent_text shows far r object members parent = object_json (type_and_address object parent.id ∷ map (member_text shows far r) members)
