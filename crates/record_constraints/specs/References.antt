-- References of records, by the types of their fields.
use Rattle.std.specs.Prelude.{ℕ, List, Option, Some, None}
use Rattle.formula.specs.Meaning.{value_at}
use Rattle.model.specs.Cases.{in_case}
use Rattle.model.specs.Relationships.{target_of}
use Rattle.model.specs.declared.record.Record.{Record}
use Rattle.base_value.specs.Values.{ref_of}
use Rattle.base_value.specs.declared.value.FieldType.{FieldType}

-- the object and the id to which a record's value at a position refers
abbrev pub named_at : FieldType → (position : ℕ) → Record → Option (ℕ × List ℕ)
named_at kind position r =
    in_case (target_of kind) None (λ object. in_case (ref_of (value_at r.values position)) None (λ id. Some (object, id)))
