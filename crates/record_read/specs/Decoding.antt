-- The record that a row spells, by the layout of its object.
-- Source: C. D. Weissman and S. Bobrowski, "The Design of the Force.com Multitenant Internet Application Development
-- Platform" (SIGMOD 2009): slots hold texts, and metadata say what each of them means.
use Rattle.std.specs.Prelude.{ℕ, Bool, if◌then◌else◌, List, [], ◌∷◌, map, Option, Some, None, slice_get, unwrap_or}
use Rattle.std.specs.List.{list_all}
use Rattle.std.specs.Option.{option_map}
use Rattle.base_value.specs.Conversion.{where_read}
use Rattle.base_value.specs.Reading.{read_value}
use Rattle.base_value.specs.Types.{is_type}
use Rattle.base_value.specs.declared.value.FieldType.{FieldType}
use Rattle.base_value.specs.declared.value.FieldType.TheVariants as type
use Rattle.base_value.specs.declared.value.Value.{Value}
use Rattle.store_codec.specs.Plain.{◌>>=◌}
use Rattle.store_rows.specs.declared.data.DataRow.{DataRow}
use Rattle.model.specs.declared.record.Record.{Record}
use Rattle.store_abstraction.specs.declared.layout.FieldPlace.{FieldPlace}
use Rattle.store_abstraction.specs.declared.layout.Layout.{Layout}

-- the types of all fields are within their bounds
abbrev pub has_types : Layout → Bool
has_types l = list_all (λ f. is_type f.kind) l.fields

-- what the text in a slot reads as; no text reads as the empty one does
abbrev pub read_slot : FieldType → Option (List ℕ) → Option Value
read_slot kind text = where_read (read_value kind (unwrap_or text []))

-- the value of a field, if there is such a slot and its text reads
abbrev pub value_from : (slots : List (Option (List ℕ))) → FieldPlace → Option Value
value_from slots f = slice_get slots f.slot >>= read_slot f.kind

-- what is made of each, if something is made of all
abbrev pub each_from : {X Y : Type 0} → (X → Option Y) → List X → Option (List Y)
each_from make [] = Some []
each_from make (x ∷ xs) = make x >>= λ y. each_from make xs >>= λ ys. Some (y ∷ ys)

-- the types of a record's values, of which the name's is the first
abbrev pub kinds_in : List FieldPlace → List FieldType
kinds_in fields = type.Text 80 ∷ map (λ f. f.kind) fields

-- the name, and then the values of these fields
abbrev pub all_from : DataRow → List FieldPlace → Option (List Value)
all_from row fields = read_slot (type.Text 80) row.name >>= λ v. each_from (value_from row.slots) fields >>= λ vs. Some (v ∷ vs)

-- the record, where the layout's types are types
abbrev pub record_from : Layout → DataRow → Option Record
record_from l row =
    if has_types l
    then option_map (λ vs. record { id = row.id; owner = row.owner; created = row.created; modified = row.modified; values = vs })
    (all_from row l.fields)
    else None
