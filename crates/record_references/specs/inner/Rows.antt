-- The rows of the references to one record in a slot: their keys, and the ids in them. No public contract reaches these words.
use Rattle.std.specs.Prelude.{ℕ, List, map, Result, Ok, Err, Vec}
use Rattle.store_rows.specs.declared.fail.StoreFail.{StoreFail}
use Rattle.store_rows.specs.declared.relation.RelationRow.{RelationRow}
use Rattle.store_rows.specs.Keys.{slot_key}
use Rattle.store_codec.specs.Shapes.{Both, FitsIn, Identity, spelled}

-- an organisation, an object, a slot, and the record that is referred to
abbrev pub Front : Type 0
Front = ℕ × (ℕ × (ℕ × List ℕ))

abbrev pub FitsFront : Front → Type 0
FitsFront p = FitsIn (slot_key Identity) p

-- what the keys begin with
abbrev pub front_bytes : Front → List ℕ
front_bytes p = spelled (slot_key Identity) p

-- the parts of the key of the record with this id, and its bytes
abbrev pub parts_at : Front → List ℕ → ℕ × (ℕ × (ℕ × (List ℕ × List ℕ)))
parts_at p id = (p.0, (p.1.0, (p.1.1.0, (p.1.1.1, id))))

abbrev pub key_at : Front → List ℕ → List ℕ
key_at p id = spelled (slot_key (Both Identity Identity)) (parts_at p id)

-- the ids of the records whose rows these are
abbrev pub ids_in : List RelationRow → List (List ℕ)
ids_in rows = map (λ row. row.id) rows

-- the same of the rows that were read
abbrev pub ids_from : {A : Type 0} → Result (Vec RelationRow A) StoreFail → Result (List (List ℕ)) StoreFail
ids_from (Ok rows) = Ok (ids_in rows.items)
ids_from (Err fail) = Err fail
