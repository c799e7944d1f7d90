-- The rows that differ where one record comes, changes or goes: its own, and in each slot those of its value. One mechanism for
-- the three tables of values: index rows, unique rows, and rows of references.
-- Source: C. D. Weissman and S. Bobrowski, "The Design of the Force.com Multitenant Internet Application Development
-- Platform" (SIGMOD 2009), "Pivot Tables".
use Rattle.std.specs.Prelude.{◌≡◌, ℕ, ◌≤◌, Bool, false, not, ◌&&◌, if◌then◌else◌, List, [], ◌∷◌, ◌++◌, bytes_eq, Option, Some, None}
use Rattle.std.specs.List.{flat_map, range_with_len}
use Rattle.std.specs.Option.{option_and_then, option_map}
use Rattle.store_rows.specs.Forms.{row_bytes}
use Rattle.store_rows.specs.Keys.{Key, Data, Index, Unique, Relation}
use Rattle.store_rows.specs.Rows.{data_form}
use Rattle.model.specs.Fields.{is_null, ref_of}
use Rattle.store_abstraction.specs.Changes.{Change}
use Rattle.store_abstraction.specs.Entries.{Entry, data_of}
use Rattle.store_abstraction.specs.Plan.{slot_count}
use Rattle.store_abstraction.specs.Stands.{Kept}
use Rattle.base_value.specs.OrderKeys.{order_key}

-- ---- what a value is found by

-- an indexed value, by its order key; null isn't indexed
abbrev pub index_key : Option Entry → Option (List ℕ)
index_key e = option_and_then (λ x. if x.indexed && not (is_null x.value) then Some (order_key x.value) else None) e

-- a unique value, likewise
abbrev pub unique_key : Option Entry → Option (List ℕ)
unique_key e = option_and_then (λ x. if x.unique && not (is_null x.value) then Some (order_key x.value) else None) e

-- a reference, by the id that it names
abbrev pub reference_key : Option Entry → Option (List ℕ)
reference_key e = option_and_then (λ x. ref_of x.value) e

-- both are found by the same
pub record SameKeys (e f : Option Entry) : Type 0 where
  pub index : index_key e ≡ index_key f
  pub unique : unique_key e ≡ unique_key f
  pub reference : reference_key e ≡ reference_key f

-- it is found by this
abbrev pub is_at : Option (List ℕ) → List ℕ → Bool
is_at None k = false
is_at (Some a) k = bytes_eq a k

-- ---- one row more, one less, or another in its place

-- the row of the old is taken away and that of the new is put; nothing is done where both are found by the same
abbrev pub row_turned : (List ℕ → Key) → (row : List ℕ) → (old new : Option (List ℕ)) → List Change
row_turned make row None None = []
row_turned make row (Some a) None = (make a, None) ∷ []
row_turned make row None (Some b) = (make b, Some row) ∷ []
row_turned make row (Some a) (Some b) = if bytes_eq a b then [] else (make a, None) ∷ (make b, Some row) ∷ []

-- the three tables, in one slot of a record
abbrev pub slot_changes : (org object : ℕ) → (id : List ℕ) → (old new : Option Entry) → (slot : ℕ) → List Change
slot_changes org n id old new s =
    row_turned (λ k. Index org n s k id) [] (index_key old) (index_key new)
    ++ (row_turned (λ k. Unique org n s k) id (unique_key old) (unique_key new)
    ++ row_turned (λ target. Relation org n s target id) [] (reference_key old) (reference_key new))

-- ---- one record

-- what is in a slot, if the record is there
abbrev pub kept_entry : Option Kept → (slot : ℕ) → Option Entry
kept_entry kept s = option_and_then (λ (k : Kept). k.entries s) kept

-- the row of the record, if it is there
abbrev pub data_row : (org object : ℕ) → Option Kept → Option (List ℕ)
data_row org n kept = option_map (λ (k : Kept). row_bytes data_form (data_of org n k.item k.entries)) kept

-- all rows that differ
unfoldable pub record_changes : (org object : ℕ) → (id : List ℕ) → (old new : Option Kept) → List Change
record_changes org n id old new =
    (Data org n id, data_row org n new)
    ∷ flat_map (λ s. slot_changes org n id (kept_entry old s) (kept_entry new s) s) (range_with_len 0 slot_count)

-- nothing is past the last slot
abbrev pub IsLow : Option Kept → Type 0
IsLow kept = (s : ℕ) → slot_count ≤ s → kept_entry kept s ≡ None
