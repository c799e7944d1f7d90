-- How many changes there are, and how many of them remove a record's row: none, but for the one of a record that goes.
use Rattle.std.proofs.Common.{◌≡◌, ℕ, ◌+◌, ◌*◌, ◌≤◌, cond, List, [], ◌∷◌, ◌++◌, length, map, Option, Some, None, refl, arith, length-append}
use Rattle.std.specs.Prelude.{bytes_eq}
use Rattle.std.specs.List.{flat_map, range_with_len}
use Rattle.std.proofs.Math.Nat.{suc-mul}
use Rattle.base_lemmas.proofs.Bools.{by_answer as pick}
use Rattle.store_edit.specs.Rows.{gone_of, spelled}
use Rattle.store_kv.specs.State.{data_rows}
use Rattle.store_rows.specs.declared.data.DataRow.{DataRow}
use Rattle.store_rows.specs.Keys.{Index, Key, Relation, Unique, spell}
use Rattle.model.specs.declared.record.Record.{Record}
use Rattle.record_index.specs.Changed.{index_key, reference_key, slot_changes, row_turned, unique_key}
use Rattle.record_index.specs.Made.{layout_entry, made_changes, values_made}
use Rattle.record_index.specs.Removed.{removed_changes, removed_entry, values_removed}
use Rattle.record_index.specs.Turned.{turned_changes, turned_entry, values_turned}
use Rattle.store_abstraction.specs.Changes.{Change}
use Rattle.store_abstraction.specs.Entries.{Entry}
use Rattle.store_abstraction.specs.declared.layout.Layout.{Layout}

-- ---- one table

pub turned_few : (make : List ℕ → Key) (row : List ℕ) (old new : Option (List ℕ)) → length (row_turned make row old new) ≤ 2
turned_few make row None None = omega arith
turned_few make row None (Some b) = omega arith
turned_few make row (Some a) None = omega arith
turned_few make row (Some a) (Some b) = pick (bytes_eq a b) (λ x. length (cond {A = List Change} x [] ((make a, None) ∷ (make b, Some row) ∷ [])) ≤ 2) (λ _. omega arith) (λ _. omega arith)

come_few : (make : List ℕ → Key) (row : List ℕ) (new : Option (List ℕ)) → length (row_turned make row None new) ≤ 1
come_few make row None = omega arith
come_few make row (Some b) = omega arith

pub go_few : (make : List ℕ → Key) (row : List ℕ) (old : Option (List ℕ)) → length (row_turned make row old None) ≤ 1
go_few make row None = omega arith
go_few make row (Some a) = omega arith

abbrev GoesNowhere : (List ℕ → Key) → Type 0
GoesNowhere make = (k : List ℕ) → data_rows (spell (make k)).0 1 ≡ 0

turned_gone : (make : List ℕ → Key) (row : List ℕ) (old new : Option (List ℕ)) → GoesNowhere make → gone_of (map spelled (row_turned make row old new)) ≡ 0
turned_gone make row None None none = refl
turned_gone make row None (Some b) none = refl
turned_gone make row (Some a) None none = let e = none a in omega (arith, e)
turned_gone make row (Some a) (Some b) none =
    let e = none a in
    pick (bytes_eq a b) (λ x. gone_of (map spelled (cond x [] ((make a, None) ∷ (make b, Some row) ∷ []))) ≡ 0) (λ _. refl) (λ _. omega (arith, e))

gone_both : (xs ys : List Change) → gone_of (map spelled (xs ++ ys)) ≡ gone_of (map spelled xs) + gone_of (map spelled ys)
gone_both [] ys = omega arith
gone_both (x ∷ xs) ys = let e = gone_both xs ys in omega (arith, e)

none_of_both : (xs ys : List Change) → gone_of (map spelled xs) ≡ 0 → gone_of (map spelled ys) ≡ 0 → gone_of (map spelled (xs ++ ys)) ≡ 0
none_of_both xs ys a b = let e = gone_both xs ys in omega (arith, e, a, b)

-- ---- one slot

pub slot_few : (org n : ℕ) (id : List ℕ) (e f : Option Entry) (s : ℕ) → length (slot_changes org n id e f s) ≤ 6
slot_few org n id e f s =
    let index = row_turned (λ k. Index org n s k id) [] (index_key e) (index_key f) in
    let unique = row_turned (λ k. Unique org n s k) id (unique_key e) (unique_key f) in
    let reference = row_turned (λ k. Relation org n s k id) [] (reference_key e) (reference_key f) in
    omega (
      arith,
      length-append index (unique ++ reference),
      length-append unique reference,
      turned_few (λ k. Index org n s k id) [] (index_key e) (index_key f),
      turned_few (λ k. Unique org n s k) id (unique_key e) (unique_key f),
      turned_few (λ k. Relation org n s k id) [] (reference_key e) (reference_key f),
    )

pub slot_gone : (org n : ℕ) (id : List ℕ) (e f : Option Entry) (s : ℕ) → gone_of (map spelled (slot_changes org n id e f s)) ≡ 0
slot_gone org n id e f s =
    none_of_both (row_turned (λ k. Index org n s k id) [] (index_key e) (index_key f))
    (row_turned (λ k. Unique org n s k) id (unique_key e) (unique_key f) ++ row_turned (λ k. Relation org n s k id) [] (reference_key e) (reference_key f))
    (turned_gone (λ k. Index org n s k id) [] (index_key e) (index_key f) (λ k. refl))
    (none_of_both (row_turned (λ k. Unique org n s k) id (unique_key e) (unique_key f)) (row_turned (λ k. Relation org n s k id) [] (reference_key e) (reference_key f))
    (turned_gone (λ k. Unique org n s k) id (unique_key e) (unique_key f) (λ k. refl))
    (turned_gone (λ k. Relation org n s k id) [] (reference_key e) (reference_key f) (λ k. refl)))

slot_come_few : (org n : ℕ) (id : List ℕ) (f : Option Entry) (s : ℕ) → length (slot_changes org n id None f s) ≤ 3
slot_come_few org n id f s =
    let index = row_turned (λ k. Index org n s k id) [] None (index_key f) in
    let unique = row_turned (λ k. Unique org n s k) id None (unique_key f) in
    let reference = row_turned (λ k. Relation org n s k id) [] None (reference_key f) in
    omega (
      arith,
      length-append index (unique ++ reference),
      length-append unique reference,
      come_few (λ k. Index org n s k id) [] (index_key f),
      come_few (λ k. Unique org n s k) id (unique_key f),
      come_few (λ k. Relation org n s k id) [] (reference_key f),
    )

slot_go_few : (org n : ℕ) (id : List ℕ) (e : Option Entry) (s : ℕ) → length (slot_changes org n id e None s) ≤ 3
slot_go_few org n id e s =
    let index = row_turned (λ k. Index org n s k id) [] (index_key e) None in
    let unique = row_turned (λ k. Unique org n s k) id (unique_key e) None in
    let reference = row_turned (λ k. Relation org n s k id) [] (reference_key e) None in
    omega (
      arith,
      length-append index (unique ++ reference),
      length-append unique reference,
      go_few (λ k. Index org n s k id) [] (index_key e),
      go_few (λ k. Unique org n s k) id (unique_key e),
      go_few (λ k. Relation org n s k id) [] (reference_key e),
    )

-- ---- all slots

pub flat_few : (most : ℕ) (f : ℕ → List Change) → ((s : ℕ) → length (f s) ≤ most) → (ss : List ℕ) → length (flat_map f ss) ≤ length ss * most
flat_few most f few [] = omega arith
flat_few most f few (s ∷ ss) = omega (arith, suc-mul (length ss) most, length-append (f s) (flat_map f ss), few s, flat_few most f few ss)

flat_gone : (f : ℕ → List Change) → ((s : ℕ) → gone_of (map spelled (f s)) ≡ 0) → (ss : List ℕ) → gone_of (map spelled (flat_map f ss)) ≡ 0
flat_gone f none [] = refl
flat_gone f none (s ∷ ss) = none_of_both (f s) (flat_map f ss) (none s) (flat_gone f none ss)

-- ---- a new record

abbrev made_slot : Layout → Record → ℕ → List Change
made_slot l r s = slot_changes l.org l.object r.id None (layout_entry l r s) s

pub made_few : (l : Layout) (r : Record) → length (made_changes l r) ≤ 145
unfolding made_changes values_made
made_few l r =
    let few : length (values_made l r 48) ≤ 144 = flat_few 3 (made_slot l r) (λ s. slot_come_few l.org l.object r.id (layout_entry l r s) s) (range_with_len 0 48) in
    omega (arith, few)

pub made_gone : (l : Layout) (r : Record) → gone_of (map spelled (made_changes l r)) ≡ 0
unfolding made_changes values_made
made_gone l r = let none = flat_gone (made_slot l r) (λ s. slot_gone l.org l.object r.id None (layout_entry l r s) s) (range_with_len 0 48) in omega (arith, none)

-- ---- a record whose values change

abbrev turned_slot : Layout → Record → Record → ℕ → List Change
turned_slot l old new s = slot_changes l.org l.object new.id (turned_entry l old s) (turned_entry l new s) s

pub changed_few : (l : Layout) (kept : DataRow) (old new : Record) → length (turned_changes l kept old new) ≤ 289
unfolding turned_changes values_turned
changed_few l kept old new =
    let few : length (values_turned l old new 48) ≤ 288 = flat_few 6 (turned_slot l old new) (λ s. slot_few l.org l.object new.id (turned_entry l old s) (turned_entry l new s) s) (range_with_len 0 48) in
    omega (arith, few)

pub changed_gone : (l : Layout) (kept : DataRow) (old new : Record) → gone_of (map spelled (turned_changes l kept old new)) ≡ 0
unfolding turned_changes values_turned
changed_gone l kept old new =
    let none = flat_gone (turned_slot l old new) (λ s. slot_gone l.org l.object new.id (turned_entry l old s) (turned_entry l new s) s) (range_with_len 0 48) in
    omega (arith, none)

-- ---- a record that goes

abbrev removed_slot : Layout → DataRow → Record → ℕ → List Change
removed_slot l kept old s = slot_changes l.org l.object old.id (removed_entry l kept old s) None s

pub removed_few : (l : Layout) (kept : DataRow) (old : Record) → length (removed_changes l kept old) ≤ 145
unfolding removed_changes values_removed
removed_few l kept old =
    let few : length (values_removed l kept old 48) ≤ 144 = flat_few 3 (removed_slot l kept old) (λ s. slot_go_few l.org l.object old.id (removed_entry l kept old s) s) (range_with_len 0 48) in
    omega (arith, few)

pub removed_gone : (l : Layout) (kept : DataRow) (old : Record) → gone_of (map spelled (removed_changes l kept old)) ≤ 1
unfolding removed_changes values_removed
removed_gone l kept old =
    let none = flat_gone (removed_slot l kept old) (λ s. slot_gone l.org l.object old.id (removed_entry l kept old s) None s) (range_with_len 0 48) in
    omega (arith, none)
