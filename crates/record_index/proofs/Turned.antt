-- One row more, one less, or another in its place, in bytes.
use Rattle.std.proofs.Common.{◌≡◌, ℕ, ◌<◌, ◌^◌, Bool, true, false, cond, IsTrue, List, [], ◌∷◌, ◌++◌, map, Option, Some, None, refl, sym, ap, ap₂, ◌∙◌, append_assoc}
use Rattle.std.specs.Prelude.{IfSome, bytes_eq}
use Rattle.std.specs.List.{AllByRecursion}
use Rattle.std.specs.Option.{option_eq}
use Rattle.std.proofs.lemmas.Option.{IfSome_then}
use Rattle.std.proofs.lemmas.List.{append-nil as append_nothing}
use Rattle.base_lemmas.proofs.Bools.{by_answer as pick}
use Rattle.store_edit.specs.Rows.{spelled}
use Rattle.store_kv.specs.declared.keeper.Change.{Change as Spelled}
use Rattle.store_rows.specs.Keys.{FitsKey, Index, Key, Relation, Unique}
use Rattle.record_index.specs.Changed.{index_key, reference_key, slot_changes, row_turned, unique_key}
use Rattle.store_abstraction.specs.Changes.{Change}
use Rattle.store_abstraction.specs.Entries.{Entry}
use Rattle.base_value.specs.Bytes.{IsBytes}
use Rattle.base_value.specs.Id.{is_id}

-- ---- lists of changes

pub map_both : (xs ys : List Change) → map spelled (xs ++ ys) ≡ map spelled xs ++ map spelled ys
map_both [] ys = refl
map_both (x ∷ xs) ys = ap (λ (cs : List Spelled). spelled x ∷ cs) (map_both xs ys)

pub all_both : (xs ys : List Change) → AllByRecursion (λ c. FitsKey c.0) xs → AllByRecursion (λ c. FitsKey c.0) ys → AllByRecursion (λ c. FitsKey c.0) (xs ++ ys)
all_both [] ys a b = b
all_both (x ∷ xs) ys a b = (a.0, all_both xs ys a.1 b)

-- two lists of changes, one after the other
pub then_these : (xs ys : List Change) (before middle after : List Spelled) → middle ≡ before ++ map spelled xs → after ≡ middle ++ map spelled ys → after ≡ before ++ map spelled (xs ++ ys)
then_these xs ys before middle after m a =
    a ∙ ap (λ (cs : List Spelled). cs ++ map spelled ys) m ∙ append_assoc before (map spelled xs) (map spelled ys) ∙ ap (λ (cs : List Spelled). before ++ cs) (sym (map_both xs ys))

-- ---- rows that are turned

pub turned_nothing : (make : List ℕ → Key) (row : List ℕ) (old new : Option (List ℕ)) → option_eq bytes_eq old new ≡ true → row_turned make row old new ≡ []
turned_nothing make row None None e = refl
turned_nothing make row None (Some b) e = absurd cc
turned_nothing make row (Some a) None e = absurd cc
turned_nothing make row (Some a) (Some b) e = ap (λ (x : Bool). cond x [] ((make a, None) ∷ (make b, Some row) ∷ [])) e

turned_both : (make : List ℕ → Key) (row : List ℕ) (old new : Option (List ℕ)) → option_eq bytes_eq old new ≡ false
    → row_turned make row old new ≡ row_turned make row old None ++ row_turned make row None new
turned_both make row None None e = absurd cc
turned_both make row None (Some b) e = refl
turned_both make row (Some a) None e = refl
turned_both make row (Some a) (Some b) e = ap (λ (x : Bool). cond x [] ((make a, None) ∷ (make b, Some row) ∷ [])) e

-- nothing is changed where both have the same key
pub turned_same : (make : List ℕ → Key) (row : List ℕ) (old new : Option (List ℕ)) (before : List Spelled) → option_eq bytes_eq old new ≡ true
    → before ≡ before ++ map spelled (row_turned make row old new)
turned_same make row old new before e = sym (ap (λ (cs : List Change). before ++ map spelled cs) (turned_nothing make row old new e) ∙ append_nothing before)

-- else the old row goes, and the new one comes
pub turned_apart : (make : List ℕ → Key) (row : List ℕ) (old new : Option (List ℕ)) (before middle after : List Spelled) → option_eq bytes_eq old new ≡ false
    → middle ≡ before ++ map spelled (row_turned make row old None) → after ≡ middle ++ map spelled (row_turned make row None new)
    → after ≡ before ++ map spelled (row_turned make row old new)
turned_apart make row old new before middle after e m a =
    then_these (row_turned make row old None) (row_turned make row None new) before middle after m a
    ∙ ap (λ (cs : List Change). before ++ map spelled cs) (sym (turned_both make row old new e))

pub turned_fits : (make : List ℕ → Key) (row : List ℕ) (old new : Option (List ℕ)) → IfSome old (λ k. FitsKey (make k)) → IfSome new (λ k. FitsKey (make k))
    → AllByRecursion (λ c. FitsKey c.0) (row_turned make row old new)
turned_fits make row None None f g = tt
turned_fits make row None (Some b) f g = (g, tt)
turned_fits make row (Some a) None f g = (f, tt)
turned_fits make row (Some a) (Some b) f g =
    pick (bytes_eq a b) (λ x. AllByRecursion (λ (c : Change). FitsKey c.0) (cond x [] ((make a, None) ∷ (make b, Some row) ∷ []))) (λ _. tt) (λ _. (f, (g, tt)))

-- the same of keys whose parts fit
pub turned_index_fits : (org n s : ℕ) (id : List ℕ) (old new : Option (List ℕ)) → org < 2 ^ 32 → n < 2 ^ 16 → s < 256 → IsTrue (is_id id) → IfSome old IsBytes → IfSome new IsBytes
    → AllByRecursion (λ c. FitsKey c.0) (row_turned (λ k. Index org n s k id) [] old new)
turned_index_fits org n s id old new lo ln ls is f g =
    turned_fits (λ k. Index org n s k id) [] old new (IfSome_then old f (λ k b. (lo, (ln, (ls, (b, is)))))) (IfSome_then new g (λ k b. (lo, (ln, (ls, (b, is))))))

pub turned_unique_fits : (org n s : ℕ) (id : List ℕ) (old new : Option (List ℕ)) → org < 2 ^ 32 → n < 2 ^ 16 → s < 256 → IfSome old IsBytes → IfSome new IsBytes
    → AllByRecursion (λ c. FitsKey c.0) (row_turned (λ k. Unique org n s k) id old new)
turned_unique_fits org n s id old new lo ln ls f g =
    turned_fits (λ k. Unique org n s k) id old new (IfSome_then old f (λ k b. (lo, (ln, (ls, b))))) (IfSome_then new g (λ k b. (lo, (ln, (ls, b)))))

pub turned_reference_fits : (org n s : ℕ) (id : List ℕ) (old new : Option (List ℕ)) → org < 2 ^ 32 → n < 2 ^ 16 → s < 256 → IsTrue (is_id id)
    → IfSome old (λ i. IsTrue (is_id i)) → IfSome new (λ i. IsTrue (is_id i))
    → AllByRecursion (λ c. FitsKey c.0) (row_turned (λ k. Relation org n s k id) [] old new)
turned_reference_fits org n s id old new lo ln ls is f g =
    turned_fits (λ k. Relation org n s k id) [] old new (IfSome_then old f (λ k b. (lo, (ln, (ls, (b, is)))))) (IfSome_then new g (λ k b. (lo, (ln, (ls, (b, is))))))

-- ---- the three tables in turn

pub slot_turned : (org n : ℕ) (id : List ℕ) (e f : Option Entry) (s : ℕ) (old_index new_index old_unique new_unique old_reference new_reference : Option (List ℕ)) (start first second third : List Spelled)
    → old_index ≡ index_key e → new_index ≡ index_key f → old_unique ≡ unique_key e → new_unique ≡ unique_key f → old_reference ≡ reference_key e → new_reference ≡ reference_key f
    → first ≡ start ++ map spelled (row_turned (λ k. Index org n s k id) [] old_index new_index)
    → second ≡ first ++ map spelled (row_turned (λ k. Unique org n s k) id old_unique new_unique)
    → third ≡ second ++ map spelled (row_turned (λ k. Relation org n s k id) [] old_reference new_reference)
    → third ≡ start ++ map spelled (slot_changes org n id e f s)
slot_turned org n id e f s oi ni ou nu orf nrf start first second third a b c d g h x y z =
    let index = row_turned (λ k. Index org n s k id) [] oi ni in
    let unique = row_turned (λ k. Unique org n s k) id ou nu in
    let reference = row_turned (λ k. Relation org n s k id) [] orf nrf in
    z ∙ ap (λ (cs : List Spelled). cs ++ map spelled reference) y ∙ append_assoc first (map spelled unique) (map spelled reference)
    ∙ ap (λ (cs : List Spelled). first ++ cs) (sym (map_both unique reference))
    ∙ ap (λ (cs : List Spelled). cs ++ map spelled (unique ++ reference)) x ∙ append_assoc start (map spelled index) (map spelled (unique ++ reference))
    ∙ ap (λ (cs : List Spelled). start ++ cs) (sym (map_both index (unique ++ reference)))
    ∙ ap₂ (λ (o : Option (List ℕ)) (w : Option (List ℕ)). start ++ map spelled (row_turned (λ k. Index org n s k id) [] o w ++ (unique ++ reference))) a b
    ∙ ap₂ (λ (o : Option (List ℕ)) (w : Option (List ℕ)). start ++ map spelled (row_turned (λ k. Index org n s k id) [] (index_key e) (index_key f) ++ (row_turned (λ k. Unique org n s k) id o w ++ reference))) c d
    ∙ ap₂ (λ (o : Option (List ℕ)) (w : Option (List ℕ)). start ++ map spelled (row_turned (λ k. Index org n s k id) [] (index_key e) (index_key f) ++ (row_turned (λ k. Unique org n s k) id (unique_key e) (unique_key f) ++ row_turned (λ k. Relation org n s k id) [] o w))) g h
