-- The rows of a record that goes or changes are at keys of the organisation.
use Rattle.std.proofs.Common.{◌≡◌, ℕ, cond, List, [], ◌∷◌, ◌++◌, Option, Some, None, refl, bytes_eq}
use Rattle.std.specs.List.{AllByRecursion, flat_map, range_with_len}
use Rattle.base_lemmas.proofs.Bools.{by_answer as pick}
use Rattle.store_rows.specs.declared.data.DataRow.{DataRow}
use Rattle.store_rows.specs.Keys.{FitsKey, Index, Key, Relation, Unique}
use Rattle.model.specs.declared.record.Record.{Record}
use Rattle.record_index.specs.Changed.{index_key, reference_key, row_turned, slot_changes, unique_key}
use Rattle.record_index.specs.Turned.{turned_changes, turned_entry, values_turned}
use Rattle.record_index.specs.Removed.{removed_changes, removed_entry, values_removed}
use Rattle.store_abstraction.specs.Changes.{Change}
use Rattle.store_abstraction.specs.declared.layout.Layout.{Layout}
use Rattle.store_abstraction.specs.Entries.{Entry}
use Rattle.store_abstraction.specs.Local.{IsIn}
use Rattle.store_abstraction.specs.Plan.{slot_count}
use Rattle.store_abstraction.specs.Stands.{org_of_key}

abbrev pub HaveKeys : List Change → Type 0
HaveKeys cs = AllByRecursion (λ (c : Change). FitsKey c.0) cs

module _ (org : ℕ) where
  abbrev AreOwn : List Change → Type 0
  AreOwn cs = AllByRecursion (λ (c : Change). org_of_key c.0 ≡ Some org) cs

  own_both : (xs ys : List Change) → AreOwn xs → AreOwn ys → AreOwn (xs ++ ys)
  own_both [] ys a b = b
  own_both (x ∷ xs) ys a b = (a.0, own_both xs ys a.1 b)

  own_turned : (make : List ℕ → Key) (row : List ℕ) (old new : Option (List ℕ)) → ((k : List ℕ) → org_of_key (make k) ≡ Some org) → AreOwn (row_turned make row old new)
  own_turned make row None None h = tt
  own_turned make row (Some a) None h = (h a, tt)
  own_turned make row None (Some b) h = (h b, tt)
  own_turned make row (Some a) (Some b) h = pick (bytes_eq a b) (λ x. AreOwn (cond x [] ((make a, None) ∷ (make b, Some row) ∷ []))) (λ _. tt) (λ _. (h a, (h b, tt)))

  own_slot : (n : ℕ) (id : List ℕ) (old new : Option Entry) (s : ℕ) → AreOwn (slot_changes org n id old new s)
  own_slot n id old new s =
      own_both (row_turned (λ k. Index org n s k id) [] (index_key old) (index_key new))
      (row_turned (λ k. Unique org n s k) id (unique_key old) (unique_key new) ++ row_turned (λ target. Relation org n s target id) [] (reference_key old) (reference_key new))
      (own_turned (λ k. Index org n s k id) [] (index_key old) (index_key new) (λ k. refl))
      (own_both (row_turned (λ k. Unique org n s k) id (unique_key old) (unique_key new)) (row_turned (λ target. Relation org n s target id) [] (reference_key old) (reference_key new))
      (own_turned (λ k. Unique org n s k) id (unique_key old) (unique_key new) (λ k. refl))
      (own_turned (λ target. Relation org n s target id) [] (reference_key old) (reference_key new) (λ k. refl)))

  own_flat : (f : ℕ → List Change) (ss : List ℕ) → ((s : ℕ) → AreOwn (f s)) → AreOwn (flat_map f ss)
  own_flat f [] h = tt
  own_flat f (s ∷ ss) h = own_both (f s) (flat_map f ss) (h s) (own_flat f ss h)

  all_in : (cs : List Change) → HaveKeys cs → AreOwn cs → AllByRecursion (IsIn org) cs
  all_in [] keys own = tt
  all_in (c ∷ cs) keys own = ((keys.0, own.0), all_in cs keys.1 own.1)

-- where their keys have spellings
pub removed_in : (l : Layout) (kept : DataRow) (old : Record) → HaveKeys (removed_changes l kept old) → AllByRecursion (IsIn l.org) (removed_changes l kept old)
unfolding removed_changes values_removed
removed_in l kept old keys =
    all_in l.org (removed_changes l kept old) keys
    (refl, own_flat l.org (λ s. slot_changes l.org l.object old.id (removed_entry l kept old s) None s) (range_with_len 0 slot_count) (λ s. own_slot l.org l.object old.id (removed_entry l kept old s) None s))

pub turned_in : (l : Layout) (kept : DataRow) (old new : Record) → HaveKeys (turned_changes l kept old new) → AllByRecursion (IsIn l.org) (turned_changes l kept old new)
unfolding turned_changes values_turned
turned_in l kept old new keys =
    all_in l.org (turned_changes l kept old new) keys
    (refl, own_flat l.org (λ s. slot_changes l.org l.object new.id (turned_entry l old s) (turned_entry l new s) s) (range_with_len 0 slot_count) (λ s. own_slot l.org l.object new.id (turned_entry l old s) (turned_entry l new s) s))
