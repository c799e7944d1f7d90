-- The changes of a step are at keys of the organisation, whatever was read.
use Rattle.std.proofs.Common.{◌≡◌, ℕ, cond, List, [], ◌∷◌, ◌++◌, Option, Some, None, refl, subst, bytes_eq}
use Rattle.std.specs.List.{AllByRecursion, find}
use Rattle.base_lemmas.proofs.Bools.{by_answer as pick}
use Rattle.retype_step.specs.inner.Deciding.{clear_decided, copied, copy_decided, decided, is_bad_by, page_decided}
use Rattle.retype_step.specs.inner.Rows.{done_row, failed_row, row_alone, switch_decided}
use Rattle.store_rows.specs.declared.data.DataRow.{DataRow}
use Rattle.store_rows.specs.declared.job.JobRow.{JobRow}
use Rattle.store_rows.specs.Keys.{FitsKey, Index, Key, Relation, Unique}
use Rattle.model.specs.Cases.{in_case}
use Rattle.model.specs.Jobs.{last_id}
use Rattle.model.specs.RuleFormulas.{is_copy}
use Rattle.model.specs.declared.record.Record.{Record}
use Rattle.record_index.specs.Changed.{index_key, reference_key, row_turned, slot_changes, unique_key}
use Rattle.record_index.specs.Removed.{beside_entry}
use Rattle.retype_step.specs.backfill.Progress.{come_to, page_changes, record_moves, records_move}
use Rattle.store_abstraction.specs.Changes.{Change}
use Rattle.store_abstraction.specs.declared.layout.FieldPlace.{FieldPlace}
use Rattle.store_abstraction.specs.declared.layout.JobPlace.{JobPlace}
use Rattle.store_abstraction.specs.declared.layout.Layout.{Layout}
use Rattle.store_abstraction.specs.Entries.{Entry}
use Rattle.store_abstraction.specs.Local.{IsIn}
use Rattle.store_abstraction.specs.Stands.{org_of_key}

abbrev pub HaveKeys : List Change → Type 0
HaveKeys cs = AllByRecursion (λ (c : Change). FitsKey c.0) cs

pub keys_first : (xs ys : List Change) → HaveKeys (xs ++ ys) → HaveKeys xs
keys_first [] ys h = tt
keys_first (x ∷ xs) ys h = (h.0, keys_first xs ys h.1)

module _ (org : ℕ) where
  abbrev AreOwn : List Change → Type 0
  AreOwn cs = AllByRecursion (λ (c : Change). org_of_key c.0 ≡ Some org) cs

  own_both : (xs ys : List Change) → AreOwn xs → AreOwn ys → AreOwn (xs ++ ys)
  own_both [] ys a b = b
  own_both (x ∷ xs) ys a b = (a.0, own_both xs ys a.1 b)

  own_turned : (make : List ℕ → Key) (row : List ℕ) (old new : Option (List ℕ)) → ((k : List ℕ) → org_of_key (make k) ≡ Some org) → AreOwn (row_turned make row old new)
  own_turned make row None None h = tt
  own_turned make row (Some a) None h = (h a, tt)
  own_turned make row None (Some b) h = (h b, tt)
  own_turned make row (Some a) (Some b) h = pick (bytes_eq a b) (λ x. AreOwn (cond x [] ((make a, None) ∷ (make b, Some row) ∷ []))) (λ _. tt) (λ _. (h a, (h b, tt)))

  own_slot : (n : ℕ) (id : List ℕ) (old new : Option Entry) (s : ℕ) → AreOwn (slot_changes org n id old new s)
  own_slot n id old new s =
      own_both (row_turned (λ k. Index org n s k id) [] (index_key old) (index_key new))
      (row_turned (λ k. Unique org n s k) id (unique_key old) (unique_key new) ++ row_turned (λ target. Relation org n s target id) [] (reference_key old) (reference_key new))
      (own_turned (λ k. Index org n s k id) [] (index_key old) (index_key new) (λ k. refl))
      (own_both (row_turned (λ k. Unique org n s k) id (unique_key old) (unique_key new)) (row_turned (λ target. Relation org n s target id) [] (reference_key old) (reference_key new))
      (own_turned (λ k. Unique org n s k) id (unique_key old) (unique_key new) (λ k. refl))
      (own_turned (λ target. Relation org n s target id) [] (reference_key old) (reference_key new) (λ k. refl)))

  all_in : (cs : List Change) → HaveKeys cs → AreOwn cs → AllByRecursion (IsIn org) cs
  all_in [] keys own = tt
  all_in (c ∷ cs) keys own = ((keys.0, own.0), all_in cs keys.1 own.1)

-- ---- of a page's records

own_moved : (l : Layout) (c : Option (List ℕ)) (kept : DataRow) (r : Record) → AreOwn l.org (record_moves l (come_to c l) kept r)
own_moved l c kept r = (refl, by l.job)
  where
    by : (job : Option JobPlace) → AreOwn l.org (in_case job [] (λ (j : JobPlace). slot_changes l.org l.object r.id (beside_entry l kept r j.twin) (beside_entry (come_to c l) kept r j.twin) j.twin))
    by None = tt
    by (Some j) = own_slot l.org l.object r.id (beside_entry l kept r j.twin) (beside_entry (come_to c l) kept r j.twin) j.twin

own_page : (l : Layout) (c : Option (List ℕ)) (rows : List DataRow) (rs : List Record) → AreOwn l.org (page_changes l c rows rs)
unfolding records_move
own_page l c [] rs = tt
own_page l c (row ∷ rows) [] = tt
own_page l c (row ∷ rows) (r ∷ rs) = own_both l.org (record_moves l (come_to c l) row r) (page_changes l c rows rs) (own_moved l c row r) (own_page l c rows rs)

-- ---- of a step

module _ (org : ℕ) (l : Layout) (own : l.org ≡ org) (f : FieldPlace) (rows : List DataRow) (rs : List Record) (row : JobRow) where
  own_page_decided : (cursor : Option (List ℕ)) → AreOwn org (page_decided org l cursor rows rs row)
  own_page_decided cursor =
      own_both org (page_changes l cursor rows rs) _ (subst (λ (n : ℕ). AreOwn n (page_changes l cursor rows rs)) own (own_page l cursor rows rs)) (refl, tt)

  own_copied : (cursor : Option (List ℕ)) → AreOwn org (copied org l cursor rows rs row)
  own_copied cursor = by (find (is_bad_by row) rs)
    where
      by : (x : Option Record) → AreOwn org (in_case x (page_decided org l cursor rows rs row) (λ (r : Record). row_alone (failed_row org r.id row)))
      by None = own_page_decided cursor
      by (Some r) = (refl, tt)

  own_copy : AreOwn org (copy_decided org l f rows rs row)
  own_copy = by (last_id rs)
    where
      by : (x : Option (List ℕ)) → AreOwn org (in_case x (switch_decided org f row) (λ (last : List ℕ). copied org l (Some last) rows rs row))
      by None = (refl, (refl, tt))
      by (Some last) = own_copied (Some last)

  own_clear : AreOwn org (clear_decided org l f rows rs row)
  own_clear = by (last_id rs)
    where
      by : (x : Option (List ℕ)) → AreOwn org (in_case x (row_alone (done_row org f row)) (λ (last : List ℕ). page_decided org l (Some last) rows rs row))
      by None = (refl, tt)
      by (Some last) = own_page_decided (Some last)

  pub own_decided : HaveKeys (decided org l f rows rs row) → AllByRecursion (IsIn org) (decided org l f rows rs row)
  own_decided keys =
      all_in org (decided org l f rows rs row) keys
      (pick (is_copy row.phase) (λ b. AreOwn org (cond b (copy_decided org l f rows rs row) (clear_decided org l f rows rs row))) (λ _. own_copy) (λ _. own_clear))
