-- The changes of a step are some, few, and remove no data row.
use Rattle.std.proofs.Common.{◌≡◌, ◌∙◌, ◌<◌, ◌≤◌, ◌+◌, ℕ, cond, List, [], ◌∷◌, ◌++◌, length, map, Option, Some, None, refl, sym, ap, subst, arith, length-append as length_both}
use Rattle.std.specs.List.{find}
use Rattle.base_lemmas.proofs.Bools.{by_answer as pick}
use Rattle.retype_step.specs.inner.Deciding.{clear_decided, copied, copy_decided, decided, is_bad_by, page_decided}
use Rattle.retype_step.specs.inner.Rows.{done_row, failed_row, moved_row, row_alone, switch_decided}
use Rattle.store_edit.specs.Rows.{AreFew, gone_of, spelled}
use Rattle.store_kv.specs.declared.keeper.Change.{Change as Spelled}
use Rattle.store_rows.specs.declared.data.DataRow.{DataRow}
use Rattle.store_rows.specs.declared.job.JobRow.{JobRow}
use Rattle.model.specs.Cases.{in_case}
use Rattle.model.specs.Jobs.{last_id}
use Rattle.model.specs.RuleFormulas.{is_copy}
use Rattle.model.specs.declared.record.Record.{Record}
use Rattle.retype_step.specs.backfill.Progress.{page_changes}
use Rattle.store_abstraction.specs.Changes.{Change}
use Rattle.store_abstraction.specs.declared.layout.FieldPlace.{FieldPlace}
use Rattle.store_abstraction.specs.declared.layout.Layout.{Layout}

-- what `backfill` says of a page
abbrev pub PageRemovesNone : Type 0
PageRemovesNone = (l : Layout) (c : Option (List ℕ)) (rows : List DataRow) (rs : List Record) → gone_of (map spelled (page_changes l c rows rs)) ≡ 0

-- some, of which none removes a data row
abbrev AreKept : List Change → Type 0
AreKept cs = (0 < length cs) × (gone_of (map spelled cs) ≡ 0)

gone_both : (xs ys : List Change) → gone_of (map spelled (xs ++ ys)) ≡ gone_of (map spelled xs) + gone_of (map spelled ys)
gone_both [] ys = omega arith
gone_both (x ∷ xs) ys = let e = gone_both xs ys in omega (arith, e)

pub as_many : (cs : List Change) → length (map spelled cs) ≡ length cs
as_many [] = refl
as_many (c ∷ cs) = let e = as_many cs in omega (arith, e)

module _ (gone : PageRemovesNone) (org : ℕ) (l : Layout) (f : FieldPlace) (rows : List DataRow) (rs : List Record) (row : JobRow) where
  kept_page : (cursor : Option (List ℕ)) → AreKept (page_decided org l cursor rows rs row)
  kept_page cursor =
      let page = page_changes l cursor rows rs in
      let last = row_alone (moved_row org cursor row) in
      let many = length_both page last in
      let none = gone l cursor rows rs in
      let both = gone_both page last in
      (omega (arith, many), both ∙ ap (λ (n : ℕ). n + 0) none)

  kept_copied : (cursor : Option (List ℕ)) → AreKept (copied org l cursor rows rs row)
  kept_copied cursor = by (find (is_bad_by row) rs)
    where
      by : (x : Option Record) → AreKept (in_case x (page_decided org l cursor rows rs row) (λ (r : Record). row_alone (failed_row org r.id row)))
      by None = kept_page cursor
      by (Some r) = (omega arith, refl)

  kept_copy : AreKept (copy_decided org l f rows rs row)
  kept_copy = by (last_id rs)
    where
      by : (x : Option (List ℕ)) → AreKept (in_case x (switch_decided org f row) (λ (last : List ℕ). copied org l (Some last) rows rs row))
      by None = (omega arith, refl)
      by (Some last) = kept_copied (Some last)

  kept_clear : AreKept (clear_decided org l f rows rs row)
  kept_clear = by (last_id rs)
    where
      by : (x : Option (List ℕ)) → AreKept (in_case x (row_alone (done_row org f row)) (λ (last : List ℕ). page_decided org l (Some last) rows rs row))
      by None = (omega arith, refl)
      by (Some last) = kept_page (Some last)

  kept_all : AreKept (decided org l f rows rs row)
  kept_all = pick (is_copy row.phase) (λ b. AreKept (cond b (copy_decided org l f rows rs row) (clear_decided org l f rows rs row))) (λ _. kept_copy) (λ _. kept_clear)

  pub few_decided : (changes : List Spelled) → changes ≡ map spelled (decided org l f rows rs row) → length (decided org l f rows rs row) ≤ 201 → AreFew 201 0 changes
  few_decided changes are few =
      let cs = decided org l f rows rs row in
      let kept = kept_all in
      let many = as_many cs in
      let some = kept.0 in
      let none = kept.1 in
      subst (AreFew 201 0) (sym are) (record { some = omega (arith, many, some); most = omega (arith, many, few); gone = omega (arith, none) })
