-- What the DELETE of one key does.
use Rattle.std.proofs.Common.{◌≡◌, ◌⊎◌, inl, inr, ℕ, ℤ, pos, List, [], ◌∷◌, map, codes, Bool, true, false, Option, Some, None, Result, Ok, Err, is_eq, refl, sym, ap, subst, ◌∙◌, true≢false, arith, IsTrue}
use Rattle.std.proofs.lemmas.Bool.{cases_Bool}
use Rattle.sqlite.specs.declared.types.Value.TheVariants.{Null, Int}
use Rattle.sqlite.specs.Order.{Row}
use Rattle.sqlite.specs.Tree.{Trees, rowid, without_rowid, has_rowid}
use Rattle.sqlite.specs.Term.{col}
use Rattle.sqlite.specs.Schema.{Schema}
use Rattle.sqlite.specs.Command.TheVariants.{Delete}
use Rattle.sqlite.specs.Effect.{Database}
use Rattle.sqlite.specs.Edit.{edit_of, id_in, without_all}
use Rattle.sqlite.specs.Rowids.TheVariants.{Given}
use Rattle.sqlite.specs.Does.{Tally, Does}
use Rattle.sqlite.specs.Rows.{Written}
use Rattle.sqlite.specs.State.{State, mode_of, Executes}
use Rattle.sqlite.proofs.Callers.{runs_as, statement_of, one_step}
use Rattle.sqlite.specs.Listing.{understood}
use Rattle.sqlite_catalog.specs.Listing.{IsSound}
use Rattle.sqlite_trees.specs.View.{IsShaped, is_int}
use Rattle.sqlite_trees.specs.declared.store.Shape.TheVariants as shape
use Rattle.sqlite_trees.proofs.TreeLemmas.{IsShaped-filter}
use Rattle.sqlite_rules.specs.Lists.{Has}
use Rattle.sqlite_rules.specs.Calls.{ids_of}
use Rattle.sqlite_rules.proofs.ListLemmas.{all_has, has_filtered, has_kept}
use Rattle.sqlite_rules.proofs.PlaceLemmas.{tied_same}
use Rattle.sqlite_value.proofs.OrderLemmas.{value_cmp_total}
use Rattle.std.proofs.lemmas.Cmp.{tied_itself}
use Rattle.std.specs.FinMap.{remove}
use Rattle.base_lemmas.proofs.Orders.{equal_from_is_eq as tied}
use Rattle.store_sqlite.specs.Kept.{kept, kept_schema, remove_text, tables_in}
use Rattle.store_sqlite.specs.inner.Steps.{IsGood}
use Rattle.store_sqlite.proofs.Texts.{at_key, whole, query_of, remove_is, remove_plain}
use Rattle.store_sqlite.proofs.Rows.{IsAt, kept_rows, one_at, int_of}
use Rattle.store_sqlite.proofs.Select.{Answered, answered, shown_from, key_params, passes_all, passes_at, at_passes, all_shown, has_mapped, mapped_has}
use Rattle.store_sqlite.proofs.Change.{AreRows, map_removed}

-- a part that gave a value did not stop on the way
pub went : {B E R : Type 0} {b : B} {Stops : E → Type 0} → ((stop : E) × Stops stop × (Ok b ≡ Err stop)) ⊎ R → R
went (inl stopped) = absurd (let e = stopped.2 in cc)
went (inr on) = on

pub same_value : {B E : Type 0} {a b : B} → ◌≡◌ {A = Result B E} (Ok a) (Ok b) → a ≡ b
same_value e = cc

abbrev pub Lacks : List ℤ → Row → Type 0
Lacks ids x = (id : ℤ) → Has ids id → has_rowid id x ≡ false

pub left_from : (ids : List ℤ) (rows : List Row) (x : Row) → Has (without_all rows ids) x → Has rows x × Lacks ids x
left_from [] rows x h = (h, λ id none. absurd none)
left_from (id ∷ ids) rows x h =
    let later = left_from ids (without_rowid id rows) x h in
    let here = has_filtered _ rows x later.0 in
    (here.0, λ j i. elim i [ inl same ↦ rw same (not_true _ here.1) | inr more ↦ later.1 j more ])
  where
    not_true : (b : Bool) → Rattle.std.proofs.Common.not b ≡ true → b ≡ false
    not_true true e = absurd (true≢false (sym e))
    not_true false e = refl

pub left_has : (ids : List ℤ) (rows : List Row) (x : Row) → Has rows x → Lacks ids x → Has (without_all rows ids) x
left_has [] rows x h none = h
left_has (id ∷ ids) rows x h none = left_has ids (without_rowid id rows) x (has_kept _ rows x h (ap Rattle.std.proofs.Common.not (none id (inl refl)))) (λ j i. none j (inr i))

pub left_shaped : (ids : List ℤ) (rows : List Row) → IsShaped shape.Table rows → IsShaped shape.Table (without_all rows ids)
left_shaped [] rows h = h
left_shaped (id ∷ ids) rows h = left_shaped ids (without_rowid id rows) (IsShaped-filter shape.Table _ rows h)

pub good_rows : (s : State) → IsGood s → AreRows s.now.trees
good_rows s it =
    let obeys = (subst (λ (x : Schema). IsSound x s.now.trees) it.schema it.sound).obeys in
    record { kept = kept_rows s.now.trees obeys; one = one_at s.now.trees obeys it.shaped }

-- the rowids of the rows of the key, and no other
record TakesKey (db : Trees) (t : ℕ) (k : List ℕ) (ids : List ℤ) : Type 0 where
  sound : (id : ℤ) → Has ids id → (x : Row) × Has (db 0) x × IsAt t k x × (rowid x ≡ Int id)
  complete : (x : Row) → Has (db 0) x → IsAt t k x → (id : ℤ) × Has ids id × (rowid x ≡ Int id)

removed_rows : (db new : Trees) (old : AreRows db) (now : AreRows new) (t : ℕ) (k : List ℕ) (ids : List ℤ) → IsShaped shape.Table (db 0) → TakesKey db t k ids → new 0 ≡ without_all (db 0) ids
    → ((x : Row) → Has (db 0) x → IsAt t k x ⊎ (IsAt t k x → ⊥)) → tables_in new ≡ remove (tables_in db) (t, k)
removed_rows db new old now t k ids shaped takes is decide = map_removed db new old now t k (record {
  from = λ x h _. (left_from ids (db 0) x (subst (λ l. Has l x) is h)).0;
  stays = λ x h other. subst (λ l. Has l x) (sym is) (left_has ids (db 0) x h (λ id i. not_taken x h other id i (cases_Bool (has_rowid id x))));
}) decide (λ x h at.
    let was = left_from ids (db 0) x (subst (λ l. Has l x) is h) in
    let found = takes.complete x was.0 at in
    let here : has_rowid found.0 x ≡ true = rw found.2 (ap is_eq (tied_itself value_cmp_total (Int found.0))) in
    true≢false (sym here ∙ was.1 found.0 found.1))
  where
    not_taken : (x : Row) → Has (db 0) x → (IsAt t k x → ⊥) → (id : ℤ) → Has ids id → (has_rowid id x ≡ true) ⊎ (has_rowid id x ≡ false) → has_rowid id x ≡ false
    not_taken x h other id i (inr lacks) = lacks
    not_taken x h other id i (inl found) =
        let y = takes.sound id i in
        let same = tied_same (db 0) x y.0 shaped.0 h y.1 (rw y.3 (tied _ found)) in
        absurd (other (subst (IsAt t k) (sym same) y.2))

takes_key : (db : Trees) (rows : AreRows db) → IsShaped shape.Table (db 0) → (t : ℕ) (k : List ℕ) (found : List Row) → Answered at_key (col 1 0 ∷ []) [] whole db (key_params t k) found → TakesKey db t k (ids_of found)
takes_key db rows shaped t k found a = record {
  sound = λ id h.
      let r = has_mapped (λ (r : Row). id_in (rowid r)) found id h in
      let x = shown_from at_key (col 1 0 ∷ []) db (key_params t k) found a r.0 r.1 in
      let n = int_of (rowid x.0) (all_has (λ r. IsTrue (is_int (rowid r))) (db 0) x.0 shaped.1 x.1) in
      (x.0, x.1, passes_at t k [] x.0 (rows.kept x.0 x.1) x.2, n.1 ∙ ap Int (sym (r.2 ∙ ap (λ (r : Row). id_in (rowid r)) x.3 ∙ ap id_in n.1)));
  complete = λ x h at.
      let n = int_of (rowid x) (all_has (λ r. IsTrue (is_int (rowid r))) (db 0) x shaped.1 h) in
      let there = all_shown at_key (col 1 0 ∷ []) db (key_params t k) found a x h (at_passes t k [] x at) in
      (n.0, subst (Has (ids_of found)) (ap id_in n.1) (mapped_has (λ (r : Row). id_in (rowid r)) found (rowid x ∷ []) there), n.1);
}

pub decides : (t : ℕ) (k : List ℕ) (db : Trees) → AreRows db → (x : Row) → Has (db 0) x → IsAt t k x ⊎ (IsAt t k x → ⊥)
decides t k db rows x h = elim (cases_Bool (passes_all at_key (key_params t k) x)) [
  | inl here ↦ inl (passes_at t k [] x (rows.kept x h) here)
  | inr other ↦ inr (λ at. true≢false (sym (at_passes t k [] x at) ∙ other))
]

pub removes : (old new : State) (t : ℕ) (k : List ℕ) (count : ℕ) → IsGood old → Executes remove_text (key_params t k) old new (Ok count)
    → IsGood new × (tables_in new.now.trees ≡ remove (tables_in old.now.trees) (t, k))
removes old new t k count good h =
    let params = key_params t k in
    let db = old.now.trees in
    let has = good.schema in
    let w = runs_as remove_text params old new kept_schema has _ remove_is remove_plain count h in
    let text = statement_of remove_text (understood kept_schema remove_text) in
    let command = Delete 0 (record { lets = []; body = query_of at_key (col 1 0 ∷ []) [] whole }) in
    let done = went (subst (λ s. Does old.step_limit (mode_of old) params (record old.now { schema = s }) text None command (Ok (w.tally, new.now))) has w.changed) in
    let now = ap (λ (p : Tally × Database). p.1) (same_value (went (went done.2).2).2) in
    let given = went done.1 in
    let written = went given.2 in
    let trees : done.0.trees ≡ written.0 = ap (λ (it : Written). it.trees) (same_value written.2) in
    let edit = edit_of db kept (ids_of given.0) Given 0 [] in
    let rows = (one_step kept_schema _ db written.0 edit refl written.1).rows in
    let after : new.now.trees 0 ≡ without_all (db 0) (ids_of given.0) = ap (λ (d : Database). d.trees 0) now ∙ ap (λ (t : Trees). t 0) trees ∙ rows in
    let good_new : IsGood new = record { schema = ap (λ (d : Database). d.schema) now; sound = w.sound; shaped = subst (IsShaped shape.Table) (sym after) (left_shaped (ids_of given.0) (db 0) good.shaped) } in
    let old_rows = good_rows old good in
    let a = answered at_key (col 1 0 ∷ []) [] whole db params given.0 (given.1.answer Null) in
    (good_new, removed_rows db new.now.trees old_rows (good_rows new good_new) t k (ids_of given.0) good.shaped (takes_key db old_rows good.shaped t k given.0 a) after (decides t k db old_rows))
