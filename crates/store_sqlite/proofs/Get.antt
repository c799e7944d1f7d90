-- What reading one row answers, and what it leaves.
use Rattle.std.proofs.Common.{◌≡◌, ◌⊎◌, inl, inr, ℕ, List, [], ◌∷◌, false, Option, Some, None, slice_get, codes, Result, Ok, Err, IfOk, IfErr, OnOk, IsTrue, is_ok, true≢false, refl, sym, ap, subst, ◌∙◌, arith}
use Rattle.sqlite.specs.declared.error.Error.{Error}
use Rattle.sqlite.specs.Order.{Row, column, bytes}
use Rattle.sqlite.specs.Tree.{Trees}
use Rattle.sqlite.specs.Effect.{Database, IsDatabase}
use Rattle.sqlite_trees.specs.View.{IsShaped}
use Rattle.sqlite_trees.specs.declared.store.Shape.TheVariants as shape
use Rattle.sqlite.specs.Term.{col}
use Rattle.sqlite_catalog.specs.Listing.{IsSound}
use Rattle.sqlite_schema.specs.declared.schema.Schema.{Schema}
use Rattle.sqlite_schema.specs.declared.command.Returning.{Returning}
use Rattle.sqlite_schema.specs.Rules.{Obeys}
use Rattle.sqlite.specs.Listing.{understood, listing_schema}
use Rattle.sqlite.specs.State.{State, IsUnchanged, IsRolledBack, HasCleanDisk, Survives, Shown, FailsToQuery, FailsToShow, IsNotRun, RunsCommand, ShowsRows, IsStatement}
use Rattle.sqlite.specs.Clock.{timed}
use Rattle.sqlite_resolve.specs.declared.compiled.Compiled.{Compiled}
use Rattle.sqlite.proofs.Callers.{reads_as}
use Rattle.sqlite_resolve.specs.Compile.{first}
use Rattle.sqlite_tied.specs.Compute.{everything}
use Rattle.store_sqlite.specs.Laws.{nothing_pends}
use Rattle.store_sqlite.proofs.Plain.{IsBare, bare}
use Rattle.store_sqlite.proofs.Blank.{map_kept, sound_kept}
use Rattle.store_kv.specs.Tables.{row_at}
use Rattle.store_sqlite.specs.Kept.{get_text, scan_text, put_text, remove_text, no_schema, kept_schema, tables_in, map_in, IsKept, IsBlank, IsReady}
use Rattle.store_sqlite.specs.inner.Steps.{Keeps, Stays, WasOpen, blob_row}
use Rattle.store_sqlite.proofs.Texts.{get_is, get_plain, get_unlisted, at_key, whole}
use Rattle.store_sqlite.proofs.Rows.{kept_rows, one_at, row_is}
use Rattle.store_sqlite.proofs.Select.{Answered, read, shown_from, none_shown, key_params, passes_at, at_passes}

pub obeyed : (s : State) → IsKept s → Obeys kept_schema s.now.trees
obeyed s it = (subst (λ (x : Schema). IsSound x s.now.trees) it.schema it.sound).obeys

got_from : (db : Trees) → Obeys kept_schema db → IsShaped shape.Table (db 0) → (t : ℕ) (k : List ℕ) (rows : List Row) → Answered at_key (col 1 3 ∷ []) [] whole db (key_params t k) rows
    → slice_get rows 0 ≡ blob_row (row_at (tables_in db) t k)
got_from db obeys shaped t k [] a =
    ap blob_row (sym (row_is t k db (kept_rows db obeys) None (λ x h at. absurd (none_shown at_key (col 1 3 ∷ []) db (key_params t k) a x h (at_passes t k [] x at))) (λ _. refl)))
got_from db obeys shaped t k (row ∷ more) a =
    let x = shown_from at_key (col 1 3 ∷ []) db (key_params t k) (row ∷ more) a row (inl refl) in
    let it = kept_rows db obeys x.0 x.1 in
    let here = passes_at t k [] x.0 it x.2 in
    let is = row_is t k db (kept_rows db obeys) (Some it.v) (λ y h at. ap (λ v. Some (bytes v)) (sym it.v_is) ∙ ap (λ r. Some (bytes (column r 3))) (one_at db obeys shaped t k x.0 y x.1 h here at)) (λ none. absurd (none x.0 x.1 here)) in
    ap Some (x.3 ∙ ap (λ v. v ∷ []) it.v_is) ∙ ap blob_row (sym is)

pub got : (s : State) (it : IsKept s) (t : ℕ) (k : List ℕ) (new : State) (rows : List Row) → Shown get_text (key_params t k) s new rows → slice_get rows 0 ≡ blob_row (row_at (tables_in s.now.trees) t k)
got s it t k new rows h =
    got_from s.now.trees (obeyed s it) it.shaped t k rows
    (read at_key (col 1 3 ∷ []) [] whole s.now.trees (key_params t k) (codes "r" ∷ []) s.now rows refl (reads_as get_text (key_params t k) s new kept_schema it.schema _ get_is get_plain get_unlisted rows h))

-- the database as it was
pub kept_on : (s new : State) → IsKept s → new.now ≡ s.now → new.committed ≡ s.committed → new.in_transaction ≡ false → IsKept new
kept_on s new it now committed mode = record {
  settled = now ∙ it.settled ∙ sym committed;
  autocommit = mode;
  schema = ap (λ (d : Database). d.schema) now ∙ it.schema;
  sound = subst IsDatabase (sym now) it.sound;
  shaped = subst (λ (d : Database). IsShaped shape.Table (d.trees 0)) (sym now) it.shaped;
}

pub blank_on : (s new : State) → IsBlank s → new.now ≡ s.now → new.committed ≡ s.committed → new.in_transaction ≡ false → IsBlank new
blank_on s new it now committed mode = record {
  settled = now ∙ it.settled ∙ sym committed;
  autocommit = mode;
  schema = ap (λ (d : Database). d.schema) now ∙ it.schema;
  sound = subst IsDatabase (sym now) it.sound;
}

pub ready_on : (s new : State) → IsReady s → new.now ≡ s.now → new.committed ≡ s.committed → new.in_transaction ≡ false → IsReady new
ready_on s new (inl it) now committed mode = inl (kept_on s new it now committed mode)
ready_on s new (inr it) now committed mode = inr (blank_on s new it now committed mode)

pub autocommit : (s : State) → IsReady s → s.in_transaction ≡ false
autocommit s (inl it) = it.autocommit
autocommit s (inr it) = it.autocommit

pub unchanged_stays : (old new : State) → IsUnchanged old new → Stays old new
unchanged_stays old new same it shown = (ready_on old new it same.0.now_is same.0.committed_is (same.0.mode ∙ autocommit old it), same.0.now_is)

pub undone_stays : (old new : State) → IsRolledBack old new → Stays old new
undone_stays old new back it shown =
    let undone = back.undone shown in
    let now = undone.0 ∙ sym (nothing_pends old it) in
    (ready_on old new it now undone.1 back.autocommit, now)

-- the state is as it was, or was rolled back
abbrev pub IsHarmless : State → State → Type 0
IsHarmless old new = IsUnchanged old new ⊎ IsRolledBack old new

pub harmless_stays : (old new : State) → IsHarmless old new → Stays old new
harmless_stays old new (inl same) = unchanged_stays old new same
harmless_stays old new (inr back) = undone_stays old new back

pub harmless_open : (old new : State) → IsHarmless old new → WasOpen old new
harmless_open old new (inl same) shown = same.0.was_open
harmless_open old new (inr back) shown = back.was_open shown

pub not_run : (old new : State) (sql : List ℕ) (params : Row) (e : Error) → IsNotRun old new sql params e → IsHarmless old new
unfolding IsNotRun
not_run old new sql params e (inl h) = inl h.1
not_run old new sql params e (inr h) = inr h.3

pub fails_command : (old new : State) (sql : List ℕ) (c : Compiled) (params : Row) (e : Error) → RunsCommand old new sql c params (Err e) → IsHarmless old new
fails_command old new sql c params e (inl h) = inl h.1
fails_command old new sql c params e (inr h) = inr h.3

pub fails_query : (sql : List ℕ) (params : Row) (old new : State) (e : Error) → FailsToQuery sql params old new e → IsHarmless old new
unfolding FailsToQuery
fails_query sql params old new e (inl h) = not_run old new sql params e h
fails_query sql params old new e (inr h) = by h.0.returning h.2
  where
    by : (r : Option Returning) → FailsToShow old new sql h.0 (timed params h.0.formats h.1.now) e r → IsHarmless old new
    by None f = inl f.3
    by (Some what) f = fails_command old new sql h.0 _ e f

-- an answer comes from an open connection, and leaves it open
pub shown_open : (sql : List ℕ) (params : Row) (old new : State) (rows : List Row) → Shown sql params old new rows → IsTrue old.is_open × IsTrue new.is_open
unfolding Shown
shown_open sql params old new rows h = by h.0.returning h.2
  where
    by : (r : Option Returning) → ShowsRows old new sql h.0 (timed params h.0.formats h.1.now) rows r → IsTrue old.is_open × IsTrue new.is_open
    by None f = (f.3.0.was_open, f.3.0.is_open)
    by (Some what) f = (f.1.shown.was_open, f.1.shown.is_open)

pub shown_same : (sql : List ℕ) (params : Row) (old new : State) (rows : List Row) → IsBare (first sql) → Shown sql params old new rows → IsUnchanged old new
unfolding Shown
shown_same sql params old new rows plain h = (subst (ShowsRows old new sql h.0 (timed params h.0.formats h.1.now) rows) (bare old.now.schema sql h.0 plain h.1.is) h.2).3

module _ {A : Type 0} (rows_of : A → List Row) (sql : List ℕ) (params : Row) (old new : State) where
  pub query_harmless : (r : Result A Error) → IsBare (first sql) → IfOk r (λ x. Shown sql params old new (rows_of x)) → IfErr r (FailsToQuery sql params old new) → IsHarmless old new
  query_harmless (Ok x) plain ok err = inl (shown_same sql params old new (rows_of x) plain ok)
  query_harmless (Err e) plain ok err = fails_query sql params old new e err

  pub query_open : (r : Result A Error) → IfOk r (λ x. Shown sql params old new (rows_of x)) → IfErr r (FailsToQuery sql params old new) → WasOpen old new
  query_open (Ok x) ok err = λ shown. (shown_open sql params old new (rows_of x) ok).0
  query_open (Err e) ok err = harmless_open old new (fails_query sql params old new e err)

  pub query_trusted : (r : Result A Error) → IfOk r (λ x. Shown sql params old new (rows_of x)) → OnOk r (IsTrue new.is_open)
  query_trusted (Ok x) ok = (shown_open sql params old new (rows_of x) ok).1
  query_trusted (Err e) ok = tt

  pub query_unchanged : (r : Result A Error) → IsBare (first sql) → IfOk r (λ x. Shown sql params old new (rows_of x)) → OnOk r (IsUnchanged old new)
  query_unchanged (Ok x) plain ok = shown_same sql params old new (rows_of x) plain ok
  query_unchanged (Err e) plain ok = tt

-- of a statement that is only compiled
module _ {A : Type 0} (text_of : A → List ℕ) (sql : List ℕ) (old new : State) where
  pub prepare_harmless : (r : Result A Error) → IfOk r (λ s. (text_of s ≡ sql) × IsUnchanged old new) → IfErr r (λ e. (params : Row) → IsNotRun old new sql params e) → IsHarmless old new
  prepare_harmless (Ok s) ok err = inl ok.1
  prepare_harmless (Err e) ok err = not_run old new sql [] e (err [])

-- the texts name a table, so in a database without one they answer nothing
get_unknown : is_ok (understood no_schema get_text) ≡ false
unfolding understood everything listing_schema
get_unknown = refl

pub scan_unknown : is_ok (understood no_schema scan_text) ≡ false
unfolding understood everything listing_schema
scan_unknown = refl

pub put_unknown : is_ok (understood no_schema put_text) ≡ false
unfolding understood everything listing_schema
put_unknown = refl

pub remove_unknown : is_ok (understood no_schema remove_text) ≡ false
unfolding understood everything listing_schema
remove_unknown = refl

pub not_known : (s : State) (sql : List ℕ) (params : Row) (c : Compiled) → is_ok (understood no_schema sql) ≡ false → s.now.schema ≡ no_schema → IsStatement s sql params c → ⊥
not_known s sql params c none has it = let known = sym (ap (λ x. is_ok (understood x sql)) has) ∙ ap is_ok it.is in true≢false (sym known ∙ none)

pub unshown : (s new : State) (sql : List ℕ) (params : Row) (rows : List Row) → is_ok (understood no_schema sql) ≡ false → s.now.schema ≡ no_schema → Shown sql params s new rows → ⊥
unfolding Shown
unshown s new sql params rows none has h = not_known s sql params h.0 none has h.1

pub got_ready : (s : State) (it : IsReady s) (t : ℕ) (k : List ℕ) (new : State) (rows : List Row) → Shown get_text (key_params t k) s new rows → slice_get rows 0 ≡ blob_row (row_at (map_in s.now.trees) t k)
got_ready s (inl it) t k new rows h = got s it t k new rows h ∙ ap (λ m. blob_row (row_at m t k)) (sym (map_kept s.now.trees (sound_kept s it)))
got_ready s (inr it) t k new rows h = absurd (unshown s new get_text _ rows get_unknown it.schema h)

pub stays_map : (old new : State) → Stays old new → IsReady old → IsTrue new.is_open → IsReady new × (map_in new.now.trees ≡ map_in old.now.trees)
stays_map old new stays it shown = let k = stays it shown in (k.0, ap (λ (d : Database). map_in d.trees) k.1)

pub keeps : (old new : State) (P : Trees → Type 0) → Survives old new P → Keeps old new
keeps old new P s = record { clean = s.clean }

pub was_clean : (old new : State) (P : Trees → Type 0) → Survives old new P → HasCleanDisk new → HasCleanDisk old
was_clean old new P it clean = omega (arith, it.clean, clean)
