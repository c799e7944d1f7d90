-- What making the table does.
use Rattle.std.proofs.Common.{◌≡◌, ◌⊎◌, inl, inr, ℕ, List, [], Bool, true, false, Option, None, Result, Ok, Err, IsTrue, MatchBool, cond, refl, sym, ap, subst, subst₂, true≢false, arith, ◌∙◌}
use Rattle.std.specs.FinMap.{from_entries}
use Rattle.sqlite.specs.declared.error.Error.{Error}
use Rattle.sqlite.specs.Order.{Row}
use Rattle.sqlite.specs.Tree.{Trees}
use Rattle.sqlite.specs.Schema.{Schema}
use Rattle.sqlite.specs.Command.TheVariants.{CreateTable, Nothing}
use Rattle.sqlite.specs.Effect.{Database, IsDatabase}
use Rattle.sqlite.specs.Does.{Tally, Does, MakesTable, lacks_sequence, sequence_text}
use Rattle.sqlite.specs.State.{State, mode_of, Executes, ExecutesIn, CommitsBy, MayCommit, text_of, HasCleanDisk, Survives, IsUnchanged, RunsCommand, shows_rows}
use Rattle.sqlite.specs.declared.error.Error.TheVariants.{ExecuteReturnedResults}
use Rattle.sqlite.specs.Clock.{timed}
use Rattle.sqlite.specs.Listing.{understood}
use Rattle.sqlite.specs.declared.run.Mode.{Mode}
use Rattle.sqlite.proofs.Callers.{IsPlain, command_of, statement_of, runs_as}
use Rattle.sqlite.specs.Rows.{Gives}
use Rattle.sqlite.specs.Change.{created}
use Rattle.sqlite_tied.specs.Compute.{everything}
use Rattle.sqlite_resolve.specs.Compile.{table_defined_by}
use Rattle.sqlite_catalog.specs.Listing.{IsSound}
use Rattle.sqlite_trees.specs.View.{IsShaped}
use Rattle.sqlite_trees.specs.declared.store.Shape.TheVariants as shape
use Rattle.store_kv.specs.Tables.{no_rows}
use Rattle.store_sqlite.specs.Kept.{IsKept, IsReady, create_text, kept, kept_schema, no_schema, tables_in, map_in, entries_in}
use Rattle.store_sqlite.specs.inner.Steps.{Stays, WasOpen}
use Rattle.store_sqlite.proofs.Texts.{create_is, again_is, defines}
use Rattle.sqlite.proofs.StateLemmas.{survives_then}
use Rattle.store_sqlite.proofs.Remove.{went, same_value}
use Rattle.store_sqlite.proofs.Blank.{map_kept, map_blank, sound_blank}
use Rattle.store_sqlite.proofs.Get.{unchanged_stays, harmless_stays, not_run, fails_command, stays_map, IsHarmless}

pub create_plain : IsPlain (understood no_schema create_text)
unfolding understood everything
create_plain = (refl, refl)

pub again_plain : IsPlain (understood kept_schema create_text)
unfolding understood everything
again_plain = (refl, refl)

whole_text : statement_of create_text (understood no_schema create_text) ≡ create_text
unfolding understood everything
whole_text = refl

-- the database that the statement makes of one without a table
record IsMade (after : Database) : Type 0 where
  schema : after.schema ≡ kept_schema
  empty : after.trees 0 ≡ []

made_of : (limit : Option ℕ) (mode : Mode) (params : Row) (trees : Trees) (text : List ℕ) (tally : Tally) (after : Database) → text ≡ create_text
    → Does limit mode params (record { schema = no_schema; trees = trees }) text None CreateTable (Ok (tally, after)) → IsMade after
made_of limit mode params trees text tally after is does =
    let one = went does in
    let two = went one.1 in
    let it = two.1 in
    let table : it.table ≡ kept = same_value (sym it.defined ∙ ap table_defined_by is ∙ defines) in
    let mid : two.0.schema ≡ kept_schema = it.is ∙ ap (created no_schema) table in
    let last : one.0 ≡ two.0 = same_value (subst (λ (x : Schema). MatchBool (lacks_sequence x) (MakesTable sequence_text two.0 (Ok one.0)) (Gives two.0 (Ok one.0))) mid two.2) in
    let now : after ≡ one.0 = ap (λ (p : Tally × Database). p.1) (same_value one.2) in
    record { schema = ap (λ (d : Database). d.schema) (now ∙ last) ∙ mid; empty = ap (λ (d : Database). d.trees 0) (now ∙ last) ∙ it.empty }

no_rows_in : (db : Trees) → db 0 ≡ [] → tables_in db ≡ no_rows
unfolding tables_in
no_rows_in db none = ap (λ rows. from_entries (entries_in rows)) none

map_made : (after : Database) → IsMade after → IsDatabase after → map_in after.trees ≡ no_rows
map_made after it sound = map_kept after.trees (subst (λ (x : Schema). IsSound x after.trees) it.schema sound) ∙ no_rows_in after.trees it.empty

-- a database with or without the table, whose rows are those of s
module _ (s : State) where
  nothing_written : (schema : Schema) (has : s.now.schema ≡ schema) (sql : List ℕ) (params : Row) → command_of (understood schema sql) ≡ Nothing → IsPlain (understood schema sql) → (db : Trees) → CommitsBy sql params s db → db ≡ s.now.trees
  unfolding CommitsBy
  nothing_written schema has sql params is plain db h = by h.2
    where
      known : Ok h.0 ≡ understood schema sql
      known = sym h.1.is ∙ ap (λ x. understood x sql) has

      bare : IsPlain (Ok h.0)
      bare = subst IsPlain (sym known) plain

      by : MayCommit s h.0.returning h.0.command (text_of sql h.0) (timed params h.0.formats h.1.now) db → db ≡ s.now.trees
      by (inl m) = m.1
      by (inr m) =
          let does = subst₂ (λ r k. Does s.step_limit (mode_of s) (timed params h.0.formats h.1.now) s.now (text_of sql h.0) r k (Ok (m.1, m.2))) bare.0 (ap command_of known ∙ is) m.3 in
          absurd (let e = does in cc)

  made_written : s.now.schema ≡ no_schema → (db : Trees) → CommitsBy create_text [] s db → (db ≡ s.now.trees) ⊎ (map_in db ≡ no_rows)
  unfolding CommitsBy
  made_written has db h = by h.2
    where
      known : Ok h.0 ≡ understood no_schema create_text
      known = sym h.1.is ∙ ap (λ x. understood x create_text) has

      bare : IsPlain (Ok h.0)
      bare = subst IsPlain (sym known) create_plain

      by : MayCommit s h.0.returning h.0.command (text_of create_text h.0) (timed [] h.0.formats h.1.now) db → (db ≡ s.now.trees) ⊎ (map_in db ≡ no_rows)
      by (inl m) = inl m.1
      by (inr m) =
          let does = subst₂ (λ r k. Does s.step_limit (mode_of s) (timed [] h.0.formats h.1.now) s.now (text_of create_text h.0) r k (Ok (m.1, m.2))) bare.0 (ap command_of known ∙ create_is) m.3 in
          let placed = subst (λ x. Does s.step_limit (mode_of s) (timed [] h.0.formats h.1.now) (record { schema = x; trees = s.now.trees }) (text_of create_text h.0) None CreateTable (Ok (m.1, m.2))) has does in
          let made = made_of s.step_limit (mode_of s) (timed [] h.0.formats h.1.now) s.now.trees (text_of create_text h.0) m.1 m.2 (ap (statement_of create_text) known ∙ whole_text) placed in
          inr (ap map_in m.5 ∙ map_made m.2 made m.4)

commits_made : (s : State) (it : IsReady s) (db : Trees) → CommitsBy create_text [] s db → map_in db ≡ map_in s.now.trees
commits_made s (inl it) db h = ap map_in (nothing_written s kept_schema it.schema create_text [] again_is again_plain db h)
commits_made s (inr it) db h = elim (made_written s it.schema db h) [ inl same ↦ ap map_in same | inr none ↦ none ∙ sym (map_blank s.now.trees (sound_blank s it)) ]

executes_fails : (sql : List ℕ) (params : Row) (old new : State) (e : Error) → Executes sql params old new (Err e) → IsHarmless old new
unfolding ExecutesIn
executes_fails sql params old new e (inl h) = not_run old new sql params e h
executes_fails sql params old new e (inr h) = by (shows_rows false h.0) h.2
  where
    by : (b : Bool) → MatchBool b ((◌≡◌ {A = Result ℕ Error} (Err e) (Err ExecuteReturnedResults)) × IsUnchanged old new) (RunsCommand old new sql h.0 (timed params h.0.formats h.1.now) (Err e)) → IsHarmless old new
    by true f = inl f.1
    by false f = fails_command old new sql h.0 _ e f

-- what the statement leaves
made_by : (s new : State) (it : IsReady s) (r : Result ℕ Error) → Executes create_text [] s new r → IsTrue new.is_open → IsReady new × (map_in new.now.trees ≡ map_in s.now.trees)
made_by s new it (Err e) h shown = stays_map s new (harmless_stays s new (executes_fails create_text [] s new e h)) it shown
made_by s new (inl it) (Ok count) h shown = stays_map s new (unchanged_stays s new (runs_as create_text [] s new kept_schema it.schema Nothing again_is again_plain count h).0) (inl it) shown
made_by s new (inr it) (Ok count) h shown =
    let w = runs_as create_text [] s new no_schema it.schema CreateTable create_is create_plain count h in
    let text = statement_of create_text (understood no_schema create_text) in
    let placed = subst (λ x. Does s.step_limit (mode_of s) [] (record { schema = x; trees = s.now.trees }) text None CreateTable (Ok (w.tally, new.now))) it.schema w.changed in
    let made = made_of s.step_limit (mode_of s) [] s.now.trees text w.tally new.now whole_text placed in
    let same : new.committed ≡ new.now = w.shown.committed_is ∙ ap (λ b. cond b s.committed new.now) it.autocommit in
    let table : IsKept new = record { settled = sym same; autocommit = w.shown.mode ∙ it.autocommit; schema = made.schema; sound = w.sound; shaped = subst (IsShaped shape.Table) (sym made.empty) (tt, tt) } in
    (inl table, map_made new.now made w.sound ∙ sym (map_blank s.now.trees (sound_blank s it)))

module _ (a b c : State) (same : HasCleanDisk b → IsUnchanged a b) (stays : HasCleanDisk b → Stays a b) (begun : Survives a b (λ _. ⊥)) (text : List ℕ) (is : HasCleanDisk b → text ≡ create_text) (then : Survives b c (CommitsBy text [] b)) where
  early : HasCleanDisk c → HasCleanDisk b
  early clean = omega (arith, then.clean)

  ready : HasCleanDisk b → IsReady a → IsReady b × (map_in b.now.trees ≡ map_in a.now.trees)
  ready clean it = stays_map a b (stays clean) it (same clean).0.is_open

  pub made_kept : (r : Result ℕ Error) → (HasCleanDisk c → Executes text [] b c r) → IsReady a → HasCleanDisk c → IsTrue c.is_open → IsReady c × (map_in c.now.trees ≡ map_in a.now.trees)
  made_kept r runs it clean shown =
      let on = ready (early clean) it in
      let done = made_by b c on.0 r (subst (λ t. Executes t [] b c r) (is (early clean)) (runs clean)) shown in
      (done.0, done.1 ∙ on.1)

  pub made_crash : IsReady a → Survives a c (λ db. map_in db ≡ map_in a.now.trees)
  made_crash it = survives_then a b c (λ _. ⊥) (CommitsBy text [] b) _ (λ _ db none. absurd none)
      (λ clean db h. let on = ready (early clean) it in commits_made b on.0 db (subst (λ t. CommitsBy t [] b db) (is (early clean)) h) ∙ on.1) begun then

  pub made_open : HasCleanDisk c → WasOpen a c
  made_open clean shown = (same (early clean)).0.was_open

  pub made_shut : a.is_open ≡ false → Survives a c (λ _. ⊥)
  made_shut shut = survives_then a b c (λ _. ⊥) (CommitsBy text [] b) _ (λ _ db none. none) (λ clean db h. true≢false (sym (same (early clean)).0.was_open ∙ shut)) begun then
