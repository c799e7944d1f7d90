-- What the INSERT of one row, or the update in its place, does.
use Rattle.std.proofs.Common.{◌≡◌, ◌⊎◌, inl, inr, ℕ, ℤ, pos, List, [], ◌∷◌, ◌++◌, map, drop, Bool, true, false, ◌||◌, cond, Option, Some, None, Ok, int_eq, is_eq, refl, sym, ap, subst, ◌∙◌, arith, IsTrue}
use Rattle.std.proofs.lemmas.Bool.{cases_Bool, and_parts}
use Rattle.std.proofs.lemmas.Int.{ints}
use Rattle.std.proofs.lemmas.Cmp.{tied_itself}
use Rattle.std.specs.Cmp.{int_eq_equiv}
use Rattle.std.specs.FinMap.{insert}
use Rattle.base_lemmas.proofs.Orders.{equal_from_is_eq as tied}
use Rattle.sqlite.specs.declared.types.Value.{Value}
use Rattle.sqlite.specs.declared.types.Value.TheVariants.{Null, Int, Blob}
use Rattle.sqlite.specs.Order.{Row, column, bytes}
use Rattle.sqlite.specs.Collation.TheVariants.{Binary}
use Rattle.sqlite.specs.Kind.TheVariants.{Integer}
use Rattle.sqlite.specs.Tree.{Trees, rowid, has_rowid, put_row}
use Rattle.sqlite.specs.Ops.{unary}
use Rattle.sqlite.specs.Term.{Term, col, op2}
use Rattle.sqlite.specs.Schema.{Schema}
use Rattle.sqlite.specs.Source.TheVariants.{Values}
use Rattle.sqlite.specs.Command.TheVariants.{InsertOr}
use Rattle.sqlite.specs.Effect.{Database}
use Rattle.sqlite.specs.Cast.{cast, cast_row}
use Rattle.sqlite.specs.Edit.{Edit, edit_of, edited, id_in, without_all, put_all, have_rowids, are_fresh, with_rowid, next_rowid, Applies}
use Rattle.sqlite.specs.Rowids.TheVariants.{Given}
use Rattle.sqlite.specs.Does.{Tally, Does}
use Rattle.sqlite.specs.Rows.{Written, Task}
use Rattle.sqlite.specs.Rows as made
use Rattle.sqlite.specs.State.{State, mode_of, Executes}
use Rattle.sqlite.proofs.Callers.{runs_as, statement_of, one_step}
use Rattle.sqlite.specs.Listing.{understood}
use Rattle.sqlite_sql.specs.declared.ops.BinaryOp.TheVariants.{Compare}
use Rattle.sqlite_sql.specs.declared.ops.CompareOp.TheVariants.{Eq}
use Rattle.sqlite_schema.specs.Rules.{agree}
use Rattle.sqlite_schema.specs.declared.command.Conflict.TheVariants.{Abort}
use Rattle.sqlite_schema.specs.declared.schema.Keys.TheVariants.{Enforced}
use Rattle.sqlite_rules.specs.declared.error.Refusal.{Refusal}
use Rattle.sqlite_rules.specs.Keys.{AreConflicts}
use Rattle.sqlite_rules.specs.Lists.{Has}
use Rattle.sqlite_rules.specs.Calls.{ids_of}
use Rattle.sqlite_rules.proofs.ListLemmas.{all_has}
use Rattle.sqlite_rules.proofs.PlaceLemmas.{tied_same, given}
use Rattle.sqlite_rules.proofs.TableLemmas.{put_all_has, put_all_keeps, put_all_adds}
use Rattle.sqlite_value.specs.Keys.{plain, first_key}
use Rattle.sqlite_value.proofs.OrderLemmas.{value_cmp_total}
use Rattle.sqlite_trees.specs.View.{IsShaped, is_int}
use Rattle.sqlite_trees.specs.declared.store.Shape.TheVariants as shape
use Rattle.sqlite_trees.proofs.TreeLemmas.{IsShaped-put_row}
use Rattle.sqlite_typed.proofs.TestLemmas.{at_ints, at_blobs, last_term}
use Rattle.store_kv.specs.Tables.{bytes_cmp}
use Rattle.store_sqlite.proofs.Order.{bytes_exact}
use Rattle.store_sqlite.specs.Kept.{kept, kept_schema, put_text, tables_in}
use Rattle.store_sqlite.specs.inner.Steps.{IsGood}
use Rattle.store_sqlite.proofs.Texts.{whole, query_of, put_terms, put_clauses, put_is, put_plain}
use Rattle.store_sqlite.proofs.Rows.{IsAt, IsKeptRow, int_of}
use Rattle.store_sqlite.proofs.Select.{Answered, answered, shown_from, all_shown, has_mapped, mapped_has, passes_all}
use Rattle.store_sqlite.proofs.Change.{AreRows, map_put}
use Rattle.store_sqlite.proofs.Remove.{went, same_value, left_from, left_has, left_shaped, good_rows, decides}

abbrev pub put_params : ℕ → List ℕ → List ℕ → Row
put_params t k v = Int (pos t) ∷ Blob k ∷ Blob v ∷ []

either : (b : Bool) (x : Value) → cond b x x ≡ x
either true x = refl
either false x = refl

cast_null : cast Integer Null ≡ Null
unfolding unary
cast_null = either _ Null

cast_int : (n : ℤ) → cast Integer (Int n) ≡ Int n
unfolding unary
cast_int n = either _ (Int n)

-- A row of the key takes the place of those that it has.
module _ (db new : Trees) (old : AreRows db) (now : AreRows new) (t : ℕ) (k v : List ℕ) (gone : List ℤ) (news : List Row) (shaped : IsShaped shape.Table (db 0)) where
  pub record IsPutIn : Type 0 where
    pub takes : (id : ℤ) → Has gone id → (x : Row) × Has (db 0) x × IsAt t k x × (rowid x ≡ Int id)
    pub each : (y : Row) → Has news y → IsAt t k y × (column y 3 ≡ Blob v)
    pub some : (y : Row) × Has news y
    pub fresh : are_fresh (without_all (db 0) gone) news ≡ true
    pub is : new 0 ≡ put_all (without_all (db 0) gone) news

  pub put_rows : IsPutIn → tables_in new ≡ insert (tables_in db) (t, k) v
  put_rows p =
      let y = p.some.0 in
      let at = p.each y p.some.1 in
      let there : Has (new 0) y = subst (λ l. Has l y) (sym p.is) (put_all_adds news (without_all (db 0) gone) y p.fresh p.some.1) in
      map_put db new old now t k (record {
        from = λ x h other. elim (put_all_has news (without_all (db 0) gone) x (subst (λ l. Has l x) p.is h)) [ inl made ↦ absurd (other (p.each x made).0) | inr left ↦ (left_from gone (db 0) x left).0 ];
        stays = λ x h other. subst (λ l. Has l x) (sym p.is) (put_all_keeps news (without_all (db 0) gone) x p.fresh (left_has gone (db 0) x h (λ id i. lacks x h other id i (cases_Bool (has_rowid id x)))));
      }) (decides t k db old) y there at.0 ∙ ap (λ b. insert (tables_in db) (t, k) (bytes b)) at.1
    where
      lacks : (x : Row) → Has (db 0) x → (IsAt t k x → ⊥) → (id : ℤ) → Has gone id → (has_rowid id x ≡ true) ⊎ (has_rowid id x ≡ false) → has_rowid id x ≡ false
      lacks x h other id i (inr none) = none
      lacks x h other id i (inl found) =
          let z = p.takes id i in
          let same = tied_same (db 0) x z.0 shaped.0 h z.1 (rw z.3 (tied _ found)) in
          absurd (other (subst (IsAt t k) (sym same) z.2))

put_shaped : (news rows : List Row) → have_rowids news ≡ true → IsShaped shape.Table rows → IsShaped shape.Table (put_all rows news)
put_shaped [] rows keyed h = h
put_shaped (n ∷ news) rows keyed h = let p = and_parts _ _ keyed in put_shaped news (put_row n rows) p.1 (IsShaped-put_row n rows p.0 h)

pub same_int : (a b : ℤ) → int_eq a b ≡ true → a ≡ b
same_int a b h = grind (arith, ints)

or_false : (b : Bool) → (b || false) ≡ true → b ≡ true
or_false true h = refl
or_false false h = h

-- the row that conflicts is that of the key
agrees : (t : ℕ) (k : List ℕ) (r n : Row) → IsKeptRow r → column n 1 ≡ Int (pos t) → column n 2 ≡ Blob k → agree plain (1 ∷ 2 ∷ []) r (1 ∷ 2 ∷ []) n ≡ true → IsAt t k r
unfolding first_key
agrees t k r n it one two h =
    let p = and_parts _ _ (rw (it.t_is, it.k_is, one, two) at h) in
    let q = and_parts _ _ p.1 in
    let a : int_eq it.t (pos t) ≡ true = sym (at_ints false Eq it.t (pos t)) ∙ p.0 in
    let b : is_eq (bytes_cmp it.k k) ≡ true = sym (at_blobs false Eq it.k k) ∙ q.0 in
    record { t_is = it.t_is ∙ ap Int (same_int it.t (pos t) a); k_is = it.k_is ∙ ap Blob (bytes_exact it.k k (tied _ b)) }

-- what an edit of these rows leaves
pub edit_leaves : (old new : State) (good : IsGood old) (t : ℕ) (k v : List ℕ) (next : Trees) (edit : Edit) → edit.table ≡ kept → Applies kept_schema Enforced old.now.trees edit next → new.now.trees 0 ≡ next 0
    → new.now.schema ≡ kept_schema → Rattle.sqlite.specs.Effect.IsDatabase new.now
    → ((id : ℤ) → Has edit.gone id → (x : Row) × Has (old.now.trees 0) x × IsAt t k x × (rowid x ≡ Int id)) → ((y : Row) → Has edit.news y → IsAt t k y × (column y 3 ≡ Blob v)) → (y : Row) × Has edit.news y
    → IsGood new × (tables_in new.now.trees ≡ insert (tables_in old.now.trees) (t, k) v)
edit_leaves old new good t k v next edit at_kept applies zero schema sound takes each some =
    let rows : next 0 ≡ put_all (without_all (old.now.trees 0) edit.gone) edit.news = subst (λ (x : Rattle.sqlite.specs.Table.Table). next x.tree ≡ put_all (without_all (old.now.trees x.tree) edit.gone) edit.news) at_kept applies.rows in
    let fresh : are_fresh (without_all (old.now.trees 0) edit.gone) edit.news ≡ true = subst (λ (x : Rattle.sqlite.specs.Table.Table). are_fresh (without_all (old.now.trees x.tree) edit.gone) edit.news ≡ true) at_kept applies.fresh in
    let is = zero ∙ rows in
    let good_new : IsGood new = record {
      schema = schema;
      sound = sound;
      shaped = subst (IsShaped shape.Table) (sym is) (put_shaped edit.news _ applies.keyed (left_shaped edit.gone (old.now.trees 0) good.shaped));
    } in
    (good_new, put_rows old.now.trees new.now.trees (good_rows old good) (good_rows new good_new) t k v edit.gone edit.news good.shaped (record { takes = takes; each = each; some = some; fresh = fresh; is = is }))

module _ (limit : Option ℕ) (t : ℕ) (k v : List ℕ) where
  abbrev task : Task
  task = record { limit = limit; keys = Enforced; schema = kept_schema; table = kept; params = put_params t k v }

  -- the trees after a row was written, and what it wrote there
  pub record Wrote (db next : Trees) : Type 0 where
    pub edit : Edit
    pub at_kept : edit.table ≡ kept
    pub applies : Applies kept_schema Enforced db edit next
    pub takes : (id : ℤ) → Has edit.gone id → (x : Row) × Has (db 0) x × IsAt t k x × (rowid x ≡ Int id)
    pub each : (y : Row) → Has edit.news y → IsAt t k y × (column y 3 ≡ Blob v)
    pub some : (y : Row) × Has edit.news y

  abbrev fresh_row : ℤ → Row
  fresh_row id = Int id ∷ Int (pos t) ∷ Blob k ∷ Blob v ∷ []

  made_row : (a : Value) (b : Value) → b ≡ Int (pos t) → IsAt t k (a ∷ b ∷ Blob k ∷ Blob v ∷ []) × (column (a ∷ b ∷ Blob k ∷ Blob v ∷ []) 3 ≡ Blob v)
  made_row a b is = (record { t_is = is; k_is = refl }, refl)

  inserted : (db : Trees) (id : ℤ) (one : Written) → made.Puts task (fresh_row id) db (Ok one) → Wrote db one.trees
  inserted db id one h =
      let next = went h in
      let edit = edit_of db kept [] Given 0 (fresh_row id ∷ []) in
      let same : one.trees ≡ next.0 = ap (λ (w : Written). w.trees) (same_value next.2) in
      record {
        edit = edit;
        at_kept = refl;
        applies = subst (Applies kept_schema Enforced db edit) (sym same) (one_step kept_schema Enforced db next.0 edit refl next.1);
        takes = λ i none. absurd none;
        each = λ y i. elim i [ inl is ↦ subst (λ r. IsAt t k r × (column r 3 ≡ Blob v)) (sym is) (made_row _ _ (cast_int (pos t))) | inr none ↦ absurd none ];
        some = (_, inl refl);
      }

  abbrev update_params : Row → ℤ → Row
  update_params there id = put_params t k v ++ rowid there ∷ fresh_row id

  updated : (db : Trees) (rows : AreRows db) → IsShaped shape.Table (db 0) → (id : ℤ) (there r : Row) → Has (db 0) r → IsAt t k r → there ≡ rowid r ∷ [] → (one : Written)
      → made.Resolves task (fresh_row id) db there (Some (record { lets = []; body = query_of (op2 (Compare Eq Binary) (col 1 0) (col 0 3) ∷ []) (col 1 0 ∷ col 1 0 ∷ col 1 1 ∷ col 1 2 ∷ col 0 7 ∷ []) [] whole })) (Ok one)
      → Wrote db one.trees
  updated db rows shaped id there r hr at is one h =
      let terms = op2 (Compare Eq Binary) (col 1 0) (col 0 3) ∷ [] in
      let project = col 1 0 ∷ col 1 0 ∷ col 1 1 ∷ col 1 2 ∷ col 0 7 ∷ [] in
      let with = update_params there id in
      let s = went h in
      let next = went s.2 in
      let found = s.0 in
      let a : Answered terms project [] whole db with found = answered terms project [] whole db with found (s.1.answer Null) in
      let edit = edit_of db kept (ids_of found) Given 1 found in
      let news_is : edit.news ≡ map (λ x. cast_row kept (drop 1 x)) found = given _ _ in
      let same : one.trees ≡ next.0 = ap (λ (w : Written). w.trees) (same_value next.2) in
      let j = int_of (rowid r) (all_has (λ x. IsTrue (is_int (rowid x))) (db 0) r shaped.1 hr) in
      let there_is : rowid there ≡ Int j.0 = ap rowid is ∙ j.1 in
      let passes_here : passes_all terms with r ≡ true = rw (j.1, there_is) (last_term (at_ints false Eq j.0 j.0 ∙ int_eq_equiv.refl j.0)) in
      let only = λ (x : Row) (hx : Has (db 0) x) (p : passes_all terms with x ≡ true).
      let i = int_of (rowid x) (all_has (λ y. IsTrue (is_int (rowid y))) (db 0) x shaped.1 hx) in
      let one_test = (and_parts _ _ (rw (i.1, there_is) at p)).0 in
      let equal : int_eq i.0 j.0 ≡ true = sym (at_ints false Eq i.0 j.0) ∙ one_test in
      let tie = same_int i.0 j.0 equal in
      let x_is : x ≡ r = tied_same (db 0) x r shaped.0 hx hr (rw (i.1, j.1, tie) (tied_itself value_cmp_total (Int j.0))) in x_is in
      record {
        edit = edit;
        at_kept = refl;
        applies = subst (Applies kept_schema Enforced db edit) (sym same) (one_step kept_schema Enforced db next.0 edit refl next.1);
        takes = λ n i.
            let m = has_mapped (λ (y : Row). id_in (rowid y)) found n i in
            let x = shown_from terms project db with found a m.0 m.1 in
            let x_is = only x.0 x.1 x.2 in
            (r, hr, at, j.1 ∙ ap Int (sym (m.2 ∙ ap (λ (y : Row). id_in (rowid y)) x.3 ∙ ap (λ (y : Row). id_in (rowid y)) x_is ∙ ap id_in j.1)));
        each = λ y i.
            let m = has_mapped (λ x. cast_row kept (drop 1 x)) found y (subst (λ l. Has l y) news_is i) in
            let x = shown_from terms project db with found a m.0 m.1 in
            let x_is = only x.0 x.1 x.2 in
            let k_is : column x.0 2 ≡ Blob k = ap (λ (z : Row). column z 2) x_is ∙ at.k_is in
            let t_is : cast Integer (column x.0 1) ≡ Int (pos t) = ap (λ (z : Row). cast Integer (column z 1)) x_is ∙ ap (cast Integer) at.t_is ∙ cast_int (pos t) in
            let y_is : y ≡ cast Integer (column x.0 0) ∷ cast Integer (column x.0 1) ∷ column x.0 2 ∷ Blob v ∷ [] = m.2 ∙ ap (λ z. cast_row kept (drop 1 z)) x.3 in
            subst (λ z. IsAt t k z × (column z 3 ≡ Blob v)) (sym y_is) (rw k_is (made_row _ _ t_is));
        some = let s = all_shown terms project db with found a r hr passes_here in (_, subst (λ l. Has l (cast_row kept (drop 1 (Rattle.sqlite.specs.Term.eval_all project (with ∷ r ∷ []))))) (sym news_is) (mapped_has (λ x. cast_row kept (drop 1 x)) found _ s));
      }

  tried : (db : Trees) (rows : AreRows db) → IsShaped shape.Table (db 0) → (id : ℤ) (one : Written) → made.Tries task Abort put_clauses (fresh_row id) db (Ok one) → Wrote db one.trees
  tried db rows shaped id one (inl h) = absurd (let e = h.1 in cc)
  tried db rows shaped id one (inr h) = judged h.0 h.2
    where
      clears : (found : List Row) → made.Clears task Abort (fresh_row id) db found (Ok one) → Wrote db one.trees
      clears [] c = inserted db id one c
      clears (x ∷ more) c = inserted db id one c

      meets : (found : List Row) → AreConflicts (Some (1 ∷ 2 ∷ [])) kept_schema.indexes kept (db 0) (fresh_row id) found → made.Meets task (made.Upserts task Abort (fresh_row id) db []) (fresh_row id) db
          (record { target = Some (1 ∷ 2 ∷ []); update = Some (record { lets = []; body = query_of (op2 (Compare Eq Binary) (col 1 0) (col 0 3) ∷ []) (col 1 0 ∷ col 1 0 ∷ col 1 1 ∷ col 1 2 ∷ col 0 7 ∷ []) [] whole }) }) found (Ok one) → Wrote db one.trees
      meets [] are m = clears m.0 m.2
      meets (there ∷ more) are m =
          let it = are.sound there (inl refl) in
          updated db rows shaped id there it.0 it.1 (agrees t k it.0 (fresh_row id) (rows.kept it.0 it.1) refl refl (or_false _ it.2)) it.3 one m

      judged : (verdict : Option Refusal) → made.Judged task Abort put_clauses (fresh_row id) db verdict (Ok one) → Wrote db one.trees
      judged None j = meets j.0 j.1 j.2
      judged (Some why) j = absurd (let e = j in cc)

  written_by : (db : Trees) → AreRows db → IsShaped shape.Table (db 0) → (top : ℤ) (out : Written × ℤ)
      → made.TriesEach task Abort put_clauses ((Null ∷ Int (pos t) ∷ Blob k ∷ Blob v ∷ []) ∷ []) top (made.nothing db) (Ok out) → Wrote db out.0.trees
  written_by db rows shaped top out h =
      let one = went h in
      let new_is : with_rowid (made.rowids_for kept top) (db 0) (cast_row kept (made.mended Abort kept (Null ∷ Int (pos t) ∷ Blob k ∷ Blob v ∷ []))) ≡ fresh_row (next_rowid (db 0)) = rw (cast_null, cast_int (pos t)) in
      let same : out.0.trees ≡ one.0.trees = ap (λ (p : Written × ℤ). p.0.trees) (same_value one.2) in
      subst (Wrote db) (sym same) (tried db rows shaped (next_rowid (db 0)) one.0 (subst (λ r. made.Tries task Abort put_clauses r db (Ok one.0)) new_is one.1))

-- the statement's effect
pub puts : (old new : State) (t : ℕ) (k v : List ℕ) (count : ℕ) → IsGood old → Executes put_text (put_params t k v) old new (Ok count)
    → IsGood new × (tables_in new.now.trees ≡ insert (tables_in old.now.trees) (t, k) v)
puts old new t k v count good h =
    let params = put_params t k v in
    let db = old.now.trees in
    let w = runs_as put_text params old new kept_schema good.schema _ put_is put_plain count h in
    let text = statement_of put_text (understood kept_schema put_text) in
    let command = InsertOr 0 Abort (Values put_terms 4) put_clauses in
    let done = went (subst (λ s. Does old.step_limit (mode_of old) params (record old.now { schema = s }) text None command (Ok (w.tally, new.now))) good.schema w.changed) in
    let now = ap (λ (p : Tally × Database). p.1) (same_value (went (went done.2).2).2) in
    let sourced = went done.1 in
    let counted = went sourced.2 in
    let tried_each = went counted.2 in
    let last = went tried_each.2 in
    let rows_is : sourced.0 ≡ (Null ∷ Int (pos t) ∷ Blob k ∷ Blob v ∷ []) ∷ [] = sourced.1.1 in
    let rows = good_rows old good in
    let out = tried_each.0 in
    let one = subst (λ l. made.TriesEach (record { limit = old.step_limit; keys = Enforced; schema = kept_schema; table = kept; params = params }) Abort put_clauses l (made.count_of counted.0) (made.nothing db) (Ok out)) rows_is tried_each.1 in
    let wrote : Wrote old.step_limit t k v db out.0.trees = written_by old.step_limit t k v db rows good.shaped (made.count_of counted.0) out one in
    let trees : done.0.trees ≡ out.0.trees = ap (λ (it : Written). it.trees) (same_value last.2) ∙ same_value last.1 in
    let after : new.now.trees 0 ≡ out.0.trees 0 = ap (λ (d : Database). d.trees 0) now ∙ ap (λ (t : Trees). t 0) trees in
    edit_leaves old new good t k v out.0.trees wrote.edit wrote.at_kept wrote.applies after (ap (λ (d : Database). d.schema) now) w.sound wrote.takes wrote.each wrote.some
