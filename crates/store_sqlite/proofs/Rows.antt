-- The rows of the table, and the map that they are.
use Rattle.std.proofs.Common.{◌≡◌, inl, inr, ℕ, ℤ, pos, negsuc, List, [], ◌∷◌, ◌++◌, Bool, true, false, not, ◌&&◌, cond, Option, Some, None, Equal, is_eq, int_eq, arith, refl, sym, ap, ap₂, subst, ◌∙◌, true≢false, IsTrue}
use Rattle.std.proofs.lemmas.Bool.{and_parts, and_from}
use Rattle.std.proofs.lemmas.Int.{ints}
use Rattle.std.specs.List.{list_any}
use Rattle.std.specs.Ordering.{eq_by_cmp}
use Rattle.std.proofs.lemmas.Cmp.{tied_itself, nat_list_cmp_total}
use Rattle.std.specs.Cmp.{int_eq_equiv}
use Rattle.sqlite_sql.specs.declared.ops.CompareOp.TheVariants.{Eq, Ne}
use Rattle.sqlite_value.proofs.OrderLemmas.{value_cmp_total}
use Rattle.std.specs.FinMap.{find, get-from_entries}
use Rattle.base_lemmas.proofs.Orders.{equal_from_is_eq as tied}
use Rattle.sqlite.specs.declared.types.Value.{Value}
use Rattle.sqlite.specs.declared.types.Value.TheVariants.{Null, Int, Real, Text, Blob}
use Rattle.sqlite.specs.Order.{Row, column, bytes}
use Rattle.sqlite.specs.Kind.TheVariants as kind
use Rattle.sqlite.specs.Tree.{Trees, rowid}
use Rattle.sqlite_trees.specs.View.{IsShaped, is_int}
use Rattle.sqlite_trees.specs.declared.store.Shape.TheVariants as shape
use Rattle.sqlite_value.specs.Keys.{plain, first_key}
use Rattle.sqlite_rules.proofs.PlaceLemmas.{tied_same}
use Rattle.sqlite_typed.proofs.TestLemmas.{at_ints, at_blobs}
use Rattle.sqlite_sql.specs.Ops.{is_null}
use Rattle.sqlite_schema.specs.Rules.{is_of, passes, Obeys, agree, differ}
use Rattle.sqlite_schema.specs.declared.schema.Constraint.TheVariants.{Datatype, NotNull, Unique}
use Rattle.sqlite_rules.specs.Lists.{Has}
use Rattle.sqlite_rules.proofs.ListLemmas.{all_has, some_from}
use Rattle.store_kv.specs.Tables.{Place, place_cmp, row_at}
use Rattle.store_kv.proofs.Places.{places_exact}
use Rattle.store_kv.specs.Order.{places_total}
use Rattle.store_sqlite.specs.Kept.{Entry, kept, kept_schema, entries_for, entries_in, tables_in}

pub record IsKeptRow (row : Row) : Type 0 where
  pub t : ℤ
  pub k : List ℕ
  pub v : List ℕ
  pub t_is : column row 1 ≡ Int t
  pub k_is : column row 2 ≡ Blob k
  pub v_is : column row 3 ≡ Blob v

int_from : (v : Value) → is_of kind.Integer v ≡ true → not (is_null v) ≡ true → (n : ℤ) × (v ≡ Int n)
int_from Null h n = absurd cc
int_from (Int m) h n = (m, refl)
int_from (Real x) h n = absurd cc
int_from (Text b) h n = absurd cc
int_from (Blob b) h n = absurd cc

blob_from : (v : Value) → is_of kind.Blob v ≡ true → not (is_null v) ≡ true → (b : List ℕ) × (v ≡ Blob b)
blob_from Null h n = absurd cc
blob_from (Int m) h n = absurd cc
blob_from (Real x) h n = absurd cc
blob_from (Text b) h n = absurd cc
blob_from (Blob b) h n = (b, refl)

module _ (db : Trees) where
  pub kept_row : (row : Row) → passes Datatype kept_schema db kept row ≡ true → passes NotNull kept_schema db kept row ≡ true → IsKeptRow row
  kept_row [] typed there = absurd cc
  kept_row (id ∷ []) typed there = absurd cc
  kept_row (id ∷ t ∷ []) typed there = absurd (true≢false (sym (and_parts _ _ there).1))
  kept_row (id ∷ t ∷ k ∷ []) typed there = absurd (true≢false (sym (and_parts _ _ (and_parts _ _ there).1).1))
  kept_row (id ∷ t ∷ k ∷ r ∷ more) typed there =
      let a = and_parts _ _ (and_parts _ _ typed).0 in
      let b = and_parts _ _ a.1 in
      let c = and_parts _ _ b.1 in
      let x = and_parts _ _ there in
      let y = and_parts _ _ x.1 in
      let z = and_parts _ _ y.1 in
      let one = int_from t a.0 x.0 in
      let two = blob_from k b.0 y.0 in
      let three = blob_from r c.0 z.0 in
      record { t = one.0; k = two.0; v = three.0; t_is = one.1; k_is = two.1; v_is = three.1 }

  pub kept_rows : Obeys kept_schema db → (x : Row) → Has (db 0) x → IsKeptRow x
  kept_rows obeys x h = kept_row x (all_has _ (db 0) x (obeys.rules Datatype).0 h) (all_has _ (db 0) x (obeys.rules NotNull).0 h)

module _ (t : ℕ) (k : List ℕ) where
  -- the row has this key
  pub record IsAt (row : Row) : Type 0 where
    pub t_is : column row 1 ≡ Int (pos t)
    pub k_is : column row 2 ≡ Blob k

  same_number : (m n : ℕ) → Int (pos m) ≡ Int (pos n) → m ≡ n
  same_number m n e = cc

  is_at : (row : Row) (n : ℕ) (b : List ℕ) → column row 1 ≡ Int (pos n) → column row 2 ≡ Blob b → place_cmp (t, k) (n, b) ≡ Equal → IsAt row
  is_at row n b one two tie =
      let same : (t, k) ≡ (n, b) = places_exact (t, k) (n, b) tie in
      record { t_is = one ∙ sym (ap (λ (p : Place). Int (pos p.0)) same); k_is = two ∙ sym (ap (λ (p : Place). Blob p.1) same) }

  -- one entry, at a row of the table
  pub find_row : (row : Row) (it : IsKeptRow row) (rest : List Entry) (o : Option (List ℕ)) → (IsAt row → o ≡ Some it.v) → ((IsAt row → ⊥) → find place_cmp (t, k) rest ≡ o)
      → find place_cmp (t, k) (entries_for (column row 1) row ++ rest) ≡ o
  find_row row it rest o here later = go it.t refl
    where
      later_if : (b : Bool) (n : ℕ) → it.t ≡ pos n → eq_by_cmp place_cmp (t, k) (n, it.k) ≡ b → cond b (Some it.v) (find place_cmp (t, k) rest) ≡ o
      later_if true n is e = sym (here (is_at row n it.k (it.t_is ∙ ap Int is) it.k_is (tied _ e)))
      later_if false n is e = later (λ at.
          let one : Int (pos n) ≡ Int (pos t) = sym (it.t_is ∙ ap Int is) ∙ at.t_is in
          let two : Blob it.k ≡ Blob k = sym it.k_is ∙ at.k_is in
          let n_is : n ≡ t = same_number n t one in
          let k_is : it.k ≡ k = cc in
          true≢false (sym (ap₂ (λ m b. eq_by_cmp place_cmp (t, k) (m, b)) n_is k_is ∙ ap is_eq (tied_itself places_total (t, k))) ∙ e))

      go : (n : ℤ) → it.t ≡ n → find place_cmp (t, k) (entries_for (column row 1) row ++ rest) ≡ o
      go (pos n) is = rw (it.t_is, is, it.k_is, it.v_is) (later_if _ n is refl)
      go (negsuc n) is = rw (it.t_is, is) (later (λ at. let e : Int (negsuc n) ≡ Int (pos t) = sym (it.t_is ∙ ap Int is) ∙ at.t_is in absurd cc))

  pub find_rows : (rows : List Row) → ((x : Row) → Has rows x → IsKeptRow x) → (o : Option (List ℕ)) → ((x : Row) → Has rows x → IsAt x → o ≡ Some (bytes (column x 3)))
      → (((x : Row) → Has rows x → IsAt x → ⊥) → None ≡ o) → find place_cmp (t, k) (entries_in rows) ≡ o
  find_rows [] sure o each none = none (λ x h at. h)
  find_rows (y ∷ ys) sure o each none =
      let it = sure y (inl refl) in
      find_row y it (entries_in ys) o (λ at. each y (inl refl) at ∙ ap (λ v. Some (bytes v)) it.v_is) (λ other.
      find_rows ys (λ x h. sure x (inr h)) o (λ x h. each x (inr h)) (λ nothing. none (λ x h at. elim h [ inl same ↦ other (subst IsAt same at) | inr later ↦ nothing x later at ])))

  -- what the map has at the key
  pub row_is : (db : Trees) → ((x : Row) → Has (db 0) x → IsKeptRow x) → (o : Option (List ℕ)) → ((x : Row) → Has (db 0) x → IsAt x → o ≡ Some (bytes (column x 3)))
      → (((x : Row) → Has (db 0) x → IsAt x → ⊥) → None ≡ o) → row_at (tables_in db) t k ≡ o
  unfolding tables_in
  row_is db sure o each none = get-from_entries places_total (entries_in (db 0)) (t, k) ∙ find_rows (db 0) sure o each none

pub int_of : (v : Value) → IsTrue (is_int v) → (n : ℤ) × (v ≡ Int n)
int_of Null h = absurd (true≢false (sym h))
int_of (Int n) h = (n, refl)
int_of (Real x) h = absurd (true≢false (sym h))
int_of (Text t) h = absurd (true≢false (sym h))
int_of (Blob b) h = absurd (true≢false (sym h))

-- No two rows have one key.
pub one_at : (db : Trees) → Obeys kept_schema db → IsShaped shape.Table (db 0) → (t : ℕ) (k : List ℕ) (x y : Row) → Has (db 0) x → Has (db 0) y → IsAt t k x → IsAt t k y → x ≡ y
unfolding first_key
one_at db obeys shaped t k x y hx hy ax ay =
    let p = int_of (rowid x) (all_has (λ r. IsTrue (is_int (rowid r))) (db 0) x shaped.1 hx) in
    let q = int_of (rowid y) (all_has (λ r. IsTrue (is_int (rowid r))) (db 0) y shaped.1 hy) in
    let unique = all_has (λ r. passes Unique kept_schema db kept r ≡ true) (db 0) y (obeys.rules Unique).0 hy in
    let quiet : list_any (λ other. agree plain (1 ∷ 2 ∷ []) other (1 ∷ 2 ∷ []) y && differ (rowid other) (rowid y)) (db 0) ≡ false = not_true _ (and_parts _ _ unique).0 in
    let both : (agree plain (1 ∷ 2 ∷ []) x (1 ∷ 2 ∷ []) y && differ (rowid x) (rowid y)) ≡ false = none_has _ (db 0) x quiet hx in
    let first : agree plain (1 ∷ 2 ∷ []) x (1 ∷ 2 ∷ []) y ≡ true = and_from _ _ (rw (ax.t_is, ay.t_is) (at_ints false Eq (pos t) (pos t) ∙ int_eq_equiv.refl (pos t))) (and_from _ _ (rw (ax.k_is, ay.k_is) (at_blobs false Eq k k ∙ ap is_eq (tied_itself nat_list_cmp_total k))) refl) in
    let apart : differ (rowid x) (rowid y) ≡ false = rw first at both in
    let unlike : not (int_eq p.0 q.0) ≡ false = sym (at_ints false Ne p.0 q.0) ∙ rw (p.1, q.1) at apart in
    let same : p.0 ≡ q.0 = grind (arith, ints) in
    tied_same (db 0) x y shaped.0 hx hy (rw (p.1, q.1, same) (tied_itself value_cmp_total (Int q.0)))
  where
    not_true : (b : Bool) → not b ≡ true → b ≡ false
    not_true true e = absurd (true≢false (sym e))
    not_true false e = refl

    none_has : {X : Type 0} (p : X → Bool) (xs : List X) (z : X) → list_any p xs ≡ false → Has xs z → p z ≡ false
    none_has p xs z none h = elim (p z) as (λ b. p z ≡ b → b ≡ false) [ true ↦ λ e. absurd (true≢false (sym (some_from p xs z h e) ∙ none)) | false ↦ λ e. refl ] refl
