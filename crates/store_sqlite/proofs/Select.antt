-- What a query over the one table answers.
use Rattle.std.proofs.Common.{◌≡◌, inl, inr, ℕ, ℤ, pos, List, [], ◌∷◌, ◌++◌, map, filter, flat_map, length, Bool, true, false, cond, is_eq, int_eq, refl, sym, ap, subst, ◌∙◌, arith, IsPermutation, IsSorted}
use Rattle.std.specs.List.{list_all}
use Rattle.std.proofs.lemmas.List.Sorted.{length_permutation, All-permutation, IsPermutation-sym}
use Rattle.std.proofs.lemmas.List.Elements.{recursion_from_All, All-from_recursion}
use Rattle.std.proofs.lemmas.Bool.{and_parts}
use Rattle.std.proofs.lemmas.Int.{ints}
use Rattle.std.specs.Cmp.{int_eq_equiv}
use Rattle.std.proofs.lemmas.Cmp.{tied_itself, nat_list_cmp_total}
use Rattle.base_lemmas.proofs.Orders.{equal_from_is_eq as tied}
use Rattle.sqlite.specs.declared.types.Value.TheVariants.{Null, Int, Blob}
use Rattle.sqlite.specs.Order.{Row}
use Rattle.sqlite.specs.Tree.{Trees}
use Rattle.sqlite.specs.Effect.{Database, Reads}
use Rattle.sqlite.specs.Command.TheVariants.{Select}
use Rattle.sqlite.specs.Term.{Term, eval, eval_all, holds}
use Rattle.sqlite.specs.Query.{Query, IsAnswer, Output, output, output_cmp, limited, as_count}
use Rattle.sqlite.specs.Program.{overlay}
use Rattle.sqlite_sql.specs.declared.ops.CompareOp.TheVariants.{Eq}
use Rattle.sqlite_value.specs.declared.keys.Key.{Key}
use Rattle.sqlite_typed.proofs.TestLemmas.{at_ints, at_blobs, then_term, last_term}
use Rattle.sqlite_rules.specs.Lists.{Has}
use Rattle.sqlite_rules.proofs.ListLemmas.{all_has, all_from, has_filtered, has_kept}
use Rattle.store_kv.specs.Tables.{bytes_cmp}
use Rattle.store_sqlite.proofs.Order.{bytes_exact}
use Rattle.store_sqlite.proofs.Texts.{query_of, whole, at_key}
use Rattle.store_sqlite.proofs.Rows.{IsAt, IsKeptRow}

each_if : {X Y : Type 0} (p : X → Bool) (f : X → Y) (xs : List X) → flat_map (λ x. cond (p x) (f x ∷ []) []) xs ≡ map f (filter p xs)
each_if p f [] = refl
each_if p f (x ∷ xs) = elim (p x) as (λ b. cond b (f x ∷ []) [] ++ flat_map (λ y. cond (p y) (f y ∷ []) []) xs ≡ map f (cond b (x ∷ filter p xs) (filter p xs))) [ true ↦ ap (λ l. f x ∷ l) (each_if p f xs) | false ↦ each_if p f xs ]

pub has_permuted : {X : Type 0} (xs ys : List X) (y : X) → IsPermutation xs ys → Has ys y → Has xs y
has_permuted xs ys y same h = all_has (Has xs) ys y (recursion_from_All (Has xs) ys (All-permutation (Has xs) xs ys same (All-from_recursion (Has xs) xs (all_from (Has xs) xs (λ x i. i))))) h

pub has_mapped : {X Y : Type 0} (f : X → Y) (xs : List X) (y : Y) → Has (map f xs) y → (x : X) × Has xs x × (y ≡ f x)
has_mapped f [] y h = absurd h
has_mapped f (x ∷ xs) y (inl same) = (x, inl refl, same)
has_mapped f (x ∷ xs) y (inr later) = let it = has_mapped f xs y later in (it.0, inr it.1, it.2)

pub mapped_has : {X Y : Type 0} (f : X → Y) (xs : List X) (x : X) → Has xs x → Has (map f xs) (f x)
mapped_has f [] x h = absurd h
mapped_has f (y ∷ xs) x (inl same) = inl (ap f same)
mapped_has f (y ∷ xs) x (inr later) = inr (mapped_has f xs x later)

abbrev pub passes_all : List Term → Row → Row → Bool
passes_all terms params row = list_all (holds (params ∷ row ∷ [])) terms

module _ (terms project : List Term) (order : List (Term × Key)) (limit : Term) (db : Trees) (params : Row) where
  abbrev pub query : Query
  query = query_of terms project order limit

  abbrev pub shown_of : Row → Output
  shown_of row = output query (params ∷ row ∷ [])

  -- the rows that pass, shown, in an order that ORDER BY allows, up to the limit
  pub record Answered (rows : List Row) : Type 0 where
    pub ordered : List Output
    pub same : IsPermutation (map shown_of (filter (passes_all terms params) (db 0))) ordered
    pub sorted : IsSorted (output_cmp query) ordered
    pub shown : rows ≡ limited (as_count (eval limit (params ∷ []))) (map (λ (o : Output). o.1) ordered)

  pub answered : (rows : List Row) → IsAnswer query (overlay db []) params rows → Answered rows
  answered rows a =
      let staged = a.grouped ∙ each_if (passes_all terms params) (λ row. params ∷ row ∷ []) (db 0) in
      let fused = map_map (output query) (λ row. params ∷ row ∷ []) (filter (passes_all terms params) (db 0)) in
      record {
        ordered = a.ordered;
        same = subst (λ k. IsPermutation k a.ordered) (a.distinct ∙ ap (map (output query)) staged ∙ fused) a.same;
        sorted = a.sorted;
        shown = a.shown;
      }
    where
      map_map : {X Y Z : Type 0} (f : Y → Z) (g : X → Y) (xs : List X) → map f (map g xs) ≡ map (λ x. f (g x)) xs
      map_map f g [] = refl
      map_map f g (x ∷ xs) = ap (λ l. f (g x) ∷ l) (map_map f g xs)

  pub read : (names : List (List ℕ)) (d : Database) (rows : List Row) → d.trees ≡ db → Reads (Select (record { lets = []; body = query }) names) d params rows → Answered rows
  read names d rows same h = answered rows (subst (λ t. IsAnswer query (overlay t []) params rows) same (h.answer Null))

-- a row that is answered was shown of a row that passes
pub shown_from : (terms project : List Term) (db : Trees) (params : Row) (rows : List Row) → Answered terms project [] whole db params rows → (row : Row) → Has rows row
    → (x : Row) × Has (db 0) x × (passes_all terms params x ≡ true) × (row ≡ eval_all project (params ∷ x ∷ []))
shown_from terms project db params rows a row h =
    let o = has_mapped (λ (o : Output). o.1) a.ordered row (subst (λ l. Has l row) a.shown h) in
    let x = has_mapped (shown_of terms project [] whole db params) _ o.0 (has_permuted _ a.ordered o.0 a.same o.1) in
    let found = has_filtered (passes_all terms params) (db 0) x.0 x.1 in
    (x.0, found.0, found.1, o.2 ∙ ap (λ (o : Output). o.1) x.2)

-- Where no row is answered, none passes.
pub none_shown : (terms project : List Term) (db : Trees) (params : Row) → Answered terms project [] whole db params [] → (x : Row) → Has (db 0) x → passes_all terms params x ≡ true → ⊥
none_shown terms project db params a x h passes = some_left _ x (has_kept (passes_all terms params) (db 0) x h passes) (no_length a.ordered (sym a.shown) _ a.same)
  where
    some_left : (xs : List Row) (y : Row) → Has xs y → length xs ≡ 0 → ⊥
    some_left [] y h e = h
    some_left (z ∷ xs) y h e = absurd (omega arith)

    no_length : (ordered : List Output) → map (λ (o : Output). o.1) ordered ≡ [] → (xs : List Row) → IsPermutation (map (shown_of terms project [] whole db params) xs) ordered → length xs ≡ 0
    no_length [] e [] same = refl
    no_length [] e (y ∷ xs) same = absurd (omega (arith, length_permutation _ _ same))
    no_length (o ∷ os) e xs same = absurd cc

module _ (t : ℕ) (k : List ℕ) where
  abbrev pub key_params : Row
  key_params = Int (pos t) ∷ Blob k ∷ []

  pub passes_at : (more : Row) (x : Row) → IsKeptRow x → passes_all at_key (Int (pos t) ∷ Blob k ∷ more) x ≡ true → IsAt t k x
  passes_at more x it h =
      let p = and_parts _ _ (rw (it.t_is, it.k_is) at h) in
      let q = and_parts _ _ p.1 in
      let one : int_eq it.t (pos t) ≡ true = sym (at_ints false Eq it.t (pos t)) ∙ p.0 in
      let two : is_eq (bytes_cmp it.k k) ≡ true = sym (at_blobs false Eq it.k k) ∙ q.0 in
      let t_same : it.t ≡ pos t = same_int it.t (pos t) one in
      let k_same : it.k ≡ k = bytes_exact it.k k (tied _ two) in
      record { t_is = it.t_is ∙ ap Int t_same; k_is = it.k_is ∙ ap Blob k_same }
    where
      same_int : (a b : ℤ) → int_eq a b ≡ true → a ≡ b
      same_int a b h = grind (arith, ints)

  pub at_passes : (more : Row) (x : Row) → IsAt t k x → passes_all at_key (Int (pos t) ∷ Blob k ∷ more) x ≡ true
  at_passes more x at = rw (at.t_is, at.k_is) (then_term (at_ints false Eq (pos t) (pos t) ∙ int_eq_equiv.refl (pos t)) (last_term (at_blobs false Eq k k ∙ ap is_eq (tied_itself nat_list_cmp_total k))))

-- Each row that passes is shown.
pub all_shown : (terms project : List Term) (db : Trees) (params : Row) (rows : List Row) → Answered terms project [] whole db params rows → (x : Row) → Has (db 0) x → passes_all terms params x ≡ true
    → Has rows (eval_all project (params ∷ x ∷ []))
all_shown terms project db params rows a x h passes =
    let o = shown_of terms project [] whole db params x in
    let there : Has a.ordered o = permuted _ a.ordered o a.same (mapped_has (shown_of terms project [] whole db params) _ x (has_kept (passes_all terms params) (db 0) x h passes)) in
    subst (λ l. Has l o.1) (sym a.shown) (mapped_has (λ (o : Output). o.1) a.ordered o there)
  where
    permuted : (xs ys : List Output) (y : Output) → IsPermutation xs ys → Has xs y → Has ys y
    permuted xs ys y same i = has_permuted ys xs y (IsPermutation-sym xs ys same) i
