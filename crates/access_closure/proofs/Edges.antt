-- What flags and edges say: which are set, and which are there.
use Rattle.std.proofs.Common.{◌≡◌, ◌∙◌, ℕ, zero, suc, ◌+◌, ◌<◌, ◌==◌, Bool, true, false, ◌||◌, cond, List, [], ◌∷◌, ◌++◌, length, map, slice_set, refl, sym, ap, subst, ◌⊎◌, inl, inr, arith, Option, Some, None}
use Rattle.std.specs.Prelude.{replicate, slice_get}
use Rattle.std.specs.List.{list_any}
use Rattle.std.specs.Option.{option_and_then}
use Rattle.std.proofs.lemmas.Bool.Decides.{nat_tests}
use Rattle.std.proofs.lemmas.List.{length-set}
use Rattle.std.proofs.lemmas.Option.{same_Some as some_is}
use Rattle.base_lemmas.proofs.Bools.{not_both}
use Rattle.store_rows.specs.declared.group.GroupRow.{GroupRow}
use Rattle.store_rows.specs.declared.role.RoleRow.{RoleRow}
use Rattle.store_rows.specs.declared.user.UserRow.{UserRow}
use Rattle.model.specs.Cases.{in_case}
use Rattle.model.specs.Membership.{Has}
use Rattle.base_value.specs.declared.sharing.Principal.{Principal}
use Rattle.base_value.specs.declared.sharing.Principal.TheVariants as to
use Rattle.access_closure.specs.declared.graph.Edge.{Edge}
use Rattle.access_closure.specs.Places.{group_row_id, is_on, place_of_id, role_row_id}
use Rattle.access_closure.specs.inner.Chosen.{edges_up, has_role_in, role_among, roles_with, set_at, up_edge, users_with, with_sources}
use Rattle.access_closure.specs.inner.Order.{role_place_of}
use Rattle.access_closure.specs.inner.Rings.{group_edges, member_edge, member_edges}
use Rattle.access_closure.proofs.Spreading.{set_from, set_keeps, set_there}

-- ---- lists

pub has_left : {A : Type 0} (xs ys : List A) (x : A) → Has xs x → Has (xs ++ ys) x
has_left [] ys x h = absurd h
has_left (y ∷ xs) ys x (inl e) = inl e
has_left (y ∷ xs) ys x (inr h) = inr (has_left xs ys x h)

pub has_right : {A : Type 0} (xs ys : List A) (x : A) → Has ys x → Has (xs ++ ys) x
has_right [] ys x h = h
has_right (y ∷ xs) ys x h = inr (has_right xs ys x h)

pub has_both : {A : Type 0} (xs ys : List A) (x : A) → Has (xs ++ ys) x → Has xs x ⊎ Has ys x
has_both [] ys x h = inr h
has_both (y ∷ xs) ys x (inl e) = inl (inl e)
has_both (y ∷ xs) ys x (inr h) = elim (has_both xs ys x h) [ inl a ↦ inl (inr a) | inr b ↦ inr b ]

pub has_map : {X Y : Type 0} (f : X → Y) (xs : List X) (x : X) → Has xs x → Has (map f xs) (f x)
has_map f [] x h = absurd h
has_map f (y ∷ xs) x (inl e) = inl (ap f e)
has_map f (y ∷ xs) x (inr h) = inr (has_map f xs x h)

pub map_has : {X Y : Type 0} (f : X → Y) (xs : List X) (y : Y) → Has (map f xs) y → (x : X) × Has xs x × (y ≡ f x)
map_has f [] y h = absurd h
map_has f (x ∷ xs) y (inl same) = (x, inl refl, same)
map_has f (x ∷ xs) y (inr later) = let it = map_has f xs y later in (it.0, inr it.1, it.2)

pub has_any : {A : Type 0} (f : A → Bool) (xs : List A) (x : A) → Has xs x → f x ≡ true → list_any f xs ≡ true
has_any f [] x h e = absurd h
has_any f (y ∷ xs) x (inl same) e = left (f y) (list_any f xs) (ap f (sym same) ∙ e)
  where
    left : (a b : Bool) → a ≡ true → (a || b) ≡ true
    left true b k = refl
    left false b k = absurd cc
has_any f (y ∷ xs) x (inr h) e = right (f y) (list_any f xs) (has_any f xs x h e)
  where
    right : (a b : Bool) → b ≡ true → (a || b) ≡ true
    right true b k = refl
    right false b k = k

pub any_has : {A : Type 0} (f : A → Bool) (xs : List A) → list_any f xs ≡ true → (x : A) × Has xs x × (f x ≡ true)
any_has f [] e = absurd cc
any_has {A} f (y ∷ xs) e = by (λ k. any_has f xs k) (f y) refl e
  where
    by : (list_any f xs ≡ true → (x : A) × Has xs x × (f x ≡ true)) → (b : Bool) → f y ≡ b → (b || list_any f xs) ≡ true → (x : A) × Has (y ∷ xs) x × (f x ≡ true)
    by rest true is k = (y, inl refl, is)
    by rest false is k = let r = rest k in (r.0, inr r.1, r.2)

pub has_place : {A : Type 0} (xs : List A) (x : A) → Has xs x → (n : ℕ) × (slice_get xs n ≡ Some x)
has_place [] x h = absurd h
has_place (y ∷ xs) x (inl e) = (zero, ap Some (sym e))
has_place (y ∷ xs) x (inr h) = let r = has_place xs x h in (suc r.0, r.1)

-- ---- flags

pub none_on : (k n : ℕ) → is_on (replicate k false) n ≡ false
none_on zero n = refl
none_on (suc k) zero = refl
none_on (suc k) (suc n) = none_on k n

pub none_long : (k : ℕ) → length (replicate k false) ≡ k
none_long zero = refl
none_long (suc k) = ap suc (none_long k)

pub set_at_from : (k : ℕ) (o : Option ℕ) (n : ℕ) → is_on (set_at (replicate k false) o) n ≡ true → o ≡ Some n
set_at_from k None n e = absurd (not_both (is_on (replicate k false) n) e (none_on k n))
set_at_from k (Some m) n e = elim (set_from (replicate k false) m n e) [
  | inl was ↦ absurd (not_both (is_on (replicate k false) n) was (none_on k n))
  | inr is ↦ ap Some (sym is)
]

pub set_at_there : (k : ℕ) (o : Option ℕ) (n : ℕ) → o ≡ Some n → n < k → is_on (set_at (replicate k false) o) n ≡ true
set_at_there k o n e lt =
    subst (λ (p : Option ℕ). is_on (set_at (replicate k false) p) n ≡ true) (sym e)
    (set_there (replicate k false) n (subst (λ (m : ℕ). n < m) (sym (none_long k)) lt))

set_at_keeps : (flags : List Bool) (o : Option ℕ) (n : ℕ) → is_on flags n ≡ true → is_on (set_at flags o) n ≡ true
set_at_keeps flags None n h = h
set_at_keeps flags (Some m) n h = set_keeps flags m n h

pub set_at_long : (flags : List Bool) (o : Option ℕ) → length (set_at flags o) ≡ length flags
set_at_long flags None = refl
set_at_long flags (Some m) = length-set flags m true

set_at_was : (flags : List Bool) (o : Option ℕ) (n : ℕ) → is_on (set_at flags o) n ≡ true → (is_on flags n ≡ true) ⊎ (o ≡ Some n)
set_at_was flags None n h = inl h
set_at_was flags (Some m) n h = elim (set_from flags m n h) [ inl was ↦ inl was | inr is ↦ inr (ap Some (sym is)) ]

pub map_on : {X : Type 0} (f : X → Bool) (xs : List X) (n : ℕ) → is_on (map f xs) n ≡ true → (x : X) × (slice_get xs n ≡ Some x) × (f x ≡ true)
map_on f [] n e = absurd cc
map_on f (x ∷ xs) zero e = (x, refl, e)
map_on f (x ∷ xs) (suc n) e = map_on f xs n e

pub on_map : {X : Type 0} (f : X → Bool) (xs : List X) (n : ℕ) (x : X) → slice_get xs n ≡ Some x → f x ≡ true → is_on (map f xs) n ≡ true
on_map f [] n x e is = absurd cc
on_map f (y ∷ xs) zero x e is = ap f (some_is y x e) ∙ is
on_map f (y ∷ xs) (suc n) x e is = on_map f xs n x e is

-- ---- edges

pub edge_is : (e : Edge) (a b : ℕ) → e.from ≡ a → e.to ≡ b → e ≡ record { from = a; to = b }
edge_is e a b p q = λ i. record { from = p i; to = q i }

-- from the role at a place to the place of its parent
pub record IsUp (all : List RoleRow) (low high : ℕ) : Type 0 where
  pub role : RoleRow
  pub at : slice_get all low ≡ Some role
  pub up : option_and_then (place_of_id role_row_id all) role.parent ≡ Some high

module _ (all : List RoleRow) where
  abbrev parent_place : RoleRow → Option ℕ
  parent_place r = option_and_then (place_of_id role_row_id all) r.parent

  abbrev Among : List RoleRow → ℕ → Edge → Type 0
  Among roles k e = (j : ℕ) × (r : RoleRow) × (slice_get roles j ≡ Some r) × (parent_place r ≡ Some e.to) × (e.from ≡ k + j)

  shifted : (r : RoleRow) (roles : List RoleRow) (k : ℕ) (e : Edge) → Among roles (suc k) e → Among (r ∷ roles) k e
  shifted r roles k e (j, s, at, up, is) = (suc j, s, at, up, omega (arith, is))

  one_has : (r : RoleRow) (k : ℕ) (e : Edge) → Has (up_edge all k r) e → (parent_place r ≡ Some e.to) × (e.from ≡ k)
  one_has r k e h0 = by (parent_place r) refl h0
    where
      by : (o : Option ℕ) → parent_place r ≡ o → Has (in_case o [] (λ m. record { from = k; to = m } ∷ [])) e → (parent_place r ≡ Some e.to) × (e.from ≡ k)
      by None is h = absurd h
      by (Some m) is (inl same) = (is ∙ ap Some (sym (ap (λ (x : Edge). x.to) same)), ap (λ (x : Edge). x.from) same)
      by (Some m) is (inr h) = absurd h

  has_one : (r : RoleRow) (k : ℕ) (e : Edge) → parent_place r ≡ Some e.to → e.from ≡ k → Has (up_edge all k r) e
  has_one r k e up is =
      subst (λ (o : Option ℕ). Has (in_case o [] (λ m. record { from = k; to = m } ∷ [])) e) (sym up) (inl (edge_is e k e.to is refl))

  up_has : (roles : List RoleRow) (k : ℕ) (e : Edge) → Has (edges_up all k roles) e → Among roles k e
  up_has [] k e h = absurd h
  up_has (r ∷ roles) k e h = by (up_has roles (suc k) e) (has_both (up_edge all k r) (edges_up all (suc k) roles) e h)
    where
      by : (Has (edges_up all (suc k) roles) e → Among roles (suc k) e) → Has (up_edge all k r) e ⊎ Has (edges_up all (suc k) roles) e → Among (r ∷ roles) k e
      by rest (inl first) = let one = one_has r k e first in (zero, r, refl, one.0, omega (arith, one.1))
      by rest (inr later) = shifted r roles k e (rest later)

  has_up : (roles : List RoleRow) (k : ℕ) (e : Edge) → Among roles k e → Has (edges_up all k roles) e
  has_up [] k e (j, r, at, up, is) = absurd cc
  has_up (s ∷ roles) k e (zero, r, at, up, is) =
      has_left (up_edge all k s) (edges_up all (suc k) roles) e (has_one s k e (ap parent_place (some_is s r at) ∙ up) (omega (arith, is)))
  has_up (s ∷ roles) k e (suc j, r, at, up, is) =
      has_right (up_edge all k s) (edges_up all (suc k) roles) e (has_up roles (suc k) e (j, r, at, up, omega (arith, is)))

  pub edge_from : (e : Edge) → Has (edges_up all 0 all) e → IsUp all e.from e.to
  edge_from e h =
      let a = up_has all 0 e h in
      let from : e.from ≡ a.0 = omega (arith, a.4) in
      record { role = a.1; at = ap (slice_get all) from ∙ a.2; up = a.3 }

  pub edge_up : (m n : ℕ) → IsUp all m n → Has (edges_up all 0 all) (record { from = m; to = n })
  edge_up m n u = has_up all 0 (record { from = m; to = n }) (m, u.role, u.at, u.up, omega arith)

-- ---- what is with_sources

module _ (n : ℕ) where
  pub marked_long : (edges : List Edge) (flags : List Bool) → length (with_sources n flags edges) ≡ length flags
  marked_long [] flags = refl
  marked_long (e ∷ edges) flags = marked_long edges (cond (e.to == n) (slice_set flags e.from true) flags) ∙ by (e.to == n)
    where
      by : (b : Bool) → length (cond b (slice_set flags e.from true) flags) ≡ length flags
      by true = length-set flags e.from true
      by false = refl

  marked_keeps : (edges : List Edge) (flags : List Bool) (k : ℕ) → is_on flags k ≡ true → is_on (with_sources n flags edges) k ≡ true
  marked_keeps [] flags k h = h
  marked_keeps (e ∷ edges) flags k h = marked_keeps edges (cond (e.to == n) (slice_set flags e.from true) flags) k (by (e.to == n))
    where
      by : (b : Bool) → is_on (cond b (slice_set flags e.from true) flags) k ≡ true
      by true = set_keeps flags e.from k h
      by false = h

  pub marked_from : (edges : List Edge) (flags : List Bool) (k : ℕ) → is_on (with_sources n flags edges) k ≡ true → (is_on flags k ≡ true) ⊎ Has edges (record { from = k; to = n })
  marked_from [] flags k h = inl h
  marked_from (e ∷ edges) flags k h = elim (marked_from edges (cond (e.to == n) (slice_set flags e.from true) flags) k h) [
    | inl set ↦ by (e.to == n) refl set
    | inr has ↦ inr (inr has)
  ]
    where
      by : (b : Bool) → (e.to == n) ≡ b → is_on (cond b (slice_set flags e.from true) flags) k ≡ true → (is_on flags k ≡ true) ⊎ Has (e ∷ edges) (record { from = k; to = n })
      by false is set = inl set
      by true is set = elim (set_from flags e.from k set) [ inl was ↦ inl was | inr one ↦ inr (inl (sym (edge_is e k n (sym one) (grind (arith, nat_tests))))) ]

  pub marked_there : (edges : List Edge) (flags : List Bool) (k : ℕ) → k < length flags → Has edges (record { from = k; to = n }) → is_on (with_sources n flags edges) k ≡ true
  marked_there [] flags k lt h = absurd h
  marked_there (e ∷ edges) flags k lt (inl same) = marked_keeps edges (cond (e.to == n) (slice_set flags e.from true) flags) k
      (subst (λ (b : Bool). is_on (cond b (slice_set flags e.from true) flags) k ≡ true) (sym is)
      (subst (λ (m : ℕ). is_on (slice_set flags m true) k ≡ true) (ap (λ (x : Edge). x.from) same) (set_there flags k lt)))
    where
      to_n : n ≡ e.to
      to_n = ap (λ (x : Edge). x.to) same

      is : (e.to == n) ≡ true
      is = grind (arith, nat_tests, to_n)
  marked_there (e ∷ edges) flags k lt (inr h) = marked_there edges (cond (e.to == n) (slice_set flags e.from true) flags) k (by (e.to == n)) h
    where
      by : (b : Bool) → k < length (cond b (slice_set flags e.from true) flags)
      by true = subst (λ (m : ℕ). k < m) (sym (length-set flags e.from true)) lt
      by false = lt

-- ---- users with some roles

module _ (roles : List RoleRow) (below : List Bool) where
  -- what is among these
  among_is : (x : UserRow) (m : ℕ) → role_among roles below x ≡ Some m → (has_role_in roles below x ≡ true) × (role_place_of roles x ≡ Some m)
  among_is x m e = by (has_role_in roles below x) refl e
    where
      by : (b : Bool) → has_role_in roles below x ≡ b → cond b (role_place_of roles x) None ≡ Some m → (has_role_in roles below x ≡ true) × (role_place_of roles x ≡ Some m)
      by true is k = (is, k)
      by false is k = absurd cc

  is_among : (x : UserRow) → has_role_in roles below x ≡ true → role_among roles below x ≡ role_place_of roles x
  is_among x e = ap (λ (b : Bool). cond b (role_place_of roles x) None) e

  abbrev with_one : ℕ → Option ℕ → List Bool → List Bool
  with_one n o flags = in_case o flags (λ m. slice_set flags n true)

  one_keeps : (o : Option ℕ) (k : ℕ) (flags : List Bool) (n : ℕ) → is_on flags n ≡ true → is_on (with_one k o flags) n ≡ true
  one_keeps None k flags n h = h
  one_keeps (Some m) k flags n h = set_keeps flags k n h

  one_long : (o : Option ℕ) (k : ℕ) (flags : List Bool) → length (with_one k o flags) ≡ length flags
  one_long None k flags = refl
  one_long (Some m) k flags = length-set flags k true

  pub users_keep : (users : List UserRow) (k : ℕ) (flags : List Bool) (n : ℕ) → is_on flags n ≡ true → is_on (users_with roles below k users flags) n ≡ true
  users_keep [] k flags n h = h
  users_keep (x ∷ users) k flags n h = users_keep users (suc k) (with_one k (role_among roles below x) flags) n (one_keeps (role_among roles below x) k flags n h)

  pub users_from : (users : List UserRow) (k : ℕ) (flags : List Bool) (n : ℕ) → is_on (users_with roles below k users flags) n ≡ true
      → (is_on flags n ≡ true) ⊎ ((j : ℕ) × (x : UserRow) × (slice_get users j ≡ Some x) × (has_role_in roles below x ≡ true) × (n ≡ k + j))
  users_from [] k flags n h = inl h
  users_from (x ∷ users) k flags n h = elim (users_from users (suc k) (with_one k (role_among roles below x) flags) n h) [
    | inl set ↦ by (role_among roles below x) refl set
    | inr later ↦ inr (suc later.0, later.1, later.2, later.3, omega (arith, later.4))
  ]
    where
      by : (o : Option ℕ) → role_among roles below x ≡ o → is_on (with_one k o flags) n ≡ true
          → (is_on flags n ≡ true) ⊎ ((j : ℕ) × (y : UserRow) × (slice_get (x ∷ users) j ≡ Some y) × (has_role_in roles below y ≡ true) × (n ≡ k + j))
      by None is set = inl set
      by (Some m) is set = elim (set_from flags k n set) [ inl was ↦ inl was | inr one ↦ inr (zero, x, refl, (among_is x m is).0, omega (arith, one)) ]

  pub users_there : (users : List UserRow) (k : ℕ) (flags : List Bool) (n j : ℕ) (x : UserRow) (m : ℕ) → slice_get users j ≡ Some x → has_role_in roles below x ≡ true → role_place_of roles x ≡ Some m → n ≡ k + j → n < length flags
      → is_on (users_with roles below k users flags) n ≡ true
  users_there [] k flags n j x m at is place e lt = absurd cc
  users_there (y ∷ users) k flags n zero x m at is place e lt =
      let among : role_among roles below y ≡ Some m = ap (role_among roles below) (some_is y x at) ∙ is_among x is ∙ place in
      users_keep users (suc k) (with_one k (role_among roles below y) flags) n
      (subst (λ (o : Option ℕ). is_on (with_one k o flags) n ≡ true) (sym among)
      (subst (λ (i : ℕ). is_on (slice_set flags i true) n ≡ true) (omega (arith, e)) (set_there flags n lt)))
  users_there (y ∷ users) k flags n (suc j) x m at is place e lt =
      users_there users (suc k) (with_one k (role_among roles below y) flags) n j x m at is place (omega (arith, e))
      (subst (λ (i : ℕ). n < i) (sym (one_long (role_among roles below y) k flags)) lt)

  pub roles_keep : (users : List UserRow) (flags : List Bool) (n : ℕ) → is_on flags n ≡ true → is_on (roles_with roles below users flags) n ≡ true
  roles_keep [] flags n h = h
  roles_keep (x ∷ users) flags n h = roles_keep users (set_at flags (role_among roles below x)) n (set_at_keeps flags (role_among roles below x) n h)

  pub roles_long : (users : List UserRow) (flags : List Bool) → length (roles_with roles below users flags) ≡ length flags
  roles_long [] flags = refl
  roles_long (x ∷ users) flags = roles_long users (set_at flags (role_among roles below x)) ∙ set_at_long flags (role_among roles below x)

  pub roles_from : (users : List UserRow) (flags : List Bool) (n : ℕ) → is_on (roles_with roles below users flags) n ≡ true
      → (is_on flags n ≡ true) ⊎ ((j : ℕ) × (x : UserRow) × (slice_get users j ≡ Some x) × (has_role_in roles below x ≡ true) × (role_place_of roles x ≡ Some n))
  roles_from [] flags n h = inl h
  roles_from (x ∷ users) flags n h = elim (roles_from users (set_at flags (role_among roles below x)) n h) [
    | inl set ↦ by (set_at_was flags (role_among roles below x) n set)
    | inr later ↦ inr (suc later.0, later.1, later.2, later.3, later.4)
  ]
    where
      by : (is_on flags n ≡ true) ⊎ (role_among roles below x ≡ Some n)
          → (is_on flags n ≡ true) ⊎ ((j : ℕ) × (y : UserRow) × (slice_get (x ∷ users) j ≡ Some y) × (has_role_in roles below y ≡ true) × (role_place_of roles y ≡ Some n))
      by (inl was) = inl was
      by (inr one) = inr (zero, x, refl, (among_is x n one).0, (among_is x n one).1)

  pub roles_there : (users : List UserRow) (flags : List Bool) (n j : ℕ) (x : UserRow) → slice_get users j ≡ Some x → has_role_in roles below x ≡ true → role_place_of roles x ≡ Some n → n < length flags
      → is_on (roles_with roles below users flags) n ≡ true
  roles_there [] flags n j x at is e lt = absurd cc
  roles_there (y ∷ users) flags n zero x at is e lt =
      let among : role_among roles below y ≡ Some n = ap (role_among roles below) (some_is y x at) ∙ is_among x is ∙ e in
      roles_keep users (set_at flags (role_among roles below y)) n
      (subst (λ (o : Option ℕ). is_on (set_at flags o) n ≡ true) (sym among) (set_there flags n lt))
  roles_there (y ∷ users) flags n (suc j) x at is e lt =
      roles_there users (set_at flags (role_among roles below y)) n j x at is e (subst (λ (m : ℕ). n < m) (sym (set_at_long flags (role_among roles below y))) lt)

-- ---- groups among members

-- from a group that is among the members of the group at a place
pub record IsNested (all : List GroupRow) (inner outer : ℕ) : Type 0 where
  pub group : GroupRow
  pub at : slice_get all outer ≡ Some group
  pub member : List ℕ
  pub among : Has group.members (to.Group member)
  pub place : place_of_id group_row_id all member ≡ Some inner

module _ (all : List GroupRow) where
  abbrev Member : ℕ → List Principal → Edge → Type 0
  Member n members e = (i : List ℕ) × Has members (to.Group i) × (place_of_id group_row_id all i ≡ Some e.from) × (e.to ≡ n)

  further : (n : ℕ) (p : Principal) (members : List Principal) (e : Edge) → Member n members e → Member n (p ∷ members) e
  further n p members e (i, has, place, is) = (i, inr has, place, is)

  one_group : (n : ℕ) (p : Principal) (e : Edge) → Has (member_edge all n p) e → (i : List ℕ) × (p ≡ to.Group i) × (place_of_id group_row_id all i ≡ Some e.from) × (e.to ≡ n)
  one_group n (to.User j) e h = absurd h
  one_group n (to.Role j) e h = absurd h
  one_group n (to.Subordinates j) e h = absurd h
  one_group n (to.Group j) e h0 = by (place_of_id group_row_id all j) refl h0
    where
      by : (o : Option ℕ) → place_of_id group_row_id all j ≡ o → Has (in_case o [] (λ m. record { from = m; to = n } ∷ [])) e
          → (i : List ℕ) × (to.Group j ≡ to.Group i) × (place_of_id group_row_id all i ≡ Some e.from) × (e.to ≡ n)
      by None is h = absurd h
      by (Some m) is (inl same) = (j, refl, is ∙ ap Some (sym (ap (λ (x : Edge). x.from) same)), ap (λ (x : Edge). x.to) same)
      by (Some m) is (inr h) = absurd h

  group_one : (n : ℕ) (i : List ℕ) (e : Edge) → place_of_id group_row_id all i ≡ Some e.from → e.to ≡ n → Has (member_edge all n (to.Group i)) e
  group_one n i e at is =
      subst (λ (o : Option ℕ). Has (in_case o [] (λ m. record { from = m; to = n } ∷ [])) e) (sym at) (inl (edge_is e e.from n refl is))

  member_has : (n : ℕ) (members : List Principal) (e : Edge) → Has (member_edges all n members) e → Member n members e
  member_has n [] e h = absurd h
  member_has n (p ∷ members) e h = by (member_has n members e) (has_both (member_edge all n p) (member_edges all n members) e h)
    where
      by : (Has (member_edges all n members) e → Member n members e) → Has (member_edge all n p) e ⊎ Has (member_edges all n members) e → Member n (p ∷ members) e
      by rest (inl first) = let one = one_group n p e first in (one.0, inl (sym one.1), one.2, one.3)
      by rest (inr later) = further n p members e (rest later)

  has_member : (n : ℕ) (members : List Principal) (e : Edge) (i : List ℕ) → Has members (to.Group i) → place_of_id group_row_id all i ≡ Some e.from → e.to ≡ n → Has (member_edges all n members) e
  has_member n [] e i h at is = absurd h
  has_member n (p ∷ members) e i (inl same) at is =
      has_left (member_edge all n p) (member_edges all n members) e (subst (λ (q : Principal). Has (member_edge all n q) e) same (group_one n i e at is))
  has_member n (p ∷ members) e i (inr h) at is = has_right (member_edge all n p) (member_edges all n members) e (has_member n members e i h at is)

  abbrev Nested : List GroupRow → ℕ → Edge → Type 0
  Nested groups k e = (j : ℕ) × (g : GroupRow) × (slice_get groups j ≡ Some g) × (i : List ℕ) × Has g.members (to.Group i) × (place_of_id group_row_id all i ≡ Some e.from) × (e.to ≡ k + j)

  groups_have : (groups : List GroupRow) (k : ℕ) (e : Edge) → Has (group_edges all k groups) e → Nested groups k e
  groups_have [] k e h = absurd h
  groups_have (g ∷ groups) k e h = by (groups_have groups (suc k) e) (has_both (member_edges all k g.members) (group_edges all (suc k) groups) e h)
    where
      by : (Has (group_edges all (suc k) groups) e → Nested groups (suc k) e) → Has (member_edges all k g.members) e ⊎ Has (group_edges all (suc k) groups) e → Nested (g ∷ groups) k e
      by rest (inl first) = let m = member_has k g.members e first in (zero, g, refl, m.0, m.1, m.2, omega (arith, m.3))
      by rest (inr later) = let n = rest later in (suc n.0, n.1, n.2, n.3, n.4, n.5, omega (arith, n.6))

  have_group : (groups : List GroupRow) (k : ℕ) (e : Edge) (j : ℕ) (g : GroupRow) → slice_get groups j ≡ Some g → (i : List ℕ) → Has g.members (to.Group i) → place_of_id group_row_id all i ≡ Some e.from → e.to ≡ k + j
      → Has (group_edges all k groups) e
  have_group [] k e j g at i has place is = absurd cc
  have_group (h ∷ groups) k e zero g at i has place is =
      has_left (member_edges all k h.members) (group_edges all (suc k) groups) e
      (has_member k h.members e i (subst (λ (x : GroupRow). Has x.members (to.Group i)) (sym (some_is h g at)) has) place (omega (arith, is)))
  have_group (h ∷ groups) k e (suc j) g at i has place is =
      has_right (member_edges all k h.members) (group_edges all (suc k) groups) e (have_group groups (suc k) e j g at i has place (omega (arith, is)))

  pub nested_edge : (e : Edge) → Has (group_edges all 0 all) e → IsNested all e.from e.to
  nested_edge e h =
      let n = groups_have all 0 e h in
      let to_place : e.to ≡ n.0 = omega (arith, n.6) in
      record { group = n.1; at = ap (slice_get all) to_place ∙ n.2; member = n.3; among = n.4; place = n.5 }

  pub edge_nested : (m n : ℕ) → IsNested all m n → Has (group_edges all 0 all) (record { from = m; to = n })
  edge_nested m n x = have_group all 0 (record { from = m; to = n }) n x.group x.at x.member x.among x.place (omega arith)
