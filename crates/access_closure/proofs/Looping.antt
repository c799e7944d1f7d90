-- Steps of loops over lists.
use Rattle.std.proofs.Common.{◌≡◌, ◌∙◌, ℕ, suc, ◌+◌, ◌<◌, Bool, true, false, ◌||◌, List, [], ◌∷◌, ◌++◌, drop, take, length, map, get_or, slice_set, refl, sym, ap, arith, append_assoc}
use Rattle.std.specs.List.{list_any}
use Rattle.std.proofs.lemmas.List.{at_drop_more, take_more, map_push as map_end}
use Rattle.store_rows.specs.declared.role.RoleRow.{RoleRow}
use Rattle.store_rows.specs.declared.user.UserRow.{UserRow}
use Rattle.model.specs.Cases.{in_case}
use Rattle.base_value.specs.declared.sharing.Principal.{Principal}
use Rattle.base_value.specs.declared.sharing.Principal.TheVariants as to
use Rattle.access_closure.specs.declared.people.People.{People}
use Rattle.access_closure.specs.declared.ring.Ring.{Ring}
use Rattle.access_closure.specs.Held.{is_held_directly}
use Rattle.access_closure.specs.Places.{is_on, place_of_id, role_row_id, user_row_id}
use Rattle.access_closure.specs.inner.Chosen.{role_among, roles_with, set_at, users_with}
use Rattle.access_closure.specs.inner.Rings.{groups_held}

pub split : {X Y : Type 0} (f : List X → Y) (xs : List X) (i : ℕ) (x : X) → i < length xs → x ≡ get_or xs i x → f (drop i xs) ≡ f (x ∷ drop (i + 1) xs)
split f xs i x lt is = at_drop_more f xs i x lt ∙ ap (λ y. f (y ∷ drop (i + 1) xs)) (sym is)

-- what each adds at its place
pub added : {X Y : Type 0} (f : ℕ → List X → List Y) (one : ℕ → X → List Y) → ((n : ℕ) (x : X) (xs : List X) → f n (x ∷ xs) ≡ one n x ++ f (suc n) xs)
    → (xs : List X) (i : ℕ) (x : X) (n : ℕ) (old new all : List Y) → i < length xs → x ≡ get_or xs i x → new ≡ old ++ one n x → old ++ f n (drop i xs) ≡ all → new ++ f (n + 1) (drop (i + 1) xs) ≡ all
added f one step xs i x n old new all lt is grown so_far =
    let next : n + 1 ≡ suc n = omega arith in
    ap (λ l. l ++ f (n + 1) (drop (i + 1) xs)) grown
    ∙ append_assoc old (one n x) (f (n + 1) (drop (i + 1) xs))
    ∙ ap (λ k. old ++ (one n x ++ f k (drop (i + 1) xs))) next
    ∙ ap (λ l. old ++ l) (sym (split (f n) xs i x lt is ∙ step n x (drop (i + 1) xs)))
    ∙ so_far

-- the same where all are at one place
pub added_here : {X Y : Type 0} (f : List X → List Y) (one : X → List Y) → ((x : X) (xs : List X) → f (x ∷ xs) ≡ one x ++ f xs)
    → (xs : List X) (i : ℕ) (x : X) (old new all : List Y) → i < length xs → x ≡ get_or xs i x → new ≡ old ++ one x → old ++ f (drop i xs) ≡ all → new ++ f (drop (i + 1) xs) ≡ all
added_here f one step xs i x old new all lt is grown so_far =
    ap (λ l. l ++ f (drop (i + 1) xs)) grown
    ∙ append_assoc old (one x) (f (drop (i + 1) xs))
    ∙ ap (λ l. old ++ l) (sym (split f xs i x lt is ∙ step x (drop (i + 1) xs)))
    ∙ so_far

pub users_on : (roles : List RoleRow) (below : List Bool) (users : List UserRow) (i : ℕ) (x : UserRow) (n : ℕ) (flags new all : List Bool) → i < length users → x ≡ get_or users i x
    → new ≡ in_case (role_among roles below x) flags (λ m. slice_set flags n true) → users_with roles below n (drop i users) flags ≡ all → users_with roles below (n + 1) (drop (i + 1) users) new ≡ all
users_on roles below users i x n flags new all lt is grown so_far =
    let next : n + 1 ≡ suc n = omega arith in
    ap (λ l. users_with roles below (n + 1) (drop (i + 1) users) l) grown
    ∙ ap (λ k. users_with roles below k (drop (i + 1) users) (in_case (role_among roles below x) flags (λ m. slice_set flags n true))) next
    ∙ sym (split (λ l. users_with roles below n l flags) users i x lt is)
    ∙ so_far

pub roles_on : (roles : List RoleRow) (below : List Bool) (users : List UserRow) (i : ℕ) (x : UserRow) (flags new all : List Bool) → i < length users → x ≡ get_or users i x
    → new ≡ set_at flags (role_among roles below x) → roles_with roles below (drop i users) flags ≡ all → roles_with roles below (drop (i + 1) users) new ≡ all
roles_on roles below users i x flags new all lt is grown so_far =
    ap (λ l. roles_with roles below (drop (i + 1) users) l) grown
    ∙ sym (split (λ l. roles_with roles below l flags) users i x lt is)
    ∙ so_far

pub any_on : {X : Type 0} (f : X → Bool) (xs : List X) (i : ℕ) (x : X) → i < length xs → x ≡ get_or xs i x → f x ≡ false → list_any f (drop i xs) ≡ list_any f xs → list_any f (drop (i + 1) xs) ≡ list_any f xs
any_on f xs i x lt is off so_far = sym (split (list_any f) xs i x lt is ∙ ap (λ b. b || list_any f (drop (i + 1) xs)) off) ∙ so_far

pub any_here : {X : Type 0} (f : X → Bool) (xs : List X) (i : ℕ) (x : X) → i < length xs → x ≡ get_or xs i x → f x ≡ true → list_any f (drop i xs) ≡ list_any f xs → true ≡ list_any f xs
any_here f xs i x lt is on so_far = sym (split (list_any f) xs i x lt is ∙ ap (λ b. b || list_any f (drop (i + 1) xs)) on) ∙ so_far

pub mapped : {X Y : Type 0} (f : X → Y) (xs : List X) (i : ℕ) (x : X) (old new : List Y) (y : Y) → i < length xs → x ≡ get_or xs i x → new ≡ old ++ y ∷ [] → y ≡ f x → old ≡ map f (take i xs) → new ≡ map f (take (i + 1) xs)
mapped f xs i x old new y lt is grown same so_far =
    grown ∙ ap (λ z. old ++ z ∷ []) (same ∙ ap f is) ∙ ap (λ l. l ++ f (get_or xs i x) ∷ []) so_far
    ∙ sym (ap (map f) (take_more xs i x lt) ∙ map_end f (take i xs) (get_or xs i x))

-- what is held directly is so whatever groups are
pub same_groups : (people : People) (r q : Ring) → r.users.items ≡ q.users.items → r.roles.items ≡ q.roles.items → r.subordinates.items ≡ q.subordinates.items → groups_held people r ≡ groups_held people q
same_groups people r q u o s = λ k. map (λ g. list_any (λ p. each p k) g.members) people.groups.items
  where
    each : (p : Principal) → is_held_directly people r p ≡ is_held_directly people q p
    each (to.User i) = ap (λ l. in_case (place_of_id user_row_id people.users.items i) false (is_on l)) u
    each (to.Role i) = ap (λ l. in_case (place_of_id role_row_id people.roles.items i) false (is_on l)) o
    each (to.Subordinates i) = ap (λ l. in_case (place_of_id role_row_id people.roles.items i) false (is_on l)) s
    each (to.Group i) = refl
