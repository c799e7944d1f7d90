-- What is held by places is what reaches the user, and what the user is a member of, of a sound tenant.
use Rattle.std.proofs.Common.{◌≡◌, ◌∙◌, ℕ, Bool, true, false, ◌&&◌, ◌||◌, cond, List, [], ◌∷◌, map, refl, sym, ap, subst, ◌⊎◌, inl, inr, Option, Some, None, T}
use Rattle.std.specs.Prelude.{◌↔◌, IfSome, IsTrue, bytes_eq, is_some}
use Rattle.std.specs.Cmp.{both_ways}
use Rattle.std.specs.Cmp.Lexicographic.{slice_cmp}
use Rattle.std.specs.FinMap.Entries.{below_all}
use Rattle.std.specs.List.{AllByRecursion}
use Rattle.std.specs.Option.{option_and_then, option_map}
use Rattle.std.specs.Ordering.{is_lt, nat_cmp}
use Rattle.std.proofs.lemmas.Slice.Eq.{bytes_eq-Decides}
use Rattle.base_lemmas.proofs.Options.{some_there}
use Rattle.std.proofs.lemmas.Option.{same_Some as some_is}
use Rattle.store_rows.specs.declared.group.GroupRow.{GroupRow}
use Rattle.store_rows.specs.declared.role.RoleRow.{RoleRow}
use Rattle.store_rows.specs.declared.user.UserRow.{UserRow}
use Rattle.model.specs.Cases.{in_case}
use Rattle.model.specs.Known.{group_id, known, role_id}
use Rattle.model.specs.Membership.{Has, IsAbove, IsMember, Member, Reaches, RoleBelow, is_above, is_member, reaches, structure_of}
use Rattle.model.specs.Sound.{IsSound}
use Rattle.model.specs.SoundPeople.{IsSoundRole, IsSoundUser, ids_rise}
use Rattle.model.specs.Tenant.{Group, Role, Tenant, User}
use Rattle.model.specs.World.{having_id, user_at, user_id}
use Rattle.store_abstraction.specs.Metadata.{group_of, role_of, user_of}
use Rattle.base_value.specs.declared.sharing.Principal.{Principal}
use Rattle.base_value.specs.declared.sharing.Principal.TheVariants as to
use Rattle.access_closure.specs.declared.chosen.Chosen.{Chosen}
use Rattle.access_closure.specs.declared.people.People.{People}
use Rattle.access_closure.specs.declared.ring.Ring.{Ring}
use Rattle.access_closure.specs.Held.{is_held}
use Rattle.access_closure.specs.Places.{group_row_id, role_row_id, user_row_id}
use Rattle.access_closure.specs.inner.Chosen.{IsAlone, IsUserAndBelow, edges_up}
use Rattle.access_closure.specs.inner.Order.{AreInOrder}
use Rattle.access_closure.specs.inner.Rings.{IsRing}
use Rattle.access_closure.specs.Keyrings.{ArePeople}
use Rattle.access_closure.proofs.Choosing.{IsMine, chooses_all, chooses_alone}
use Rattle.access_closure.proofs.Edges.{has_map, has_place, map_has}
use Rattle.access_closure.proofs.Found.{found_at, found_having}
use Rattle.access_closure.proofs.Meaning.{Chooses, IsOfRows, OneIsMember, sound, whole}
use Rattle.access_closure.proofs.Spreading.{at_has}

-- ---- rows of a tenant

module _ {X Y : Type 0} (f : X → Y) (id : X → List ℕ) (row_id : Y → List ℕ) (same : (x : X) → row_id (f x) ≡ id x) where
  having_map : (xs : List X) (i : List ℕ) → having_id row_id (map f xs) i ≡ option_map f (having_id id xs i)
  having_map [] i = refl
  having_map (x ∷ xs) i =
      ap (λ (j : List ℕ). cond (bytes_eq i j) (Some (f x)) (having_id row_id (map f xs) i)) (same x) ∙ by (bytes_eq i (id x)) (having_map xs i)
    where
      by : (b : Bool) → having_id row_id (map f xs) i ≡ option_map f (having_id id xs i) → cond b (Some (f x)) (having_id row_id (map f xs) i) ≡ option_map f (cond b (Some x) (having_id id xs i))
      by true e = refl
      by false e = e

  below_map : (a : List ℕ) (xs : List X) → below_all (slice_cmp nat_cmp) a (map (λ y. (row_id y, y)) (map f xs)) ≡ below_all (slice_cmp nat_cmp) a (map (λ x. (id x, x)) xs)
  below_map a [] = refl
  below_map a (x ∷ xs) =
      ap (λ (j : List ℕ). is_lt (slice_cmp nat_cmp a j) && below_all (slice_cmp nat_cmp) a (map (λ y. (row_id y, y)) (map f xs))) (same x)
      ∙ ap (λ (b : Bool). is_lt (slice_cmp nat_cmp a (id x)) && b) (below_map a xs)

  rise_map : (xs : List X) → ids_rise row_id (map f xs) ≡ ids_rise id xs
  rise_map [] = refl
  rise_map (x ∷ xs) =
      ap (λ (j : List ℕ). below_all (slice_cmp nat_cmp) j (map (λ y. (row_id y, y)) (map f xs)) && ids_rise row_id (map f xs)) (same x)
      ∙ ap (λ (b : Bool). b && ids_rise row_id (map f xs)) (below_map (id x) xs)
      ∙ ap (λ (b : Bool). below_all (slice_cmp nat_cmp) (id x) (map (λ z. (id z, z)) xs) && b) (rise_map xs)

each : {X : Type 0} (P : X → Type 0) (xs : List X) → AllByRecursion P xs → (x : X) → Has xs x → P x
each P [] all x h = absurd h
each P (y ∷ xs) all x (inl e) = subst P (sym e) all.0
each P (y ∷ xs) all x (inr h) = each P xs all.1 x h

if_some : (P : List ℕ → Type 0) (o : Option (List ℕ)) (i : List ℕ) → o ≡ Some i → IfSome o P → P i
if_some P None i e h = absurd cc
if_some P (Some j) i e h = subst P (some_is j i e) h

module _ (org : ℕ) (t : Tenant) (people : People) (rows : ArePeople org t people) (is_sound : IsSound t) where
  parent_after : (o : Option Role) → option_and_then (λ (r : Role). r.parent) o ≡ option_and_then (λ (r : RoleRow). r.parent) (option_map (role_of org) o)
  parent_after None = refl
  parent_after (Some r) = refl

  members_after : (o : Option Group) → option_map (λ (g : Group). g.members) o ≡ option_map (λ (g : GroupRow). g.members) (option_map (group_of org) o)
  members_after None = refl
  members_after (Some g) = refl

  role_row : (i : List ℕ) → having_id role_row_id people.roles.items i ≡ option_map (role_of org) (having_id role_id t.roles i)
  role_row i = ap (λ (l : List RoleRow). having_id role_row_id l i) rows.roles ∙ having_map (role_of org) role_id role_row_id (λ x. refl) t.roles i

  group_row : (i : List ℕ) → having_id group_row_id people.groups.items i ≡ option_map (group_of org) (having_id group_id t.groups i)
  group_row i = ap (λ (l : List GroupRow). having_id group_row_id l i) rows.groups ∙ having_map (group_of org) group_id group_row_id (λ x. refl) t.groups i

  -- a role that is known has its row
  known_row : (i : List ℕ) → IsTrue (is_some (having_id role_id t.roles i)) → (q : RoleRow) × (having_id role_row_id people.roles.items i ≡ Some q)
  known_row i k = let r = some_there (having_id role_id t.roles i) k in (role_of org r.0, role_row i ∙ ap (option_map (role_of org)) r.1)

  pub in_order : AreInOrder people
  in_order = record {
    users = subst (λ (l : List UserRow). T (ids_rise user_row_id l)) (sym rows.users) (subst T (sym (rise_map (user_of org) user_id user_row_id (λ x. refl) t.users)) is_sound.users.rise);
    roles = subst (λ (l : List RoleRow). T (ids_rise role_row_id l)) (sym rows.roles) (subst T (sym (rise_map (role_of org) role_id role_row_id (λ x. refl) t.roles)) is_sound.roles.rise);
    groups = subst (λ (l : List GroupRow). T (ids_rise group_row_id l)) (sym rows.groups) (subst T (sym (rise_map (group_of org) group_id group_row_id (λ x. refl) t.groups)) is_sound.groups.rise);
  }

  of_rows : IsOfRows people (structure_of t)
  of_rows = record {
    order = in_order;
    parent = λ i. parent_after (having_id role_id t.roles i) ∙ ap (option_and_then (λ (r : RoleRow). r.parent)) (sym (role_row i));
    members = λ i. members_after (having_id group_id t.groups i) ∙ ap (option_map (λ (g : GroupRow). g.members)) (sym (group_row i));
    user_role = λ x r has e.
        let y = map_has (user_of org) t.users x (subst (λ (l : List UserRow). Has l x) rows.users has) in
        let k = (each (IsSoundUser (known t)) t.users is_sound.users.each y.0 y.1).role in
        known_row r (if_some (λ j. IsTrue ((known t).role j)) y.0.role r (sym (ap (λ (z : UserRow). z.role) y.2) ∙ e) k);
    above = λ q p has e.
        let y = map_has (role_of org) t.roles q (subst (λ (l : List RoleRow). Has l q) rows.roles has) in
        let k = (each (IsSoundRole (known t)) t.roles is_sound.roles.each y.0 y.1).parent in
        known_row p (if_some (λ j. IsTrue ((known t).role j)) y.0.parent p (sym (ap (λ (z : RoleRow). z.parent) y.2) ∙ e) k);
  }

  row_there : (u : User) → Has t.users u → Has people.users.items (user_of org u)
  row_there u has = subst (λ (l : List UserRow). Has l (user_of org u)) (sym rows.users) (has_map (user_of org) t.users u has)

  there_row : (x : UserRow) → Has people.users.items x → (y : User) × Has t.users y × (x ≡ user_of org y)
  there_row x has = map_has (user_of org) t.users x (subst (λ (l : List UserRow). Has l x) rows.users has)

  -- rows with one id are one
  one_row : (x y : UserRow) → Has people.users.items x → Has people.users.items y → x.id ≡ y.id → x ≡ y
  one_row x y has_x has_y e =
      let a = has_place people.users.items x has_x in
      let b = has_place people.users.items y has_y in
      let f = found_at user_row_id people.users.items a.0 x in_order.users a.1 in
      let g = found_at user_row_id people.users.items b.0 y in_order.users b.1 in
      some_is x y (sym f.having ∙ ap (having_id user_row_id people.users.items) e ∙ g.having)

  module _ (u : User) (has : Has t.users u) where
    -- the row of who has this id is the user's
    own_row : (x : UserRow) → Has people.users.items x → x.id ≡ u.id → x ≡ user_of org u
    own_row x has_x e = one_row x (user_of org u) has_x (row_there u has) e

    pub is_reached : ((t : Tenant) (p : Principal) (u : User) → IsTrue (reaches t p u) ↔ Reaches t p u) → (c : Chosen) (ring : Ring)
        → IsUserAndBelow people (edges_up people.roles.items 0 people.roles.items) u.id c → IsRing people c (edges_up people.roles.items 0 people.roles.items) ring
        → (p : Principal) → is_held people ring p ≡ reaches t p u
    is_reached law c ring chosen is p = both_ways (is_held people ring p) (reaches t p u) (λ h. (law t p u).1 (out (sound people (structure_of t) of_rows mine c ring chooses is p h))) (λ h. into ((law t p u).0 h))
      where
        mine : UserRow → Type 0
        mine = IsMine people (structure_of t) of_rows u.id (user_of org u) (row_there u has) refl

        chooses : Chooses people mine c
        chooses = chooses_all people (structure_of t) of_rows u.id (user_of org u) (row_there u has) refl c chosen

        out : OneIsMember people (structure_of t) mine p → Reaches t p u
        out (x, has_x, inl e, m) = inl (subst (λ (y : UserRow). Member (structure_of t) y.id y.role p) (own_row x has_x e) m)
        out (x, has_x, inr low, m) =
            let y = there_row x has_x in
            inr (y.0, y.1, subst (λ (z : UserRow). RoleBelow (structure_of t).parent z.role u.role) y.2 low, subst (λ (z : UserRow). Member (structure_of t) z.id z.role p) y.2 m)

        into : Reaches t p u → is_held people ring p ≡ true
        into (inl m) = whole people (structure_of t) of_rows mine c ring chooses is (user_of org u) (row_there u has) (inl refl) p m
        into (inr (y, has_y, above, m)) = whole people (structure_of t) of_rows mine c ring chooses is (user_of org y) (row_there y has_y) (inr above) p m

    pub is_in : ((t : Tenant) (u : User) (p : Principal) → IsTrue (is_member t u p) ↔ IsMember t u p) → (c : Chosen) (ring : Ring)
        → IsAlone people u.id c → IsRing people c (edges_up people.roles.items 0 people.roles.items) ring
        → (p : Principal) → is_held people ring p ≡ is_member t u p
    is_in law c ring alone is p = both_ways (is_held people ring p) (is_member t u p) (λ h. (law t u p).1 (out (sound people (structure_of t) of_rows mine c ring chooses is p h))) (λ h. whole people (structure_of t) of_rows mine c ring chooses is (user_of org u) (row_there u has) refl p ((law t u p).0 h))
      where
        mine : UserRow → Type 0
        mine x = x.id ≡ u.id

        chooses : Chooses people mine c
        chooses = chooses_alone people (structure_of t) of_rows u.id c alone

        out : OneIsMember people (structure_of t) mine p → IsMember t u p
        out (x, has_x, e, m) = subst (λ (y : UserRow). Member (structure_of t) y.id y.role p) (own_row x has_x e) m

    -- ---- owners

    user_is : (who : List ℕ) (role : Option (List ℕ)) (p : Principal) (i : List ℕ) → Member (structure_of t) who role p → p ≡ to.User i → i ≡ who
    user_is who role p i Member.itself e = cc
    user_is who role p i (Member.in_role k) e = absurd cc
    user_is who role p i (Member.at_role k) e = absurd cc
    user_is who role p i (Member.below_role k b) e = absurd cc
    user_is who role p i (Member.in_group k h m) e = absurd cc

    user_found : (x : User) (i : List ℕ) → Has t.users x → i ≡ x.id → user_at t.users i ≡ Some x
    user_found x i has_x e =
        let at = has_place t.users x has_x in
        ap (user_at t.users) e ∙ (found_at user_id t.users at.0 x is_sound.users.rise at.1).having

    pub owns_is : ((t : Tenant) (p : Principal) (u : User) → IsTrue (reaches t p u) ↔ Reaches t p u) → ((t : Tenant) (u x : User) → IsTrue (is_above t u x) ↔ IsAbove t u x)
        → (i : List ℕ) → reaches t (to.User i) u ≡ in_case (user_at t.users i) false (λ x. bytes_eq x.id u.id || is_above t u x)
    owns_is law above i = both_ways (reaches t (to.User i) u) (owns (user_at t.users i)) (λ h. there ((law t (to.User i) u).0 h)) (λ h. (law t (to.User i) u).1 (back (user_at t.users i) refl h))
      where
        owns : Option User → Bool
        owns o = in_case o false (λ x. bytes_eq x.id u.id || is_above t u x)

        left : (a b : Bool) → a ≡ true → (a || b) ≡ true
        left true b e = refl
        left false b e = absurd cc

        right : (a b : Bool) → b ≡ true → (a || b) ≡ true
        right true b e = refl
        right false b e = e

        one : (a b : Bool) → (a || b) ≡ true → (a ≡ true) ⊎ (b ≡ true)
        one true b e = inl refl
        one false b e = inr e

        there : Reaches t (to.User i) u → owns (user_at t.users i) ≡ true
        there (inl m) =
            let e = user_is u.id u.role (to.User i) i m refl in
            ap owns (user_found u i has e) ∙ left (bytes_eq u.id u.id) (is_above t u u) ((bytes_eq-Decides u.id u.id).1 refl)
        there (inr (x, has_x, a, m)) =
            let e = user_is x.id x.role (to.User i) i m refl in
            ap owns (user_found x i has_x e) ∙ right (bytes_eq x.id u.id) (is_above t u x) ((above t u x).1 a)

        back : (o : Option User) → user_at t.users i ≡ o → owns o ≡ true → Reaches t (to.User i) u
        back None e h = absurd cc
        back (Some x) e h =
            let f = found_having user_id t.users i x e in
            let has_x = at_has t.users f.0 x f.1.at in
            by f.1.id_is has_x (one (bytes_eq x.id u.id) (is_above t u x) h)
          where
            by : x.id ≡ i → Has t.users x → (bytes_eq x.id u.id ≡ true) ⊎ (is_above t u x ≡ true) → Reaches t (to.User i) u
            by is has_x (inl same) = inl (subst (λ (j : List ℕ). Member (structure_of t) u.id u.role (to.User j)) (sym ((bytes_eq-Decides x.id u.id).0 same) ∙ is) Member.itself)
            by is has_x (inr a) = inr (x, has_x, (above t u x).0 a, subst (λ (j : List ℕ). Member (structure_of t) x.id x.role (to.User j)) is Member.itself)
