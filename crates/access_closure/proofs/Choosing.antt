-- The users that are chosen: the user, and those below.
use Rattle.std.proofs.Common.{◌≡◌, ◌∙◌, ℕ, zero, suc, ◌+◌, ◌<◌, Bool, true, false, cond, List, [], ◌∷◌, length, map, slice_set, refl, sym, ap, subst, ◌⊎◌, inl, inr, arith, Option, Some, None, T}
use Rattle.std.specs.Prelude.{IfOk, MatchOption, Result, Ok, Err, replicate, slice_get}
use Rattle.std.specs.declared.alloc.AllocError.{AllocError}
use Rattle.std.specs.List.{list_any}
use Rattle.std.specs.Option.{option_and_then}
use Rattle.base_lemmas.proofs.Bools.{not_both}
use Rattle.std.proofs.lemmas.Option.{slice_get_within as within, same_Some as some_is}
use Rattle.store_rows.specs.declared.role.RoleRow.{RoleRow}
use Rattle.store_rows.specs.declared.user.UserRow.{UserRow}
use Rattle.model.specs.Cases.{in_case}
use Rattle.model.specs.Membership.{Below, Has, RoleBelow, Structure}
use Rattle.model.specs.SoundPeople.{ids_rise}
use Rattle.access_closure.specs.declared.chosen.Chosen.{Chosen}
use Rattle.access_closure.specs.declared.graph.Edge.{Edge}
use Rattle.access_closure.specs.declared.people.People.{People}
use Rattle.access_closure.specs.Places.{is_on, place_of_id, role_row_id, user_row_id}
use Rattle.access_closure.specs.inner.Chosen.{AddsBelow, IsAlone, IsUserAndBelow, IsWithBelow, edge_back, edges_up, has_role_in, role_among, roles_with, set_at, users_with, with_sources}
use Rattle.access_closure.specs.inner.Order.{AreInOrder, role_place_by_id, role_place_of}
use Rattle.access_closure.specs.inner.Reached.{Closes, Reached}
use Rattle.access_closure.proofs.Edges.{IsUp, edge_up, has_map, has_place, map_has, marked_from, marked_long, marked_there, none_long, none_on, roles_from, roles_keep, roles_long, roles_there, set_at_from, set_at_long, set_at_there, edge_from, users_from, users_keep, users_there}
use Rattle.access_closure.proofs.Found.{found_at, found_having, found_place}
use Rattle.access_closure.proofs.Meaning.{Chooses, IsOfRows, parent_up, up_parent}
use Rattle.access_closure.proofs.Spreading.{at_has}

-- ---- where no role is below

all_off : (below : List Bool) (n : ℕ) → list_any (λ flag. flag) below ≡ false → is_on below n ≡ false
all_off [] n e = refl
all_off (true ∷ below) n e = absurd cc
all_off (false ∷ below) zero e = refl
all_off (false ∷ below) (suc n) e = all_off below n e

none_among : (roles : List RoleRow) (below : List Bool) (x : UserRow) → list_any (λ flag. flag) below ≡ false → role_among roles below x ≡ None
none_among roles below x e = ap (λ (b : Bool). cond b (role_place_of roles x) None) (by (role_place_of roles x))
  where
    by : (o : Option ℕ) → in_case o false (is_on below) ≡ false
    by None = refl
    by (Some m) = all_off below m e

pub users_same : (roles : List RoleRow) (below : List Bool) (n : ℕ) (users : List UserRow) (flags : List Bool) → list_any (λ flag. flag) below ≡ false → flags ≡ users_with roles below n users flags
users_same roles below n [] flags e = refl
users_same roles below n (x ∷ users) flags e =
    users_same roles below (suc n) users flags e
    ∙ ap (λ (o : Option ℕ). users_with roles below (suc n) users (in_case o flags (λ m. slice_set flags n true))) (sym (none_among roles below x e))

pub roles_same : (roles : List RoleRow) (below : List Bool) (users : List UserRow) (flags : List Bool) → list_any (λ flag. flag) below ≡ false → flags ≡ roles_with roles below users flags
roles_same roles below [] flags e = refl
roles_same roles below (x ∷ users) flags e =
    roles_same roles below users flags e ∙ ap (λ (o : Option ℕ). roles_with roles below users (set_at flags o)) (sym (none_among roles below x e))

-- the same users, roles and flags
pub users_moved : (us vs : List UserRow) (rs ss : List RoleRow) (b d old new : List Bool) → us ≡ vs → rs ≡ ss → b ≡ d → (T (ids_rise role_row_id rs) → new ≡ users_with rs b 0 us old) → T (ids_rise role_row_id ss) → new ≡ users_with ss d 0 vs old
users_moved us vs rs ss b d old new u r f h rise = h (subst (λ (l : List RoleRow). T (ids_rise role_row_id l)) (sym r) rise) ∙ (λ k. users_with (r k) (f k) 0 (u k) old)

pub roles_moved : (us vs : List UserRow) (rs ss : List RoleRow) (b d old new : List Bool) → us ≡ vs → rs ≡ ss → b ≡ d → (T (ids_rise role_row_id rs) → new ≡ roles_with rs b us old) → T (ids_rise role_row_id ss) → new ≡ roles_with ss d vs old
roles_moved us vs rs ss b d old new u r f h rise = h (subst (λ (l : List RoleRow). T (ids_rise role_row_id l)) (sym r) rise) ∙ (λ k. roles_with (r k) (f k) (u k) old)

-- what is returned where the user has a role
pub all_below : (people : People) (up : List Edge) (i : List ℕ) (alone : Chosen) (role : ℕ) (r : Result Chosen AllocError) → (AreInOrder people → IsAlone people i alone) → (AreInOrder people → role_place_by_id people i ≡ Some role)
    → IfOk r (λ c. AreInOrder people → AddsBelow people up role alone c) → IfOk r (λ c. AreInOrder people → IsUserAndBelow people up i c)
all_below people up i alone role (Err e) is at h = h
all_below people up i alone role (Ok c) is at h =
    λ order. subst (λ (o : Option ℕ). MatchOption o (IsAlone people i c) (IsWithBelow people up i c)) (sym (at order)) (alone, is order, h order)

module _ (people : People) (s : Structure) (of : IsOfRows people s) (i : List ℕ) where
  abbrev users : List UserRow
  users = people.users.items

  abbrev roles : List RoleRow
  roles = people.roles.items

  same_row : {X : Type 0} (xs : List X) (n : ℕ) (x y : X) → slice_get xs n ≡ Some x → slice_get xs n ≡ Some y → x ≡ y
  same_row xs n x y e f = some_is x y (sym e ∙ f)

  -- ---- the user alone

  -- the place of the user's role
  role_of_is : (x : UserRow) → Has users x → x.id ≡ i → role_place_by_id people i ≡ role_place_of roles x
  role_of_is x has e =
      let at = has_place users x has in
      let f = found_at user_row_id users at.0 x of.order.users at.1 in
      let place : place_of_id user_row_id users i ≡ Some at.0 = ap (place_of_id user_row_id users) (sym e) ∙ f.place in
      ap (λ (o : Option ℕ). option_and_then (role_place_of roles) (option_and_then (slice_get users) o)) place ∙ ap (option_and_then (role_place_of roles)) at.1

  role_of_from : (m : ℕ) → role_place_by_id people i ≡ Some m → (x : UserRow) × Has users x × (x.id ≡ i) × (role_place_of roles x ≡ Some m)
  role_of_from m e = by (place_of_id user_row_id users i) refl e
    where
      by : (o : Option ℕ) → place_of_id user_row_id users i ≡ o → option_and_then (role_place_of roles) (option_and_then (slice_get users) o) ≡ Some m → (x : UserRow) × Has users x × (x.id ≡ i) × (role_place_of roles x ≡ Some m)
      by None is k = absurd cc
      by (Some n) is k =
          let f = found_place user_row_id users i n is in
          (f.0, at_has users n f.0 f.1.at, f.1.id_is, ap (option_and_then (role_place_of roles)) (sym f.1.at) ∙ k)

  -- a place of a role is one
  role_within : (x : UserRow) (m : ℕ) → role_place_of roles x ≡ Some m → m < length roles
  role_within x m e = by x.role e
    where
      by : (o : Option (List ℕ)) → option_and_then (place_of_id role_row_id roles) o ≡ Some m → m < length roles
      by None k = absurd cc
      by (Some r) k = let f = found_place role_row_id roles r m k in within roles m f.0 f.1.at

  none : (k : ℕ) (o : Option ℕ) → length (set_at (replicate k false) o) ≡ k
  none k o = set_at_long (replicate k false) o ∙ none_long k

  pub chooses_alone : (c : Chosen) → IsAlone people i c → Chooses people (λ x. x.id ≡ i) c
  chooses_alone c (users_is, roles_is) = record {
    long = ap length roles_is ∙ none (length roles) (role_place_by_id people i);
    users_are = λ n x at. (there n x at, back n x at);
    roles_from = λ m h.
        let f = role_of_from m (set_at_from (length roles) (role_place_by_id people i) m (ap (λ (l : List Bool). is_on l m) (sym roles_is) ∙ h)) in
        (f.0, f.1, f.2, f.3);
    roles_there = λ x m has e place. ap (λ (l : List Bool). is_on l m) roles_is ∙ set_at_there (length roles) (role_place_by_id people i) m (role_of_is x has e ∙ place) (role_within x m place);
  }
    where
      there : (n : ℕ) (x : UserRow) → slice_get users n ≡ Some x → is_on c.users.items n ≡ true → x.id ≡ i
      there n x at h =
          let f = found_place user_row_id users i n (set_at_from (length users) (place_of_id user_row_id users i) n (ap (λ (l : List Bool). is_on l n) (sym users_is) ∙ h)) in
          ap user_row_id (same_row users n x f.0 at f.1.at) ∙ f.1.id_is

      back : (n : ℕ) (x : UserRow) → slice_get users n ≡ Some x → x.id ≡ i → is_on c.users.items n ≡ true
      back n x at e =
          let f = found_at user_row_id users n x of.order.users at in
          ap (λ (l : List Bool). is_on l n) users_is ∙ set_at_there (length users) (place_of_id user_row_id users i) n (ap (place_of_id user_row_id users) (sym e) ∙ f.place) (within users n x at)

  -- ---- the users below

  module _ (me : UserRow) (is_there : Has users me) (is_me : me.id ≡ i) where
    -- the user, or one below
    abbrev pub IsMine : UserRow → Type 0
    IsMine x = (x.id ≡ i) ⊎ RoleBelow s.parent x.role me.role

    -- the role at the place of a user's role is the user's
    own_role : (x : UserRow) (m : ℕ) (q : RoleRow) → role_place_of roles x ≡ Some m → slice_get roles m ≡ Some q → x.role ≡ Some q.id
    own_role x m q e at = by x.role refl e
      where
        by : (o : Option (List ℕ)) → x.role ≡ o → option_and_then (place_of_id role_row_id roles) o ≡ Some m → x.role ≡ Some q.id
        by None e k = absurd cc
        by (Some r) e k = let f = found_place role_row_id roles r m k in e ∙ ap Some (sym f.1.id_is ∙ ap role_row_id (same_row roles m f.0 q f.1.at at))

    -- what is at the place of a user's role
    role_row : (x : UserRow) (m : ℕ) → role_place_of roles x ≡ Some m → (q : RoleRow) × (slice_get roles m ≡ Some q) × (x.role ≡ Some q.id)
    role_row x m e = by x.role refl e
      where
        by : (o : Option (List ℕ)) → x.role ≡ o → option_and_then (place_of_id role_row_id roles) o ≡ Some m → (q : RoleRow) × (slice_get roles m ≡ Some q) × (x.role ≡ Some q.id)
        by None e k = absurd cc
        by (Some r) e k = let f = found_place role_row_id roles r m k in (f.0, f.1.at, e ∙ ap Some (sym f.1.id_is))

    -- a user's role is known
    role_known : (x : UserRow) (r : List ℕ) → Has users x → x.role ≡ Some r → (m : ℕ) × (place_of_id role_row_id roles r ≡ Some m) × (role_place_of roles x ≡ Some m)
    role_known x r has e =
        let known = of.user_role x r has e in
        let f = found_having role_row_id roles r known.0 known.1 in
        (f.0, f.1.place, ap (option_and_then (place_of_id role_row_id roles)) e ∙ f.1.place)

    -- where the user has no role, no one is below
    none_below : role_place_by_id people i ≡ None → (x : UserRow) → RoleBelow s.parent x.role me.role → ⊥
    none_below e x h = by me.role refl
      where
        by : (o : Option (List ℕ)) → me.role ≡ o → ⊥
        by (Some r) is = let k = role_known me r is_there is in let place = sym e ∙ role_of_is me is_there is_me ∙ k.2 in cc
        by None is = no x.role (subst (λ (o : Option (List ℕ)). RoleBelow s.parent x.role o) is h)
          where
            no : (o : Option (List ℕ)) → RoleBelow s.parent o None → ⊥
            no None k = k
            no (Some a) k = k

    chooses_none : (c : Chosen) → role_place_by_id people i ≡ None → IsAlone people i c → Chooses people IsMine c
    chooses_none c e alone =
        let a = chooses_alone c alone in
        record {
          long = a.long;
          users_are = λ n x at. (λ h. inl ((a.users_are n x at).0 h), λ p. (a.users_are n x at).1 (it x p));
          roles_from = λ m h. let f = a.roles_from m h in (f.0, f.1, inl f.2, f.3);
          roles_there = λ x m has p place. a.roles_there x m has (it x p) place;
        }
      where
        it : (x : UserRow) → IsMine x → x.id ≡ i
        it x (inl is) = is
        it x (inr h) = absurd (none_below e x h)

    module _ (role : ℕ) (role_is : role_place_by_id people i ≡ Some role) where
      abbrev up : List Edge
      up = edges_up roles 0 roles

      abbrev start : List Bool
      start = with_sources role (replicate (length roles) false) up

      my_place : role_place_of roles me ≡ Some role
      my_place = sym (role_of_is me is_there is_me) ∙ role_is

      abbrev top : RoleRow
      top = (role_row me role my_place).0

      top_at : slice_get roles role ≡ Some top
      top_at = (role_row me role my_place).1

      my_role : me.role ≡ Some top.id
      my_role = (role_row me role my_place).2

      below_sound : (n : ℕ) → Reached (map edge_back up) start n → (q : RoleRow) → slice_get roles n ≡ Some q → Below s.parent q.id top.id
      below_sound n (Reached.begins h) q at = by (marked_from role up (replicate (length roles) false) n h)
        where
          by : (is_on (replicate (length roles) false) n ≡ true) ⊎ Has up (record { from = n; to = role }) → Below s.parent q.id top.id
          by (inl was) = absurd (not_both (is_on (replicate (length roles) false) n) was (none_on (length roles) n))
          by (inr has) =
              let u = edge_from roles (record { from = n; to = role }) has in
              let p = up_parent people s of n role u in
              let mine : u.role ≡ q = same_row roles n u.role q u.at at in
              Below.one_step (ap (λ (x : RoleRow). s.parent x.id) (sym mine) ∙ p.2 ∙ ap (λ (x : RoleRow). Some x.id) (same_row roles role p.0 top p.1 top_at))
      below_sound n (Reached.goes e has r) q at =
          let m = map_has edge_back up e has in
          let u = edge_from roles m.0 m.1 in
          let p = up_parent people s of m.0.from m.0.to u in
          let start_is : e.from ≡ m.0.to = ap (λ (x : Edge). x.from) m.2 in
          let end_is : e.to ≡ m.0.from = ap (λ (x : Edge). x.to) m.2 in
          let before = below_sound e.from r p.0 (ap (slice_get roles) start_is ∙ p.1) in
          let mine : u.role ≡ q = same_row roles m.0.from u.role q u.at (ap (slice_get roles) (sym end_is) ∙ at) in
          Below.more_steps (ap (λ (x : RoleRow). s.parent x.id) (sym mine) ∙ p.2) before

      module _ (below : List Bool) (closes : Closes (map edge_back up) start below) where
        start_long : length start ≡ length roles
        start_long = marked_long role up (replicate (length roles) false) ∙ none_long (length roles)

        top_place : place_of_id role_row_id roles top.id ≡ Some role
        top_place = (found_at role_row_id roles role top of.order.roles top_at).place

        from_within : (m n : ℕ) → IsUp roles m n → m < length roles
        from_within m n u = within roles m u.role u.at

        below_there : (a b : List ℕ) → Below s.parent a b → b ≡ top.id → (n : ℕ) × (place_of_id role_row_id roles a ≡ Some n) × (is_on below n ≡ true)
        below_there a b (Below.one_step e) is =
            let step = parent_up people s of a b e in
            let same : step.high ≡ role = some_is step.high role (sym step.high_is ∙ ap (place_of_id role_row_id roles) is ∙ top_place) in
            let has : Has up (record { from = step.low; to = role }) = edge_up roles step.low role (subst (IsUp roles step.low) same step.up) in
            let near : step.low < length (replicate (length roles) false) = subst (λ (k : ℕ). step.low < k) (sym (none_long (length roles))) (from_within step.low step.high step.up) in
            (step.low, step.low_is, closes.works.keeps step.low (marked_there role up (replicate (length roles) false) step.low near has))
        below_there a b (Below.more_steps {c = c} e r) is =
            let next = below_there c b r is in
            let step = parent_up people s of a c e in
            let same : next.0 ≡ step.high = some_is next.0 step.high (sym next.1 ∙ step.high_is) in
            let has : Has (map edge_back up) (record { from = step.high; to = step.low }) = has_map edge_back up (record { from = step.low; to = step.high }) (edge_up roles step.low step.high step.up) in
            let near : step.low < length start = subst (λ (k : ℕ). step.low < k) (sym start_long) (from_within step.low step.high step.up) in
            (step.low, step.low_is, closes.closed (record { from = step.high; to = step.low }) has (subst (λ (k : ℕ). is_on below k ≡ true) same next.2) near)

        -- the user's role is one of those below exactly where the user is below
        has_role_below : (x : UserRow) → Has users x → (has_role_in roles below x ≡ true) → RoleBelow s.parent x.role me.role
        has_role_below x has h = by (role_place_of roles x) refl h
          where
            by : (o : Option ℕ) → role_place_of roles x ≡ o → in_case o false (is_on below) ≡ true → RoleBelow s.parent x.role me.role
            by None e k = absurd cc
            by (Some m) e k =
                let q = role_row x m e in
                let low : Below s.parent q.0.id top.id = below_sound m (closes.works.sound m k) q.0 q.1 in
                subst (λ (o : Option (List ℕ)). RoleBelow s.parent o me.role) (sym q.2)
                (subst (λ (o : Option (List ℕ)). RoleBelow s.parent (Some q.0.id) o) (sym my_role) low)

        below_has_role : (x : UserRow) → RoleBelow s.parent x.role me.role → has_role_in roles below x ≡ true
        below_has_role x h = by x.role refl (subst (λ (o : Option (List ℕ)). RoleBelow s.parent x.role o) my_role h)
          where
            by : (o : Option (List ℕ)) → x.role ≡ o → RoleBelow s.parent o (Some top.id) → has_role_in roles below x ≡ true
            by None e k = absurd k
            by (Some a) e k =
                let there = below_there a top.id k refl in
                let place : role_place_of roles x ≡ Some there.0 = ap (option_and_then (place_of_id role_row_id roles)) e ∙ there.1 in
                ap (λ (o : Option ℕ). in_case o false (is_on below)) place ∙ there.2

        module _ (c alone : Chosen) (is_alone : IsAlone people i alone) (users_is : c.users.items ≡ users_with roles below 0 users alone.users.items) (roles_is : c.roles.items ≡ roles_with roles below users alone.roles.items) where
          a : Chooses people (λ x. x.id ≡ i) alone
          a = chooses_alone alone is_alone

          pub chooses_below : Chooses people IsMine c
          chooses_below = record {
            long = ap length roles_is ∙ roles_long roles below users alone.roles.items ∙ a.long;
            users_are = λ n x at. (λ h. there n x at (users_from roles below users 0 alone.users.items n (ap (λ (l : List Bool). is_on l n) (sym users_is) ∙ h)), λ p. ap (λ (l : List Bool). is_on l n) users_is ∙ back n x at p);
            roles_from = λ m h. role_from m (roles_from roles below users alone.roles.items m (ap (λ (l : List Bool). is_on l m) (sym roles_is) ∙ h));
            roles_there = λ x m has p place. ap (λ (l : List Bool). is_on l m) roles_is ∙ role_back x m has p place;
          }
            where
              there : (n : ℕ) (x : UserRow) → slice_get users n ≡ Some x
                  → (is_on alone.users.items n ≡ true) ⊎ ((j : ℕ) × (y : UserRow) × (slice_get users j ≡ Some y) × (has_role_in roles below y ≡ true) × (n ≡ 0 + j)) → IsMine x
              there n x at (inl was) = inl ((a.users_are n x at).0 was)
              there n x at (inr (j, y, at_y, role_in, is)) =
                  let same : n ≡ j = omega (arith, is) in
                  let one : y ≡ x = same_row users n y x (ap (slice_get users) same ∙ at_y) at in
                  inr (subst (λ (z : UserRow). RoleBelow s.parent z.role me.role) one (has_role_below y (at_has users j y at_y) role_in))

              users_near : (n : ℕ) (x : UserRow) → slice_get users n ≡ Some x → n < length alone.users.items
              users_near n x at = subst (λ (k : ℕ). n < k) (sym (ap length is_alone.0 ∙ none (length users) (place_of_id user_row_id users i))) (within users n x at)

              role_in_place : (x : UserRow) → has_role_in roles below x ≡ true → (m : ℕ) × (role_place_of roles x ≡ Some m)
              role_in_place x h = by (role_place_of roles x) refl h
                where
                  by : (o : Option ℕ) → role_place_of roles x ≡ o → in_case o false (is_on below) ≡ true → (m : ℕ) × (role_place_of roles x ≡ Some m)
                  by None e k = absurd cc
                  by (Some m) e k = (m, e)

              back : (n : ℕ) (x : UserRow) → slice_get users n ≡ Some x → IsMine x → is_on (users_with roles below 0 users alone.users.items) n ≡ true
              back n x at (inl e) = users_keep roles below users 0 alone.users.items n ((a.users_are n x at).1 e)
              back n x at (inr h) =
                  let in_it = below_has_role x h in
                  let place = role_in_place x in_it in
                  users_there roles below users 0 alone.users.items n n x place.0 at in_it place.1 (omega arith) (users_near n x at)

              role_from : (m : ℕ) → (is_on alone.roles.items m ≡ true) ⊎ ((j : ℕ) × (x : UserRow) × (slice_get users j ≡ Some x) × (has_role_in roles below x ≡ true) × (role_place_of roles x ≡ Some m))
                  → (x : UserRow) × Has users x × IsMine x × (role_place_of roles x ≡ Some m)
              role_from m (inl was) = let f = a.roles_from m was in (f.0, f.1, inl f.2, f.3)
              role_from m (inr (j, x, at, role_in, place)) = let has = at_has users j x at in (x, has, inr (has_role_below x has role_in), place)

              role_back : (x : UserRow) (m : ℕ) → Has users x → IsMine x → role_place_of roles x ≡ Some m → is_on (roles_with roles below users alone.roles.items) m ≡ true
              role_back x m has (inl e) place = roles_keep roles below users alone.roles.items m (a.roles_there x m has e place)
              role_back x m has (inr h) place =
                  let at = has_place users x has in
                  roles_there roles below users alone.roles.items m at.0 x at.1 (below_has_role x h) place (subst (λ (k : ℕ). m < k) (sym a.long) (role_within x m place))

    -- the user and those below, either way
    pub chooses_all : (c : Chosen) → IsUserAndBelow people (edges_up roles 0 roles) i c → Chooses people IsMine c
    chooses_all c h = by (role_place_by_id people i) refl h
      where
        by : (o : Option ℕ) → role_place_by_id people i ≡ o → MatchOption o (IsAlone people i c) (IsWithBelow people (edges_up roles 0 roles) i c) → Chooses people IsMine c
        by None e alone = chooses_none c e alone
        by (Some role) e (alone, is_alone, adds) = chooses_below role e adds.below adds.is_below c alone is_alone adds.users adds.roles
