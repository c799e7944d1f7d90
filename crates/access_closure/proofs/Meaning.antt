-- What is held by places is what some users are members of, over any structure that has the parents and members of the rows.
use Rattle.std.proofs.Common.{◌≡◌, ◌∙◌, ℕ, ◌<◌, Bool, true, false, List, length, refl, sym, ap, subst, Option, Some, None}
use Rattle.std.specs.Prelude.{◌↔◌, slice_get}
use Rattle.std.specs.List.{list_any}
use Rattle.std.specs.Option.{option_and_then, option_map}
use Rattle.base_lemmas.proofs.Lists.{length-map_by as map_long}
use Rattle.std.proofs.lemmas.Option.{slice_get_within as within, same_Some as some_is}
use Rattle.store_rows.specs.declared.group.GroupRow.{GroupRow}
use Rattle.store_rows.specs.declared.role.RoleRow.{RoleRow}
use Rattle.store_rows.specs.declared.user.UserRow.{UserRow}
use Rattle.model.specs.Cases.{in_case}
use Rattle.model.specs.Membership.{Below, Has, Member, Structure}
use Rattle.model.specs.World.{having_id}
use Rattle.base_value.specs.declared.sharing.Principal.{Principal}
use Rattle.base_value.specs.declared.sharing.Principal.TheVariants as to
use Rattle.access_closure.specs.declared.chosen.Chosen.{Chosen}
use Rattle.access_closure.specs.declared.people.People.{People}
use Rattle.access_closure.specs.declared.ring.Ring.{Ring}
use Rattle.access_closure.specs.Held.{is_held, is_held_directly}
use Rattle.access_closure.specs.Places.{group_row_id, is_on, place_of_id, role_row_id, user_row_id}
use Rattle.access_closure.specs.inner.Chosen.{edges_up}
use Rattle.access_closure.specs.inner.Order.{AreInOrder, role_place_of}
use Rattle.access_closure.specs.inner.Reached.{Reached}
use Rattle.access_closure.specs.inner.Rings.{IsRing, group_edges, groups_held}
use Rattle.access_closure.proofs.Edges.{IsNested, IsUp, any_has, edge_nested, edge_up, has_any, has_place, map_on, nested_edge, on_map, edge_from}
use Rattle.access_closure.proofs.Found.{IsFound, found_at, found_having, found_place}
use Rattle.access_closure.proofs.Spreading.{at_has}

-- the structure has the parents and members of the rows, and the roles that rows name are there
pub record IsOfRows (people : People) (s : Structure) : Type 0 where
  pub order : AreInOrder people
  pub parent : (i : List ℕ) → s.parent i ≡ option_and_then (λ r. r.parent) (having_id role_row_id people.roles.items i)
  pub members : (i : List ℕ) → s.members i ≡ option_map (λ g. g.members) (having_id group_row_id people.groups.items i)
  pub user_role : (x : UserRow) (r : List ℕ) → Has people.users.items x → x.role ≡ Some r → (q : RoleRow) × (having_id role_row_id people.roles.items r ≡ Some q)
  pub above : (q : RoleRow) (p : List ℕ) → Has people.roles.items q → q.parent ≡ Some p → (r : RoleRow) × (having_id role_row_id people.roles.items p ≡ Some r)

-- the second of two roles is above the first, and both are there
pub record IsStep (people : People) (a b : List ℕ) : Type 0 where
  pub low : ℕ
  pub high : ℕ
  pub low_is : place_of_id role_row_id people.roles.items a ≡ Some low
  pub high_is : place_of_id role_row_id people.roles.items b ≡ Some high
  pub up : IsUp people.roles.items low high

-- these flags are those of the users of whom this holds, and of their roles
pub record Chooses (people : People) (P : UserRow → Type 0) (c : Chosen) : Type 0 where
  pub long : length c.roles.items ≡ length people.roles.items
  pub users_are : (n : ℕ) (x : UserRow) → slice_get people.users.items n ≡ Some x → (is_on c.users.items n ≡ true) ↔ P x
  pub roles_from : (m : ℕ) → is_on c.roles.items m ≡ true → (x : UserRow) × Has people.users.items x × P x × (role_place_of people.roles.items x ≡ Some m)
  pub roles_there : (x : UserRow) (m : ℕ) → Has people.users.items x → P x → role_place_of people.roles.items x ≡ Some m → is_on c.roles.items m ≡ true

-- one of these users is a member of the principal
abbrev pub OneIsMember : People → Structure → (UserRow → Type 0) → Principal → Type 0
OneIsMember people s P p = (x : UserRow) × Has people.users.items x × P x × Member s x.id x.role p

module _ (people : People) (s : Structure) (of : IsOfRows people s) where
  abbrev users : List UserRow
  users = people.users.items

  abbrev roles : List RoleRow
  roles = people.roles.items

  abbrev groups : List GroupRow
  groups = people.groups.items

  -- ---- parents

  -- the role at a place, and what is above it
  pub up_parent : (m n : ℕ) (u : IsUp roles m n) → (q : RoleRow) × (slice_get roles n ≡ Some q) × (s.parent u.role.id ≡ Some q.id)
  up_parent m n u = by u.role.parent refl u.up
    where
      by : (o : Option (List ℕ)) → u.role.parent ≡ o → option_and_then (place_of_id role_row_id roles) o ≡ Some n → (q : RoleRow) × (slice_get roles n ≡ Some q) × (s.parent u.role.id ≡ Some q.id)
      by None is e = absurd cc
      by (Some p) is e =
          let f = found_place role_row_id roles p n e in
          let found = found_at role_row_id roles m u.role of.order.roles u.at in
          (f.0, f.1.at, of.parent u.role.id ∙ ap (option_and_then (λ (r : RoleRow). r.parent)) found.having ∙ is ∙ ap Some (sym f.1.id_is))

  -- the same by ids
  pub parent_up : (a b : List ℕ) → s.parent a ≡ Some b → IsStep people a b
  parent_up a b e = at (having_id role_row_id roles a) refl (sym (of.parent a) ∙ e)
    where
      at : (o : Option RoleRow) → having_id role_row_id roles a ≡ o → option_and_then (λ (r : RoleRow). r.parent) o ≡ Some b → IsStep people a b
      at None is k = absurd cc
      at (Some r) is k =
          let f = found_having role_row_id roles a r is in
          let above = of.above r b (at_has roles f.0 r f.1.at) k in
          let g = found_having role_row_id roles b above.0 above.1 in
          record {
            low = f.0;
            high = g.0;
            low_is = f.1.place;
            high_is = g.1.place;
            up = record { role = r; at = f.1.at; up = ap (option_and_then (place_of_id role_row_id roles)) k ∙ g.1.place };
          }

  one_more : (a b c : List ℕ) → Below s.parent a b → s.parent b ≡ Some c → Below s.parent a c
  one_more a b c (Below.one_step e) f = Below.more_steps e (Below.one_step f)
  one_more a b c (Below.more_steps {c = d} e r) f = Below.more_steps e (one_more d b c r f)

  -- ---- some users

  module _ (P : UserRow → Type 0) (c : Chosen) where
    module _ (ring : Ring) (chooses : Chooses people P c) (is : IsRing people c (edges_up roles 0 roles) ring) where
      -- ---- nothing else is held

      climbed : (who : List ℕ) (role : Option (List ℕ)) (p : Principal) (a b : List ℕ) → Member s who role p → p ≡ to.Subordinates a → s.parent a ≡ Some b → Member s who role (to.Subordinates b)
      climbed who role p a b Member.itself e f = absurd cc
      climbed who role p a b (Member.in_role k) e f = absurd cc
      climbed who role p a b (Member.at_role {r = r} k) e f = let same : a ≡ r = cc in Member.below_role k (Below.one_step (ap s.parent (sym same) ∙ f))
      climbed who role p a b (Member.below_role {q = q} {r = r} k r_below) e f = let same : a ≡ r = cc in Member.below_role k (one_more q r b r_below (ap s.parent (sym same) ∙ f))
      climbed who role p a b (Member.in_group k h m) e f = absurd cc

      above_too : (a b : List ℕ) → OneIsMember people s P (to.Subordinates a) → s.parent a ≡ Some b → OneIsMember people s P (to.Subordinates b)
      above_too a b (x, has, holds_of, m) f = (x, has, holds_of, climbed x.id x.role (to.Subordinates a) a b m refl f)

      same_row : {X : Type 0} (xs : List X) (n : ℕ) (x y : X) → slice_get xs n ≡ Some x → slice_get xs n ≡ Some y → x ≡ y
      same_row xs n x y e f = some_is x y (sym e ∙ f)

      -- the role at the place of a user's role is the user's
      own_role : (x : UserRow) (m : ℕ) (q : RoleRow) → role_place_of roles x ≡ Some m → slice_get roles m ≡ Some q → x.role ≡ Some q.id
      own_role x m q e at = by x.role refl e
        where
          by : (o : Option (List ℕ)) → x.role ≡ o → option_and_then (place_of_id role_row_id roles) o ≡ Some m → x.role ≡ Some q.id
          by None e k = absurd cc
          by (Some r) e k = let f = found_place role_row_id roles r m k in e ∙ ap Some (sym f.1.id_is ∙ ap role_row_id (same_row roles m f.0 q f.1.at at))

      subordinates_sound : (n : ℕ) → Reached (edges_up roles 0 roles) c.roles.items n → (q : RoleRow) → slice_get roles n ≡ Some q → OneIsMember people s P (to.Subordinates q.id)
      subordinates_sound n (Reached.begins h) q at =
          let x = chooses.roles_from n h in
          (x.0, x.1, x.2, Member.at_role (own_role x.0 n q x.3 at))
      subordinates_sound n (Reached.goes e has r) q at =
          let u = edge_from roles e has in
          let above = up_parent e.from e.to u in
          let before = subordinates_sound e.from r u.role u.at in
          above_too u.role.id q.id before (above.2 ∙ ap (λ (x : RoleRow). Some x.id) (same_row roles e.to above.0 q above.1 at))

      at_place : (o : Option ℕ) (flags : List Bool) → in_case o false (is_on flags) ≡ true → (n : ℕ) × (o ≡ Some n) × (is_on flags n ≡ true)
      at_place None flags e = absurd cc
      at_place (Some n) flags e = (n, refl, e)

      direct_sound : (p : Principal) → is_held_directly people ring p ≡ true → OneIsMember people s P p
      direct_sound (to.User i) e =
          let at = at_place (place_of_id user_row_id users i) ring.users.items e in
          let f = found_place user_row_id users i at.0 at.1 in
          (f.0, at_has users at.0 f.0 f.1.at, (chooses.users_are at.0 f.0 f.1.at).0 (ap (λ (l : List Bool). is_on l at.0) (sym is.users) ∙ at.2), subst (λ (j : List ℕ). Member s f.0.id f.0.role (to.User j)) f.1.id_is Member.itself)
      direct_sound (to.Role i) e =
          let at = at_place (place_of_id role_row_id roles i) ring.roles.items e in
          let f = found_place role_row_id roles i at.0 at.1 in
          let x = chooses.roles_from at.0 (ap (λ (l : List Bool). is_on l at.0) (sym is.roles) ∙ at.2) in
          (x.0, x.1, x.2, Member.in_role (own_role x.0 at.0 f.0 x.3 f.1.at ∙ ap Some f.1.id_is))
      direct_sound (to.Subordinates i) e =
          let at = at_place (place_of_id role_row_id roles i) ring.subordinates.items e in
          let f = found_place role_row_id roles i at.0 at.1 in
          subst (λ (j : List ℕ). OneIsMember people s P (to.Subordinates j)) f.1.id_is (subordinates_sound at.0 (is.subordinates.works.sound at.0 at.2) f.0 f.1.at)
      direct_sound (to.Group i) e = absurd cc

      joined : (g : GroupRow) (n : ℕ) (p : Principal) → slice_get groups n ≡ Some g → Has g.members p → OneIsMember people s P p → OneIsMember people s P (to.Group g.id)
      joined g n p at has (x, has_x, holds_of, m) =
          let f = found_at group_row_id groups n g of.order.groups at in
          (x, has_x, holds_of, Member.in_group (of.members g.id ∙ ap (option_map (λ (y : GroupRow). y.members)) f.having) has m)

      groups_sound : (n : ℕ) → Reached (group_edges groups 0 groups) (groups_held people ring) n → (g : GroupRow) → slice_get groups n ≡ Some g → OneIsMember people s P (to.Group g.id)
      groups_sound n (Reached.begins h) g at =
          let on = map_on (λ (y : GroupRow). list_any (is_held_directly people ring) y.members) groups n h in
          let one = any_has (is_held_directly people ring) on.0.members on.2 in
          joined g n one.0 at (subst (λ (y : GroupRow). Has y.members one.0) (same_row groups n on.0 g on.1 at) one.1) (direct_sound one.0 one.2)
      groups_sound n (Reached.goes e has r) g at =
          let nested = nested_edge groups e has in
          let f = found_place group_row_id groups nested.member e.from nested.place in
          let before = groups_sound e.from r f.0 f.1.at in
          joined g e.to (to.Group nested.member) at
          (subst (λ (y : GroupRow). Has y.members (to.Group nested.member)) (same_row groups e.to nested.group g nested.at at) nested.among)
          (subst (λ (j : List ℕ). OneIsMember people s P (to.Group j)) f.1.id_is before)

      pub sound : (p : Principal) → is_held people ring p ≡ true → OneIsMember people s P p
      sound (to.User i) e = direct_sound (to.User i) e
      sound (to.Role i) e = direct_sound (to.Role i) e
      sound (to.Subordinates i) e = direct_sound (to.Subordinates i) e
      sound (to.Group i) e =
          let at = at_place (place_of_id group_row_id groups i) ring.groups.items e in
          let f = found_place group_row_id groups i at.0 at.1 in
          subst (λ (j : List ℕ). OneIsMember people s P (to.Group j)) f.1.id_is (groups_sound at.0 (is.groups.works.sound at.0 at.2) f.0 f.1.at)

      -- ---- nothing is left out

      on_at : (o : Option ℕ) (flags : List Bool) (n : ℕ) → o ≡ Some n → is_on flags n ≡ true → in_case o false (is_on flags) ≡ true
      on_at o flags n e h = ap (λ (p : Option ℕ). in_case p false (is_on flags)) e ∙ h

      -- where a role's subordinates are held, those of each role above it are
      climb_one : (a b : List ℕ) → s.parent a ≡ Some b → (m : ℕ) → place_of_id role_row_id roles a ≡ Some m → is_on ring.subordinates.items m ≡ true
          → (n : ℕ) × (place_of_id role_row_id roles b ≡ Some n) × (is_on ring.subordinates.items n ≡ true)
      climb_one a b e m at on =
          let step = parent_up a b e in
          let same : m ≡ step.low = some_is m step.low (sym at ∙ step.low_is) in
          let q = up_parent step.low step.high step.up in
          let near : step.high < length c.roles.items = subst (λ (k : ℕ). step.high < k) (sym chooses.long) (within roles step.high q.0 q.1) in (
            step.high,
            step.high_is,
            is.subordinates.closed (record { from = step.low; to = step.high }) (edge_up roles step.low step.high step.up)
                (subst (λ (k : ℕ). is_on ring.subordinates.items k ≡ true) same on) near,
          )

      climb : (a b : List ℕ) → Below s.parent a b → (m : ℕ) → place_of_id role_row_id roles a ≡ Some m → is_on ring.subordinates.items m ≡ true
          → (n : ℕ) × (place_of_id role_row_id roles b ≡ Some n) × (is_on ring.subordinates.items n ≡ true)
      climb a b (Below.one_step e) m at on = climb_one a b e m at on
      climb a b (Below.more_steps {c = d} e r) m at on = let next = climb_one a d e m at on in climb d b r next.0 next.1 next.2

      -- the place of a user's role
      role_there : (x : UserRow) (r : List ℕ) → Has users x → P x → x.role ≡ Some r → (m : ℕ) × (place_of_id role_row_id roles r ≡ Some m) × (is_on c.roles.items m ≡ true)
      role_there x r has holds_of e =
          let known = of.user_role x r has e in
          let f = found_having role_row_id roles r known.0 known.1 in
          (f.0, f.1.place, chooses.roles_there x f.0 has holds_of (ap (option_and_then (place_of_id role_row_id roles)) e ∙ f.1.place))

      -- a group one of whose members is held is held
      begun_there : (g : GroupRow) (i : List ℕ) (n : ℕ) → IsFound group_row_id groups i n g → (p : Principal) → Has g.members p → is_held_directly people ring p ≡ true → is_held people ring (to.Group i) ≡ true
      begun_there g i n f p has e =
          on_at (place_of_id group_row_id groups i) ring.groups.items n f.place
          (is.groups.works.keeps n (on_map (λ (y : GroupRow). list_any (is_held_directly people ring) y.members) groups n g f.at (has_any (is_held_directly people ring) g.members p has e)))

      group_there : (g : GroupRow) (i : List ℕ) (n : ℕ) → IsFound group_row_id groups i n g → (p : Principal) → Has g.members p → is_held people ring p ≡ true → is_held people ring (to.Group i) ≡ true
      group_there g i n f (to.User j) has e = begun_there g i n f (to.User j) has e
      group_there g i n f (to.Role j) has e = begun_there g i n f (to.Role j) has e
      group_there g i n f (to.Subordinates j) has e = begun_there g i n f (to.Subordinates j) has e
      group_there g i n f (to.Group j) has e =
          let at = at_place (place_of_id group_row_id groups j) ring.groups.items e in
          let nested : IsNested groups at.0 n = record { group = g; at = f.at; member = j; among = has; place = at.1 } in
          let near : n < length (groups_held people ring) = subst (λ (k : ℕ). n < k) (sym (map_long (λ (y : GroupRow). list_any (is_held_directly people ring) y.members) groups)) (within groups n g f.at) in
          on_at (place_of_id group_row_id groups i) ring.groups.items n f.place (is.groups.closed (record { from = at.0; to = n }) (edge_nested groups at.0 n nested) at.2 near)

      pub whole : (x : UserRow) → Has users x → P x → (p : Principal) → Member s x.id x.role p → is_held people ring p ≡ true
      whole x has holds_of p Member.itself =
          let place = has_place users x has in
          let f = found_at user_row_id users place.0 x of.order.users place.1 in
          on_at (place_of_id user_row_id users x.id) ring.users.items place.0 f.place (ap (λ (l : List Bool). is_on l place.0) is.users ∙ (chooses.users_are place.0 x place.1).1 holds_of)
      whole x has holds_of p (Member.in_role {r = r} e) =
          let there = role_there x r has holds_of e in
          on_at (place_of_id role_row_id roles r) ring.roles.items there.0 there.1 (ap (λ (l : List Bool). is_on l there.0) is.roles ∙ there.2)
      whole x has holds_of p (Member.at_role {r = r} e) =
          let there = role_there x r has holds_of e in
          on_at (place_of_id role_row_id roles r) ring.subordinates.items there.0 there.1 (is.subordinates.works.keeps there.0 there.2)
      whole x has holds_of p (Member.below_role {q = q} {r = r} e below) =
          let there = role_there x q has holds_of e in
          let up = climb q r below there.0 there.1 (is.subordinates.works.keeps there.0 there.2) in
          on_at (place_of_id role_row_id roles r) ring.subordinates.items up.0 up.1 up.2
      whole x has holds_of p (Member.in_group {i = i} {ms = ms} {p = m} e h member) =
          at (having_id group_row_id groups i) refl (sym (of.members i) ∙ e) (whole x has holds_of m member)
        where
          at : (o : Option GroupRow) → having_id group_row_id groups i ≡ o → option_map (λ (g : GroupRow). g.members) o ≡ Some ms → is_held people ring m ≡ true → is_held people ring (to.Group i) ≡ true
          at None k l held = absurd cc
          at (Some g) k l held =
              let f = found_having group_row_id groups i g k in
              group_there g i f.0 f.1 m (subst (λ (xs : List Principal). Has xs m) (sym (some_is g.members ms l)) h) held
