-- Roles below one another, members and whom a principal reaches: what is computed is the least relation.
use Rattle.std.proofs.Common.{◌≡◌, ℕ, zero, suc, Bool, true, false, ◌||◌, ◌&&◌, cond, List, [], ◌∷◌, length, map, Option, Some, None, refl, ap, sym, subst, ◌∙◌, inl, inr, IsTrue}
use Rattle.std.specs.Prelude.{◌↔◌}
use Rattle.std.specs.List.{list_any}
use Rattle.std.specs.Option.{option_map, option_and_then}
use Rattle.std.specs.Ordering.{eq_by_cmp}
use Rattle.std.specs.Str.{bytes_eq}
use Rattle.std.proofs.lemmas.List.{length-map}
use Rattle.base_lemmas.proofs.Texts.{bytes_eq-self as id_itself, same_from_bytes_eq as id_same}
use Rattle.base_lemmas.proofs.Bools.{or-false as or_false}
use Rattle.base_lemmas.proofs.Lists.{list_any-same as any_same}
use Rattle.std.proofs.lemmas.Bool.{or_left, or_right, or_cases}
use Rattle.base_value.specs.Principals.{principal_cmp}
use Rattle.base_value.specs.declared.sharing.Principal.{Principal}
use Rattle.base_value.specs.declared.sharing.Principal.TheVariants as to
use Rattle.model.specs.Known.{role_id, group_id}
use Rattle.model.specs.Tenant.{Tenant, User, Role, Group}
use Rattle.model.specs.World.{having_id}
use Rattle.model.specs.Cases.{in_case}
use Rattle.model.specs.Membership.{Has, Structure, structure_of, Below, RoleBelow, Member, IsMember, IsAbove, Reaches, is_below_within, is_member_within, is_below, is_member, is_above, reaches}
use Rattle.model.proofs.Least as least
use Rattle.model.proofs.Least.{any_among, among_any}

-- ---- ids

pub found_is : {X : Type 0} (id : X → List ℕ) (xs : List X) (i : List ℕ) (x : X) → having_id id xs i ≡ Some x → Has xs x × (id x ≡ i)
found_is id [] i x e = absurd cc
found_is {X} id (y ∷ xs) i x e = by (λ f. found_is id xs i x f) (bytes_eq i (id y)) refl
  where
    by : (having_id id xs i ≡ Some x → Has xs x × (id x ≡ i)) → (b : Bool) → bytes_eq i (id y) ≡ b → Has (y ∷ xs) x × (id x ≡ i)
    by rest true same =
        let is : ◌≡◌ {A = Option X} (Some y) (Some x) = sym (ap (λ b. cond b (Some y) (having_id id xs i)) same) ∙ e in
        let one : x ≡ y = cc in
        (inl one, ap id one ∙ sym (id_same i (id y) same))
    by rest false other = let r = rest (sym (ap (λ b. cond b (Some y) (having_id id xs i)) other) ∙ e) in (inr r.0, r.1)

has_map : {X Y : Type 0} (f : X → Y) (xs : List X) (x : X) → Has xs x → Has (map f xs) (f x)
has_map f [] x h = absurd h
has_map f (y ∷ xs) x (inl e) = inl (ap f e)
has_map f (y ∷ xs) x (inr h) = inr (has_map f xs x h)

-- ---- roles

-- a parent as a list
abbrev listed : {A : Type 0} → Option A → List A
listed None = []
listed (Some a) = a ∷ []

module _ (parent : List ℕ → Option (List ℕ)) (b : List ℕ) where
  abbrev direct_below : List ℕ → Bool
  direct_below a = in_case (parent a) false (λ c. bytes_eq c b)

  abbrev next_below : List ℕ → List (List ℕ)
  next_below a = listed (parent a)

  abbrev LeadsBelow : List ℕ → Type 0
  LeadsBelow a = least.Leads (List ℕ) direct_below next_below a

  abbrev below_search : ℕ → List ℕ → Bool
  below_search = least.within (List ℕ) direct_below next_below

  below_as_search : (n : ℕ) (a : List ℕ) → is_below_within (suc n) parent a b ≡ below_search n a
  below_as_search zero a = at (parent a)
    where
      at : (o : Option (List ℕ)) → in_case o false (λ c. bytes_eq c b || false) ≡ in_case o false (λ c. bytes_eq c b)
      at None = refl
      at (Some c) = or_false (bytes_eq c b)
  below_as_search (suc n) a = at (λ c. below_as_search n c) (parent a)
    where
      at : ((c : List ℕ) → is_below_within (suc n) parent c b ≡ below_search n c) → (o : Option (List ℕ))
          → in_case o false (λ c. bytes_eq c b || is_below_within (suc n) parent c b)
          ≡ (in_case o false (λ c. bytes_eq c b) || list_any (below_search n) (listed o))
      at rest None = refl
      at rest (Some c) = ap (λ x. bytes_eq c b || x) (rest c ∙ sym (or_false (below_search n c)))

  to_below : (a : List ℕ) → LeadsBelow a → Below parent a b
  to_below a (least.at_once e) = at (parent a) refl e
    where
      at : (o : Option (List ℕ)) → parent a ≡ o → in_case o false (λ c. bytes_eq c b) ≡ true → Below parent a b
      at None is h = absurd cc
      at (Some c) is h = Below.one_step (is ∙ ap Some (id_same c b h))
  to_below a (least.onward {q = q} h r) = at (parent a) refl h (to_below q r)
    where
      at : (o : Option (List ℕ)) → parent a ≡ o → Has (listed o) q → Below parent q b → Below parent a b
      at None is h r = absurd h
      at (Some c) is (inl e) r = Below.more_steps (is ∙ ap Some (sym e)) r
      at (Some c) is (inr h) r = absurd h

  from_below : (a : List ℕ) → Below parent a b → LeadsBelow a
  from_below a (Below.one_step e) =
      least.at_once (subst (λ (o : Option (List ℕ)). in_case o false (λ c. bytes_eq c b) ≡ true) (sym e) (id_itself b))
  from_below a (Below.more_steps {c = c} e h) =
      least.onward (subst (λ (o : Option (List ℕ)). Has (listed o) c) (sym e) (inl refl)) (from_below c h)

  -- every role that has a parent is in the list
  pub below_decides : (all : List (List ℕ)) → ((a c : List ℕ) → parent a ≡ Some c → Has all a) → (a : List ℕ)
      → IsTrue (is_below_within (suc (length all)) parent a b) ↔ Below parent a b
  below_decides all bound a = (
    λ e. to_below a (least.within_sound (List ℕ) direct_below next_below (length all) a (sym (below_as_search (length all) a) ∙ e)),
    λ h. below_as_search (length all) a
        ∙ least.within_complete (List ℕ) direct_below next_below bytes_eq id_same id_itself all from a (from_below a h),
  )
    where
      from : (p q : List ℕ) → Has (next_below p) q → Has all p
      from p q h = at (parent p) refl h
        where
          at : (o : Option (List ℕ)) → parent p ≡ o → Has (listed o) q → Has all p
          at None is h = absurd h
          at (Some c) is h = bound p c is

-- ---- members

-- what `principal_laws` says of the test of principals
abbrev pub SamePrincipals : Type 0
SamePrincipals = (p q : Principal) → IsTrue (eq_by_cmp principal_cmp p q) ↔ (p ≡ q)

-- a group's members, or none
abbrev or_none : Option (List Principal) → List Principal
or_none o = in_case o [] (λ ms. ms)

-- the role is this one
abbrev is_this : List ℕ → Option (List ℕ) → Bool
is_this r o = in_case o false (λ q. bytes_eq q r)

module _ (n : ℕ) (s : Structure) (who : List ℕ) (role : Option (List ℕ)) where
  -- .. or below it
  abbrev at_or_below : List ℕ → Option (List ℕ) → Bool
  at_or_below r o = in_case o false (λ q. bytes_eq q r || is_below_within n s.parent q r)

  abbrev direct_member : Principal → Bool
  direct_member (to.User i) = bytes_eq i who
  direct_member (to.Role r) = is_this r role
  direct_member (to.Subordinates r) = at_or_below r role
  direct_member (to.Group i) = false

  abbrev next_member : Principal → List Principal
  next_member (to.Group i) = or_none (s.members i)
  next_member (to.User i) = []
  next_member (to.Role i) = []
  next_member (to.Subordinates i) = []

  abbrev LeadsMember : Principal → Type 0
  LeadsMember p = least.Leads Principal direct_member next_member p

  abbrev member_search : ℕ → Principal → Bool
  member_search = least.within Principal direct_member next_member

  member_as_search : (m : ℕ) (p : Principal) → is_member_within n m s who role p ≡ member_search m p
  member_as_search zero (to.User i) = refl
  member_as_search zero (to.Role i) = refl
  member_as_search zero (to.Subordinates i) = refl
  member_as_search zero (to.Group i) = refl
  member_as_search (suc m) (to.User i) = sym (or_false (bytes_eq i who))
  member_as_search (suc m) (to.Role i) = sym (or_false (is_this i role))
  member_as_search (suc m) (to.Subordinates i) = sym (or_false (at_or_below i role))
  member_as_search (suc m) (to.Group i) = at (member_as_search m) (s.members i)
    where
      at : ((p : Principal) → is_member_within n m s who role p ≡ member_search m p) → (o : Option (List Principal))
          → in_case o false (list_any (is_member_within n m s who role)) ≡ list_any (member_search m) (or_none o)
      at rest None = refl
      at rest (Some ms) = any_same (is_member_within n m s who role) (member_search m) rest ms

  module _ (decides : (a b : List ℕ) → IsTrue (is_below_within n s.parent a b) ↔ Below s.parent a b) where
    to_member : (p : Principal) → LeadsMember p → Member s who role p
    to_member (to.User i) (least.at_once e) = subst (λ (x : List ℕ). Member s who role (to.User x)) (sym (id_same i who e)) Member.itself
    to_member (to.Role r) (least.at_once e) = at role refl e
      where
        at : (o : Option (List ℕ)) → role ≡ o → is_this r o ≡ true → Member s who role (to.Role r)
        at None is h = absurd cc
        at (Some q) is h = Member.in_role (is ∙ ap Some (id_same q r h))
    to_member (to.Subordinates r) (least.at_once e) = at role refl e
      where
        at : (o : Option (List ℕ)) → role ≡ o → at_or_below r o ≡ true → Member s who role (to.Subordinates r)
        at None is h = absurd cc
        at (Some q) is h = elim (or_cases (bytes_eq q r) (is_below_within n s.parent q r) h) [
          | inl same ↦ Member.at_role (is ∙ ap Some (id_same q r same))
          | inr under ↦ Member.below_role is ((decides q r).0 under)
        ]
    to_member (to.Group i) (least.at_once e) = absurd cc
    to_member (to.User i) (least.onward h r) = absurd h
    to_member (to.Role i) (least.onward h r) = absurd h
    to_member (to.Subordinates i) (least.onward h r) = absurd h
    to_member (to.Group i) (least.onward {q = q} h r) = at (s.members i) refl h (to_member q r)
      where
        at : (o : Option (List Principal)) → s.members i ≡ o → Has (or_none o) q → Member s who role q → Member s who role (to.Group i)
        at None is h r = absurd h
        at (Some ms) is h r = Member.in_group is h r

    from_member : (p : Principal) → Member s who role p → LeadsMember p
    from_member p Member.itself = least.at_once (id_itself who)
    from_member p (Member.in_role {r = r} e) = least.at_once (subst (λ (o : Option (List ℕ)). is_this r o ≡ true) (sym e) (id_itself r))
    from_member p (Member.at_role {r = r} e) =
        least.at_once (subst (λ (o : Option (List ℕ)). at_or_below r o ≡ true) (sym e)
        (or_left (bytes_eq r r) (is_below_within n s.parent r r) (id_itself r)))
    from_member p (Member.below_role {q = q} {r = r} e h) =
        least.at_once (subst (λ (o : Option (List ℕ)). at_or_below r o ≡ true) (sym e)
        (or_right (bytes_eq q r) (is_below_within n s.parent q r) ((decides q r).1 h)))
    from_member p (Member.in_group {i = i} {ms = ms} {p = q} e h m) =
        least.onward (subst (λ (o : Option (List Principal)). Has (or_none o) q) (sym e) h) (from_member q m)

    -- every group that has members is in the list
    pub member_decides : SamePrincipals → (all : List (List ℕ)) → ((i : List ℕ) (ms : List Principal) → s.members i ≡ Some ms → Has all i) → (p : Principal)
        → IsTrue (is_member_within n (length all) s who role p) ↔ Member s who role p
    member_decides same all bound p =
        let enough : length (map to.Group all) ≡ length all = length-map all to.Group in (
          λ e. to_member p
              (least.within_sound Principal direct_member next_member (length all) p (sym (member_as_search (length all) p) ∙ e)),
          λ h. member_as_search (length all) p ∙ subst (λ (k : ℕ). member_search k p ≡ true) enough
              (least.within_complete Principal direct_member next_member (eq_by_cmp principal_cmp) (λ p q. (same p q).0) (λ p. (same p p).1 refl)
              (map to.Group all) from p (from_member p h)),
        )
      where
        from : (p q : Principal) → Has (next_member p) q → Has (map to.Group all) p
        from (to.User i) q h = absurd h
        from (to.Role i) q h = absurd h
        from (to.Subordinates i) q h = absurd h
        from (to.Group i) q h = at (s.members i) refl h
          where
            at : (o : Option (List Principal)) → s.members i ≡ o → Has (or_none o) q → Has (map to.Group all) (to.Group i)
            at None is h = absurd h
            at (Some ms) is h = has_map to.Group all i (bound i ms is)

-- ---- of a tenant

some_parent : (t : Tenant) (a c : List ℕ) → (structure_of t).parent a ≡ Some c → Has (map role_id t.roles) a
some_parent t a c e = at (having_id role_id t.roles a) refl e
  where
    at : (o : Option Role) → having_id role_id t.roles a ≡ o → option_and_then (λ r. r.parent) o ≡ Some c → Has (map role_id t.roles) a
    at None is h = absurd cc
    at (Some r) is h = let f = found_is role_id t.roles a r is in subst (Has (map role_id t.roles)) f.1 (has_map role_id t.roles r f.0)

some_members : (t : Tenant) (i : List ℕ) (ms : List Principal) → (structure_of t).members i ≡ Some ms → Has (map group_id t.groups) i
some_members t i ms e = at (having_id group_id t.groups i) refl e
  where
    at : (o : Option Group) → having_id group_id t.groups i ≡ o → option_map (λ g. g.members) o ≡ Some ms → Has (map group_id t.groups) i
    at None is h = absurd cc
    at (Some g) is h =
        let f = found_is group_id t.groups i g is in
        subst (Has (map group_id t.groups)) f.1 (has_map group_id t.groups g f.0)

pub below_agrees : (t : Tenant) (a b : List ℕ) → IsTrue (is_below t a b) ↔ Below (structure_of t).parent a b
unfolding is_below
below_agrees t a b =
    subst (λ (k : ℕ). IsTrue (is_below_within (suc k) (structure_of t).parent a b) ↔ Below (structure_of t).parent a b)
    (length-map t.roles role_id)
    (below_decides (structure_of t).parent b (map role_id t.roles) (some_parent t) a)

pub member_agrees : SamePrincipals → (t : Tenant) (u : User) (p : Principal) → IsTrue (is_member t u p) ↔ IsMember t u p
unfolding is_member is_below
member_agrees same t u p =
    subst (λ (k : ℕ). IsTrue (is_member_within (suc (length t.roles)) k (structure_of t) u.id u.role p) ↔ IsMember t u p)
    (length-map t.groups group_id)
    (member_decides (suc (length t.roles)) (structure_of t) u.id u.role (below_agrees t) same (map group_id t.groups) (some_members t) p)

pub above_agrees : (t : Tenant) (u x : User) → IsTrue (is_above t u x) ↔ IsAbove t u x
above_agrees t u x = at x.role u.role
  where
    at : (a b : Option (List ℕ))
        → IsTrue (in_case a false (λ a. in_case b false (λ b. is_below t a b))) ↔ RoleBelow (structure_of t).parent a b
    at None b = (λ e. absurd cc, λ h. absurd h)
    at (Some a) None = (λ e. absurd cc, λ h. absurd h)
    at (Some a) (Some b) = below_agrees t a b

pub reaches_agrees : SamePrincipals → (t : Tenant) (p : Principal) (u : User) → IsTrue (reaches t p u) ↔ Reaches t p u
unfolding reaches
reaches_agrees same t p u = (to_it, from_it)
  where
    to_it : IsTrue (reaches t p u) → Reaches t p u
    to_it e = elim (or_cases (is_member t u p) (list_any (λ x. is_above t u x && is_member t x p) t.users) e) [
      | inl h ↦ inl ((member_agrees same t u p).0 h)
      | inr h ↦ let r = among_any (λ x. is_above t u x && is_member t x p) t.users h in
          let b = both (is_above t u r.0) (is_member t r.0 p) r.2 in
          inr (r.0, r.1, (above_agrees t u r.0).0 b.0, (member_agrees same t r.0 p).0 b.1)
    ]
      where
        both : (a b : Bool) → (a && b) ≡ true → (a ≡ true) × (b ≡ true)
        both true b h = (refl, h)
        both false b h = absurd cc

    from_it : Reaches t p u → IsTrue (reaches t p u)
    from_it (inl h) = or_left (is_member t u p) (list_any (λ x. is_above t u x && is_member t x p) t.users) ((member_agrees same t u p).1 h)
    from_it (inr (x, has, above, member)) =
        or_right (is_member t u p) (list_any (λ x. is_above t u x && is_member t x p) t.users)
        (any_among (λ x. is_above t u x && is_member t x p) x t.users has
        (joined (is_above t u x) (is_member t x p) ((above_agrees t u x).1 above) ((member_agrees same t x p).1 member)))
      where
        joined : (a b : Bool) → a ≡ true → b ≡ true → (a && b) ≡ true
        joined true b p q = q
        joined false b p q = absurd cc
