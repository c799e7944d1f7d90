-- What a request about people leaves is sound.
use Rattle.std.proofs.Common.{◌≡◌, ℕ, ◌+◌, ◌≤◌, Bool, true, false, not, ◌&&◌, ◌||◌, cond, List, [], ◌∷◌, ◌++◌, map, length, Option, Some, None, is_none, refl, ap, sym, subst, ◌∙◌, arith, ◌⊎◌, inl, inr, IsTrue, IfSome, bytes_eq, codes, nat_cmp, nat_lt, Less}
use Rattle.std.specs.Prelude.{◌↔◌}
use Rattle.std.specs.List.{AllByRecursion, list_all, list_any}
use Rattle.std.specs.Option.{option_map, option_and_then}
use Rattle.std.specs.Cmp.Lexicographic.{slice_cmp}
use Rattle.std.specs.Option.{unwrap_or}
use Rattle.std.proofs.lemmas.List.{length-map, length_push as length_last}
use Rattle.std.proofs.lemmas.Option.{IfSome_then}
use Rattle.base_lemmas.proofs.Lists.{each-push as all_last, each_weaker as all_more}
use Rattle.std.proofs.lemmas.Bool.{and_from as both, true≢false as clash, not-false as holds_not, or_cases, or_left, or_right}
use Rattle.base_lemmas.proofs.Bools.{by_answer as pick}
use Rattle.base_lemmas.proofs.Texts.{same_from_bytes_eq as same_exact, bytes_eq-self as same_itself}
use Rattle.sha2.specs.Sha256.{sha256}
use Rattle.base_value.specs.declared.sharing.Principal.{Principal}
use Rattle.base_value.specs.declared.sharing.Principal.TheVariants as to
use Rattle.model.specs.declared.refusal.Refusal.TheVariants as refusal
use Rattle.model.specs.Known.{Grows, Known, group_id, known, knows, names_any, role_id}
use Rattle.model.specs.declared.limit.Limit.{Limit}
use Rattle.model.specs.declared.limit.Limit.TheVariants as limit
use Rattle.model.specs.Limits.{limit_number}
use Rattle.model.specs.Cases.{in_case}
use Rattle.model.specs.Names.{bad_name}
use Rattle.model.specs.declared.people_bodies.GroupChange.{GroupChange}
use Rattle.model.specs.declared.people_bodies.NewUser.{NewUser}
use Rattle.model.specs.declared.people_bodies.RoleChange.{RoleChange}
use Rattle.model.specs.declared.people_bodies.UserChange.{UserChange}
use Rattle.model.specs.People.{add_group, add_role, add_user, bad_name_if_any, changed, changed_group, changed_role, changed_user, given, members_given, users_with, new_group_rules, new_role_rules, new_user_rules, group_rules, role_rules, user_rules, next_id, no_role, no_room, bad_parent, set_group, set_organisation, set_role, set_user, with_group, with_role, with_user}
use Rattle.model.specs.Membership.{Below, is_below, structure_of}
use Rattle.model.specs.declared.people_bodies.Spelled.{Spelled}
use Rattle.model.specs.Principals.{spelled_id, is_there, principal_of, not_there, role_at}
use Rattle.model.specs.Rules.{Rule, first_of, first_refusal, refuse_if}
use Rattle.model_invariant.proofs.SoundParts.{HasSoundParts}
use Rattle.model.specs.SoundPeople.{IsSoundUser, IsSoundRole, IsSoundGroup, administers, is_name, parent_in}
use Rattle.model.specs.Tenant.{Group, Role, Tenant, User}
use Rattle.model.specs.Verdict.{Verdict, accept, done, judged, made_new, unless}
use Rattle.model.specs.World.{user_id, user_prefix, role_prefix, group_prefix, having_id}
use Rattle.model_invariant.proofs.Parts.{all_at, all_map, list_all_more, has_last, has_same, last_has, none_refuses, unrefused}
use Rattle.model_invariant.proofs.Orders.{rise_last, rise_map}
use Rattle.model_invariant.proofs.Growing.{IdLaws, drawn_less, each_group_more, each_role_more, groups_more, job_more, knows_more, numbers_less, numbers_more, records_more, roles_more, rules_more, shares_more, some_of, unnamed_yet, users_more, within_limit}
use Rattle.model_invariant.proofs.Roles.{found_at, found_last, found_map, from_some, still_no_cycle}

-- ---- the form of each: a refusal leaves the tenant, and so does what no rule refuses leave a sound one
pub when_judged : (P : Tenant → Type 0) (t : Tenant) (rules : List Rule) (v : Verdict) → P t → (AllByRecursion (λ r. r ≡ None) rules → P v.tenant) → P (judged t rules v).tenant
when_judged P t rules v h f = by (first_refusal rules) refl
  where
    by : (r : Rule) → first_refusal rules ≡ r → P (unless r t v).tenant
    by None e = f (none_refuses rules e)
    by (Some x) e = h

room_for : (t : Tenant) (what : Limit) (n : ℕ) → no_room t what n ≡ None → (n + 1 ≤ limit_number what) × (t.counter + 1 ≤ 999999999999999)
room_for t what n e =
    let l = none_refuses (refuse_if (nat_lt (limit_number what) (n + 1)) (refusal.LimitExceeded what) ∷ refuse_if (nat_lt 999999999999999 (t.counter + 1)) (refusal.LimitExceeded limit.Ids) ∷ []) e in
    (within_limit (limit_number what) (n + 1) (refusal.LimitExceeded what) l.0, within_limit 999999999999999 (t.counter + 1) (refusal.LimitExceeded limit.Ids) l.1.0)

role_if : (t : Tenant) (member : List ℕ) (role : Option (List ℕ)) → no_role t member role ≡ None → IfSome (option_map spelled_id role) (λ i. IsTrue ((known t).role i))
role_if t member None e = tt
role_if t member (Some text) e = some_of (role_at t (spelled_id text)) (unrefused (is_none (role_at t (spelled_id text))) (refusal.InvalidReference member) e)

any_more : {A : Type 0} (q : A → Bool) (xs ys : List A) → list_any q xs ≡ true → list_any q (xs ++ ys) ≡ true
any_more q [] ys h = absurd cc
any_more q (x ∷ xs) ys h = by (q x) h (any_more q xs ys)
  where
    by : (b : Bool) → (b || list_any q xs) ≡ true → (list_any q xs ≡ true → list_any q (xs ++ ys) ≡ true) → (b || list_any q (xs ++ ys)) ≡ true
    by true h more = refl
    by false h more = more h

-- ---- one more user, role or group
module _ (ids : IdLaws) (t : Tenant) (s : HasSoundParts t) where
  user_grows : (u : User) → Grows (known t) (known (with_user u t))
  user_grows u = record { people = record { counter = omega arith; user = last_has user_id t.users u; role = λ i h. h; group = λ i h. h }; item = λ i h. h }

  user_back : (u : User) → u.id ≡ next_id t user_prefix → (i : List ℕ) → names_any (known (with_user u t)) i ≡ true → (names_any (known t) i ≡ true) ⊎ (i ≡ next_id t user_prefix)
  user_back u is i h =
      let k = known t in
      let l = known (with_user u t) in
      let rest = k.role i || (k.group i || k.item i) in
      elim (or_cases (l.user i) rest h) [
        | inl a ↦ elim (has_last user_id t.users u i a) [ inl b ↦ inl (or_left (k.user i) rest b) | inr e ↦ inr (e ∙ is) ]
        | inr a ↦ inl (or_right (k.user i) rest a)
      ]

  pub user_added : (u : User) → u.id ≡ next_id t user_prefix → is_name u.name ≡ true → length u.digest ≡ 32 → IfSome u.role (λ i. IsTrue ((known t).role i))
      → length t.users + 1 ≤ 2000 → t.counter + 1 ≤ 999999999999999 → HasSoundParts (with_user u t)
  user_added u is name digest role few more =
      let g = user_grows u in
      let k = known t in
      let l = known (with_user u t) in
      record {
        name = s.name;
        counter = more;
        numbers = numbers_more ids t s l user_prefix refl (user_back u is);
        users =
            record {
              each = all_last (IsSoundUser l) t.users u (users_more k l g.people t.users s.users).each (record { id = (t.counter, omega arith, is); name = name; digest = digest; role = role });
              rise = rise_last (slice_cmp nat_cmp) user_id t.users u s.users.rise
                  (all_more (IsSoundUser k) (λ y. slice_cmp nat_cmp y.id u.id ≡ Less) (λ y x. subst (λ (z : List ℕ). slice_cmp nat_cmp y.id z ≡ Less) (sym is) (drawn_less ids user_prefix y.id t.counter s.counter x.id)) t.users s.users.each);
              few = omega (arith, length_last t.users u, few);
              administered = any_more administers t.users (u ∷ []) s.users.administered;
            };
        roles = roles_more k l g.people t.roles s.roles;
        groups = groups_more k l g.people t.groups s.groups;
        metadata = s.metadata;
        records = records_more k l g t.objects t.records s.records;
        rules = rules_more k l g.people t.objects t.rule_numbers t.sharing_rules s.rules;
        shares = shares_more k l g t.objects t.shares s.shares;
        job = job_more t.counter (t.counter + 1) (omega arith) t.objects t.records t.job s.job;
      }

pub add_user_sound : IdLaws → ((m : List ℕ) → length (sha256 m) ≡ 32) → (t : Tenant) (b : NewUser) → HasSoundParts t → HasSoundParts (add_user t b).tenant
add_user_sound ids size t b s =
    let u : User = record { id = next_id t user_prefix; name = b.name; digest = sha256 b.secret; role = option_map spelled_id b.role; admin = b.admin; active = true } in
    when_judged HasSoundParts t (new_user_rules t b) (accept (made_new u.id) (with_user u t)) s (λ h.
    let limits = room_for t limit.Users (length t.users) h.1.1.1.0 in
    user_added ids t s u refl
    (holds_not (is_name b.name) (unrefused (not (is_name b.name)) (refusal.InvalidName b.name) h.0))
    (size b.secret)
    (role_if t (codes "role") b.role h.1.1.0)
    limits.0 limits.1)

-- ---- a changed user, role or group
module _ {A : Type 0} (id : A → List ℕ) (change : A → A) (same : (x : A) → id (change x) ≡ id x) (i : List ℕ) where
  abbrev pub at_it : A → A
  at_it x = cond (bytes_eq (id x) i) (change x) x

  pub at_it_same : (x : A) → id (at_it x) ≡ id x
  at_it_same x = pick (bytes_eq (id x) i) (λ b. id (cond b (change x) x) ≡ id x) (λ _. same x) (λ _. refl)

  pub at_it_holds : (P : A → Type 0) (x : A) → P x → P (change x) → P (at_it x)
  at_it_holds P x p q = pick (bytes_eq (id x) i) (λ b. P (cond b (change x) x)) (λ _. q) (λ _. p)

-- ---- what a body says, or what was
name_said : (old : List ℕ) (said : Option (List ℕ)) → is_name old ≡ true → bad_name_if_any said ≡ None → is_name (unwrap_or said old) ≡ true
name_said old None h e = h
name_said old (Some name) h e = holds_not (is_name name) (unrefused (not (is_name name)) (refusal.InvalidName name) e)

digest_said : ((m : List ℕ) → length (sha256 m) ≡ 32) → (old : List ℕ) (said : Option (List ℕ)) → length old ≡ 32 → length (in_case said old sha256) ≡ 32
digest_said size old None h = h
digest_said size old (Some secret) h = size secret

role_said : (k : Known) (old : Option (List ℕ)) (said : Option (Option (List ℕ))) → IfSome old (λ i. IsTrue (k.role i)) → IfSome (option_map spelled_id (given said)) (λ i. IsTrue (k.role i))
    → IfSome (in_case said old (option_map spelled_id)) (λ i. IsTrue (k.role i))
role_said k old None h new = h
role_said k old (Some text) h new = new

pub set_user_sound : ((m : List ℕ) → length (sha256 m) ≡ 32) → (t : Tenant) (user : List ℕ) (b : UserChange) → HasSoundParts t → HasSoundParts (set_user t user b).tenant
set_user_sound size t user b s =
    when_judged HasSoundParts t (user_rules t user b) (accept done (record t { users = users_with b user t.users })) s (λ h.
    let change : User → User = changed_user b in
    let f = at_it user_id change (λ u. refl) (spelled_id user) in
    let same = at_it_same user_id change (λ u. refl) (spelled_id user) in
    let k = known t in
    let l = known (record t { users = map f t.users }) in
    let e : (i : List ℕ) → l.user i ≡ k.user i = has_same user_id f same t.users in
    let new = role_if t (codes "role") (given b.role) h.1.1.1.1.0 in
    let g : Grows k l = record { people = record { counter = omega arith; user = λ i x. e i ∙ x; role = λ i x. x; group = λ i x. x }; item = λ i x. x } in
    record {
      name = s.name;
      counter = s.counter;
      numbers = numbers_less k l (λ i x. subst (λ b. (b || (k.role i || (k.group i || k.item i))) ≡ true) (e i) x) s.numbers;
      users =
          record {
            each = all_map f (IsSoundUser k) (IsSoundUser l) (λ u x.
                at_it_holds user_id change (λ u. refl) (spelled_id user) (IsSoundUser l) u
                (record { id = x.id; name = x.name; digest = x.digest; role = x.role })
                (record { id = x.id; name = name_said u.name b.name x.name h.1.1.1.0; digest = digest_said size u.digest b.secret x.digest; role = role_said k u.role b.role x.role new })) t.users s.users.each;
            rise = rise_map (slice_cmp nat_cmp) user_id f same t.users s.users.rise;
            few = omega (arith, length-map t.users f, s.users.few);
            administered = holds_not (list_any administers (users_with b user t.users)) (unrefused (not (list_any administers (users_with b user t.users))) refusal.LastAdministrator h.1.1.1.1.1.0);
          };
      roles = roles_more k l g.people t.roles s.roles;
      groups = groups_more k l g.people t.groups s.groups;
      metadata = s.metadata;
      records = records_more k l g t.objects t.records s.records;
      rules = rules_more k l g.people t.objects t.rule_numbers t.sharing_rules s.rules;
      shares = shares_more k l g t.objects t.shares s.shares;
      job = s.job;
    })

-- ---- roles
if_some : {A : Type 0} {P : A → Type 0} (o : Option A) → ((x : A) → o ≡ Some x → P x) → IfSome o P
if_some None h = tt
if_some (Some x) h = h x refl

-- a parent is a role that is known
parent_known : (k : Known) (roles : List Role) → AllByRecursion (IsSoundRole k) roles → (i p : List ℕ) → parent_in roles i ≡ Some p → k.role p ≡ true
parent_known k roles a i p e = by (having_id role_id roles i) refl e
  where
    by : (o : Option Role) → having_id role_id roles i ≡ o → option_and_then (λ (r : Role). r.parent) o ≡ Some p → k.role p ≡ true
    by None w e = absurd cc
    by (Some r) w e =
        let it = found_at role_id roles i r w in
        subst (λ (o : Option (List ℕ)). IfSome o (λ i. IsTrue (k.role i))) e (all_at (IsSoundRole k) r roles a it.0).parent

module _ (ids : IdLaws) (t : Tenant) (s : HasSoundParts t) where
  role_grows : (r : Role) → Grows (known t) (known (with_role r t))
  role_grows r = record { people = record { counter = omega arith; user = λ i h. h; role = last_has role_id t.roles r; group = λ i h. h }; item = λ i h. h }

  role_back : (r : Role) → r.id ≡ next_id t role_prefix → (i : List ℕ) → names_any (known (with_role r t)) i ≡ true → (names_any (known t) i ≡ true) ⊎ (i ≡ next_id t role_prefix)
  role_back r is i h =
      let k = known t in
      let l = known (with_role r t) in
      let rest = k.group i || k.item i in
      elim (or_cases (k.user i) (l.role i || rest) h) [
        | inl a ↦ inl (or_left (k.user i) (k.role i || rest) a)
        | inr a ↦ elim (or_cases (l.role i) rest a) [
          | inl b ↦ elim (has_last role_id t.roles r i b) [ inl c ↦ inl (or_right (k.user i) (k.role i || rest) (or_left (k.role i) rest c)) | inr e ↦ inr (e ∙ is) ]
          | inr b ↦ inl (or_right (k.user i) (k.role i || rest) (or_right (k.role i) rest b))
        ]
      ]

  -- the new id is no role's parent, and no known role
  fresh_role : (r : Role) → r.id ≡ next_id t role_prefix → (p : List ℕ) → (known t).role p ≡ true → p ≡ r.id → ⊥
  fresh_role r is p h e =
      let k = known t in
      unnamed_yet ids t s role_prefix refl (or_right (k.user (next_id t role_prefix)) (k.role (next_id t role_prefix) || (k.group (next_id t role_prefix) || k.item (next_id t role_prefix)))
      (or_left (k.role (next_id t role_prefix)) (k.group (next_id t role_prefix) || k.item (next_id t role_prefix)) (subst (λ (i : List ℕ). k.role i ≡ true) (e ∙ is) h)))

  new_parent : (r : Role) → (a : List ℕ) → (parent_in (t.roles ++ r ∷ []) a ≡ parent_in t.roles a) ⊎ ((a ≡ r.id) × (parent_in (t.roles ++ r ∷ []) a ≡ r.parent))
  new_parent r a =
      elim (found_last role_id t.roles r a) [
        | inl same ↦ inl (ap (option_and_then (λ (r : Role). r.parent)) same)
        | inr last ↦ inr (last.0, ap (option_and_then (λ (r : Role). r.parent)) last.1)
      ]

  pub role_added : (r : Role) → r.id ≡ next_id t role_prefix → is_name r.name ≡ true → IfSome r.parent (λ i. IsTrue ((known t).role i))
      → length t.roles + 1 ≤ 500 → t.counter + 1 ≤ 999999999999999 → HasSoundParts (with_role r t)
  role_added r is name parent few more =
      let g = role_grows r in
      let k = known t in
      let l = known (with_role r t) in
      record {
        name = s.name;
        counter = more;
        numbers = numbers_more ids t s l role_prefix refl (role_back r is);
        users = users_more k l g.people t.users s.users;
        roles =
            record {
              each = all_last (IsSoundRole l) t.roles r (each_role_more k l g.people t.roles s.roles.each) (record { id = (t.counter, omega arith, is); name = name; parent = IfSome_then r.parent parent g.people.role });
              rise = rise_last (slice_cmp nat_cmp) role_id t.roles r s.roles.rise
                  (all_more (IsSoundRole k) (λ y. slice_cmp nat_cmp y.id r.id ≡ Less) (λ y x. subst (λ (z : List ℕ). slice_cmp nat_cmp y.id z ≡ Less) (sym is) (drawn_less ids role_prefix y.id t.counter s.counter x.id)) t.roles s.roles.each);
              few = omega (arith, length_last t.roles r, few);
              no_cycle = still_no_cycle (parent_in t.roles) (parent_in (t.roles ++ r ∷ [])) r.id r.parent (new_parent r)
                  (λ p e. (
                    fresh_role r is p (subst (λ (o : Option (List ℕ)). IfSome o (λ i. IsTrue (k.role i))) e parent),
                    λ w. let c = from_some (parent_in t.roles) r.id p w in fresh_role r is r.id (parent_known k t.roles s.roles.each c.0 r.id c.1) refl,
                  )) s.roles.no_cycle;
            };
        groups = groups_more k l g.people t.groups s.groups;
        metadata = s.metadata;
        records = records_more k l g t.objects t.records s.records;
        rules = rules_more k l g.people t.objects t.rule_numbers t.sharing_rules s.rules;
        shares = shares_more k l g t.objects t.shares s.shares;
        job = job_more t.counter (t.counter + 1) (omega arith) t.objects t.records t.job s.job;
      }

pub add_role_sound : IdLaws → (t : Tenant) (name : List ℕ) (parent : Option (List ℕ)) → HasSoundParts t → HasSoundParts (add_role t name parent).tenant
add_role_sound ids t name parent s =
    let r : Role = record { id = next_id t role_prefix; name = name; parent = option_map spelled_id parent } in
    when_judged HasSoundParts t (new_role_rules t name parent) (accept (made_new r.id) (with_role r t)) s (λ h.
    let limits = room_for t limit.Roles (length t.roles) h.1.1.1.0 in
    role_added ids t s r refl
    (holds_not (is_name name) (unrefused (not (is_name name)) (refusal.InvalidName name) h.0))
    (role_if t (codes "parent") parent h.1.1.0)
    limits.0 limits.1)

-- a parent that the rule lets through: it is there, another role, and not below
-- roles below others, as `model` says
abbrev pub BelowLaw : Type 0
BelowLaw = (t : Tenant) (a b : List ℕ) → IsTrue (is_below t a b) ↔ Below (structure_of t).parent a b

good_parent : BelowLaw → (t : Tenant) (role : List ℕ) (parent : Option (List ℕ)) → bad_parent t role parent ≡ None
    → (p : List ℕ) → option_map spelled_id parent ≡ Some p → ((known t).role p ≡ true) × (p ≡ role → ⊥) × (Below (parent_in t.roles) p role → ⊥)
good_parent law t role None e p is = absurd cc
good_parent law t role (Some text) e p is = subst (λ (q : List ℕ). ((known t).role q ≡ true) × (q ≡ role → ⊥) × (Below (parent_in t.roles) q role → ⊥)) (same (spelled_id text) p is) good
  where
    same : (q p : List ℕ) → Some q ≡ Some p → q ≡ p
    same q p e = ap (λ o. unwrap_or o q) e

    parts : (a b c : Bool) → (a || (b || c)) ≡ false → (a ≡ false) × (b ≡ false) × (c ≡ false)
    parts true b c e = absurd cc
    parts false true c e = absurd cc
    parts false false c e = (refl, refl, e)

    good : ((known t).role (spelled_id text) ≡ true) × (spelled_id text ≡ role → ⊥) × (Below (parent_in t.roles) (spelled_id text) role → ⊥)
    good =
        let q = spelled_id text in
        let ps = parts (is_none (role_at t q)) (bytes_eq q role) (is_below t q role)
        (unrefused (is_none (role_at t q) || (bytes_eq q role || is_below t q role)) (refusal.InvalidReference (codes "parent")) e) in (
          some_of (role_at t q) ps.0,
          λ is. clash (sym (same_itself role) ∙ ap (λ (z : List ℕ). bytes_eq z role) (sym is) ∙ ps.1),
          λ w. clash (sym ((law t q role).1 w) ∙ ps.2),
        )

-- where the parent is another one
other_parent : (t : Tenant) (x : List ℕ) (b : RoleChange) (a : List ℕ)
    → let f = at_it role_id (changed_role b) (λ r. refl) x in
    (parent_in (map f t.roles) a ≡ parent_in t.roles a) ⊎ ((a ≡ x) × (parent_in (map f t.roles) a ≡ option_map spelled_id (given b.parent)))
other_parent t x b a = by (having_id role_id t.roles a) refl
  where
    f : Role → Role
    f r = cond (bytes_eq r.id x) (changed_role b r) r

    lift : parent_in (map f t.roles) a ≡ option_and_then (λ (r : Role). r.parent) (option_map f (having_id role_id t.roles a))
    lift = ap (option_and_then (λ (r : Role). r.parent)) (found_map role_id f (at_it_same role_id (changed_role b) (λ r. refl) x) t.roles a)

    said : (r : Role) (new : Option (Option (List ℕ))) → a ≡ x → parent_in t.roles a ≡ r.parent → parent_in (map f t.roles) a ≡ in_case new r.parent (option_map spelled_id)
        → (parent_in (map f t.roles) a ≡ parent_in t.roles a) ⊎ ((a ≡ x) × (parent_in (map f t.roles) a ≡ option_map spelled_id (given new)))
    said r None is old now = inl (now ∙ sym old)
    said r (Some p) is old now = inr (is, now)

    by : (o : Option Role) → having_id role_id t.roles a ≡ o
        → (parent_in (map f t.roles) a ≡ parent_in t.roles a) ⊎ ((a ≡ x) × (parent_in (map f t.roles) a ≡ option_map spelled_id (given b.parent)))
    by None e = inl (lift ∙ ap (λ o. option_and_then (λ (r : Role). r.parent) (option_map f o)) e ∙ sym (ap (option_and_then (λ (r : Role). r.parent)) e))
    by (Some r) e =
        let old : parent_in t.roles a ≡ r.parent = ap (option_and_then (λ (r : Role). r.parent)) e in
        let now : parent_in (map f t.roles) a ≡ (f r).parent = lift ∙ ap (λ o. option_and_then (λ (r : Role). r.parent) (option_map f o)) e in
        pick (bytes_eq r.id x)
        (λ c. (cond c (changed_role b r) r).parent ≡ (f r).parent → (parent_in (map f t.roles) a ≡ parent_in t.roles a) ⊎ ((a ≡ x) × (parent_in (map f t.roles) a ≡ option_map spelled_id (given b.parent))))
        (λ w is. said r b.parent ((found_at role_id t.roles a r e).1 ∙ same_exact r.id x w) old (now ∙ sym is))
        (λ w is. inl (now ∙ sym is ∙ sym old))
        refl

pub set_role_sound : BelowLaw → (t : Tenant) (role : List ℕ) (b : RoleChange) → HasSoundParts t → HasSoundParts (set_role t role b).tenant
set_role_sound law t role b s =
    let new = option_map spelled_id (given b.parent) in
    when_judged HasSoundParts t (role_rules t role b) (accept done (record t { roles = changed role_id (changed_role b) (spelled_id role) t.roles })) s (λ h.
    let x = spelled_id role in
    let change : Role → Role = changed_role b in
    let f = at_it role_id change (λ r. refl) x in
    let same = at_it_same role_id change (λ r. refl) x in
    let k = known t in
    let l = known (record t { roles = map f t.roles }) in
    let e : (i : List ℕ) → l.role i ≡ k.role i = has_same role_id f same t.roles in
    let good = good_parent law t x (given b.parent) h.1.1.1.1.0 in
    let g : Grows k l = record { people = record { counter = omega arith; user = λ i z. z; role = λ i z. e i ∙ z; group = λ i z. z }; item = λ i z. z } in
    let known_parent : IfSome new (λ i. IsTrue (l.role i)) = if_some new (λ p is. g.people.role p (good p is).0) in
    record {
      name = s.name;
      counter = s.counter;
      numbers = numbers_less k l (λ i z. subst (λ b. (k.user i || (b || (k.group i || k.item i))) ≡ true) (e i) z) s.numbers;
      users = users_more k l g.people t.users s.users;
      roles =
          record {
            each = all_map f (IsSoundRole k) (IsSoundRole l) (λ r z.
                at_it_holds role_id change (λ r. refl) x (IsSoundRole l) r
                (record { id = z.id; name = z.name; parent = IfSome_then r.parent z.parent g.people.role })
                (record { id = z.id; name = name_said r.name b.name z.name h.1.1.1.0; parent = role_said l r.parent b.parent (IfSome_then r.parent z.parent g.people.role) known_parent })) t.roles s.roles.each;
            rise = rise_map (slice_cmp nat_cmp) role_id f same t.roles s.roles.rise;
            few = omega (arith, length-map t.roles f, s.roles.few);
            no_cycle = still_no_cycle (parent_in t.roles) (parent_in (map f t.roles)) x new (other_parent t x b) (λ p is. ((good p is).1, (good p is).2)) s.roles.no_cycle;
          };
      groups = groups_more k l g.people t.groups s.groups;
      metadata = s.metadata;
      records = records_more k l g t.objects t.records s.records;
      rules = rules_more k l g.people t.objects t.rule_numbers t.sharing_rules s.rules;
      shares = shares_more k l g t.objects t.shares s.shares;
      job = s.job;
    })

-- ---- groups
module _ (ids : IdLaws) (t : Tenant) (s : HasSoundParts t) where
  group_grows : (x : Group) → Grows (known t) (known (with_group x t))
  group_grows x = record { people = record { counter = omega arith; user = λ i h. h; role = λ i h. h; group = last_has group_id t.groups x }; item = λ i h. h }

  group_back : (x : Group) → x.id ≡ next_id t group_prefix → (i : List ℕ) → names_any (known (with_group x t)) i ≡ true → (names_any (known t) i ≡ true) ⊎ (i ≡ next_id t group_prefix)
  group_back x is i h =
      let k = known t in
      let l = known (with_group x t) in
      let all = k.role i || (k.group i || k.item i) in
      elim (or_cases (k.user i) (k.role i || (l.group i || k.item i)) h) [
        | inl a ↦ inl (or_left (k.user i) all a)
        | inr a ↦ elim (or_cases (k.role i) (l.group i || k.item i) a) [
          | inl b ↦ inl (or_right (k.user i) all (or_left (k.role i) (k.group i || k.item i) b))
          | inr b ↦ elim (or_cases (l.group i) (k.item i) b) [
            | inl c ↦ elim (has_last group_id t.groups x i c) [ inl d ↦ inl (or_right (k.user i) all (or_right (k.role i) (k.group i || k.item i) (or_left (k.group i) (k.item i) d))) | inr e ↦ inr (e ∙ is) ]
            | inr c ↦ inl (or_right (k.user i) all (or_right (k.role i) (k.group i || k.item i) (or_right (k.group i) (k.item i) c)))
          ]
        ]
      ]

  pub group_added : (x : Group) → x.id ≡ next_id t group_prefix → is_name x.name ≡ true → x.members ≡ []
      → length t.groups + 1 ≤ 500 → t.counter + 1 ≤ 999999999999999 → HasSoundParts (with_group x t)
  group_added x is name empty few more =
      let g = group_grows x in
      let k = known t in
      let l = known (with_group x t) in
      record {
        name = s.name;
        counter = more;
        numbers = numbers_more ids t s l group_prefix refl (group_back x is);
        users = users_more k l g.people t.users s.users;
        roles = roles_more k l g.people t.roles s.roles;
        groups =
            record {
              each = all_last (IsSoundGroup l) t.groups x (each_group_more k l g.people t.groups s.groups.each)
                  (record { id = (t.counter, omega arith, is); name = name; members = rw empty (omega arith); named = rw empty refl });
              rise = rise_last (slice_cmp nat_cmp) group_id t.groups x s.groups.rise
                  (all_more (IsSoundGroup k) (λ y. slice_cmp nat_cmp y.id x.id ≡ Less) (λ y z. subst (λ (i : List ℕ). slice_cmp nat_cmp y.id i ≡ Less) (sym is) (drawn_less ids group_prefix y.id t.counter s.counter z.id)) t.groups s.groups.each);
              few = omega (arith, length_last t.groups x, few);
            };
        metadata = s.metadata;
        records = records_more k l g t.objects t.records s.records;
        rules = rules_more k l g.people t.objects t.rule_numbers t.sharing_rules s.rules;
        shares = shares_more k l g t.objects t.shares s.shares;
        job = job_more t.counter (t.counter + 1) (omega arith) t.objects t.records t.job s.job;
      }

pub add_group_sound : IdLaws → (t : Tenant) (name : List ℕ) → HasSoundParts t → HasSoundParts (add_group t name).tenant
add_group_sound ids t name s =
    let x : Group = record { id = next_id t group_prefix; name = name; members = [] } in
    when_judged HasSoundParts t (new_group_rules t name) (accept (made_new x.id) (with_group x t)) s (λ h.
    let limits = room_for t limit.Groups (length t.groups) h.1.0 in
    group_added ids t s x refl (holds_not (is_name name) (unrefused (not (is_name name)) (refusal.InvalidName name) h.0)) refl limits.0 limits.1)

-- each of the members is there
members_there : (t : Tenant) (members : List Spelled) → first_of (λ p. not_there t (codes "members") (principal_of p)) members ≡ None → list_all (knows (known t)) (map principal_of members) ≡ true
members_there t [] e = refl
members_there t (p ∷ ps) e = by (is_there t (principal_of p)) refl e (members_there t ps)
  where
    same : (q : Principal) → knows (known t) q ≡ is_there t q
    same (to.User i) = refl
    same (to.Role i) = refl
    same (to.Subordinates i) = refl
    same (to.Group i) = refl

    by : (b : Bool) → is_there t (principal_of p) ≡ b
        → first_refusal (refuse_if (not b) (refusal.InvalidReference (codes "members")) ∷ map (λ p. not_there t (codes "members") (principal_of p)) ps) ≡ None
        → (first_of (λ p. not_there t (codes "members") (principal_of p)) ps ≡ None → list_all (knows (known t)) (map principal_of ps) ≡ true)
        → (knows (known t) (principal_of p) && list_all (knows (known t)) (map principal_of ps)) ≡ true
    by true w e more = both (knows (known t) (principal_of p)) (list_all (knows (known t)) (map principal_of ps)) (same (principal_of p) ∙ w) (more e)
    by false w e more = absurd cc

few_said : (old : List Principal) (said : Option (List Spelled)) → length old ≤ 500 → length (unwrap_or said []) ≤ 500 → length (in_case said old (map principal_of)) ≤ 500
few_said old None h new = h
few_said old (Some members) h new = omega (arith, length-map members principal_of, new)

named_said : (p : Principal → Bool) (old : List Principal) (said : Option (List Spelled)) → list_all p old ≡ true → list_all p (map principal_of (unwrap_or said [])) ≡ true
    → list_all p (in_case said old (map principal_of)) ≡ true
named_said p old None h new = h
named_said p old (Some members) h new = new

pub set_group_sound : (t : Tenant) (group : List ℕ) (b : GroupChange) → HasSoundParts t → HasSoundParts (set_group t group b).tenant
set_group_sound t group b s =
    when_judged HasSoundParts t (group_rules t group b) (accept done (record t { groups = changed group_id (changed_group b) (spelled_id group) t.groups })) s (λ h.
    let members = members_given b in
    let x = spelled_id group in
    let change : Group → Group = changed_group b in
    let f = at_it group_id change (λ g. refl) x in
    let same = at_it_same group_id change (λ g. refl) x in
    let k = known t in
    let l = known (record t { groups = map f t.groups }) in
    let e : (i : List ℕ) → l.group i ≡ k.group i = has_same group_id f same t.groups in
    let g : Grows k l = record { people = record { counter = omega arith; user = λ i z. z; role = λ i z. z; group = λ i z. e i ∙ z }; item = λ i z. z } in
    let few = none_refuses (refuse_if (nat_lt 500 (length members)) (refusal.LimitExceeded limit.MembersPerGroup) ∷ []) h.1.1.1.1.1.0 in
    let named = list_all_more (knows k) (knows l) (knows_more k l g.people) (map principal_of members) (members_there t members h.1.1.1.1.0) in
    record {
      name = s.name;
      counter = s.counter;
      numbers = numbers_less k l (λ i z. subst (λ b. (k.user i || (k.role i || (b || k.item i))) ≡ true) (e i) z) s.numbers;
      users = users_more k l g.people t.users s.users;
      roles = roles_more k l g.people t.roles s.roles;
      groups =
          record {
            each = all_map f (IsSoundGroup k) (IsSoundGroup l) (λ y z.
                let was = list_all_more (knows k) (knows l) (knows_more k l g.people) y.members z.named in
                at_it_holds group_id change (λ g. refl) x (IsSoundGroup l) y
                (record { id = z.id; name = z.name; members = z.members; named = was })
                (record { id = z.id; name = name_said y.name b.name z.name h.1.1.1.0; members = few_said y.members b.members z.members (within_limit 500 (length members) (refusal.LimitExceeded limit.MembersPerGroup) few.0); named = named_said (knows l) y.members b.members was named })) t.groups s.groups.each;
            rise = rise_map (slice_cmp nat_cmp) group_id f same t.groups s.groups.rise;
            few = omega (arith, length-map t.groups f, s.groups.few);
          };
      metadata = s.metadata;
      records = records_more k l g t.objects t.records s.records;
      rules = rules_more k l g.people t.objects t.rule_numbers t.sharing_rules s.rules;
      shares = shares_more k l g t.objects t.shares s.shares;
      job = s.job;
    })

-- ---- the organisation
pub set_organisation_sound : (t : Tenant) (name : List ℕ) → HasSoundParts t → HasSoundParts (set_organisation t name).tenant
set_organisation_sound t name s =
    when_judged HasSoundParts t (bad_name is_name name ∷ []) (accept done (record t { name = name })) s (λ h.
    record {
      name = holds_not (is_name name) (unrefused (not (is_name name)) (refusal.InvalidName name) h.0);
      counter = s.counter;
      numbers = s.numbers;
      users = s.users;
      roles = s.roles;
      groups = s.groups;
      metadata = s.metadata;
      records = s.records;
      rules = s.rules;
      shares = s.shares;
      job = s.job;
    })
