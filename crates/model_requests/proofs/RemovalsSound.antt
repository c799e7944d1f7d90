-- What the end of a role or a group leaves is sound.
use Rattle.std.proofs.Common.{◌≡◌, ℕ, ◌<◌, Bool, true, false, not, ◌&&◌, ◌||◌, ◌==◌, cond, T, List, [], ◌∷◌, map, filter, get_or, Option, Some, None, is_some, refl, ap, sym, subst, ◌∙◌, arith, inl, inr, IsTrue, IfSome, bytes_eq, is_lt, nat_cmp, codes}
use Rattle.std.specs.List.{AllByRecursion, list_all, list_any}
use Rattle.std.specs.Option.{option_and_then}
use Rattle.std.specs.FinMap.Entries.{below_all}
use Rattle.std.specs.Cmp.Lexicographic.{slice_cmp}
use Rattle.std.proofs.lemmas.Bool.{and_from as both, or_cases, or_left, or_right}
use Rattle.base_lemmas.proofs.Bools.{and_first as both_left, and_second as both_right, and_second_false, by_answer as pick, or_first_false, or_second_false, T-and_first as t_left, T-and_second as t_right, T-and_from as t_both}
use Rattle.base_lemmas.proofs.Lists.{each_weaker as all_more, each-filter as all_kept, length-filter_most}
use Rattle.base_lemmas.proofs.Texts.{same_from_bytes_eq as same_exact}
use Rattle.base_value.specs.declared.job.RuleState.{RuleState}
use Rattle.base_value.specs.declared.sharing.Principal.{Principal}
use Rattle.base_value.specs.declared.sharing.Principal.TheVariants as to
use Rattle.base_value.specs.declared.value.Value.{Value}
use Rattle.base_value.specs.declared.value.Value.TheVariants.{Null}
use Rattle.model.specs.declared.record.Record.{Record}
use Rattle.model.specs.declared.refusal.Refusal.TheVariants.{DeleteFailed}
use Rattle.model.specs.Cases.{in_case}
use Rattle.model.specs.Fields.{is_detail, is_master, ref_of}
use Rattle.model.specs.Known.{IsDrawn, Known, NumbersDiffer, group_id, item_of, known, knows, names_any, role_id}
use Rattle.model.specs.Membership.{Below, more_steps, one_step}
use Rattle.model.specs.Objects.{object_number}
use Rattle.model.specs.Principals.{spelled_id}
use Rattle.model.specs.Relationships.{Reference, references_of}
use Rattle.model.specs.Rules.{Rule, first_refusal}
use Rattle.model.specs.SoundFormulas.{AreFormulasSound}
use Rattle.model.specs.SoundPeople.{HasSoundUsers, IsSoundGroup, IsSoundRole, IsSoundUser, ids_rise, parent_in}
use Rattle.model.specs.SoundRecords.{HasSoundRecords, IsSoundRecord, is_sound_owner, is_sound_reference}
use Rattle.model.specs.SoundSharing.{HasSoundRules, HasSoundShares, IsCursor, IsSoundRule, IsSoundShare, is_sound_source, is_whole}
use Rattle.model.specs.Tenant.{Group, Object, Role, Share, SharingRule, Source, owned, meets, Tenant, User}
use Rattle.model.specs.Verdict.{Verdict, accept, done, judged, unless}
use Rattle.model.specs.World.{group_prefix, having_id, role_prefix, user_prefix}
use Rattle.model_invariant.proofs.Parts.{all_at, all_from, among_kept, has_kept, list_all_more, none_refuses, none_so, unrefused}
use Rattle.model_invariant.proofs.SoundParts.{HasSoundParts}
use Rattle.model_requests.specs.Removals.{is_from, is_group, is_id, is_of_role, remove_group, remove_group_rules, remove_role, remove_role_rules, without_group, without_role}

-- a refusal leaves the tenant, and so does what no rule refuses leave a sound one
when_judged : (P : Tenant → Type 0) (t : Tenant) (rules : List Rule) (v : Verdict) → P t → (AllByRecursion (λ r. r ≡ None) rules → P v.tenant) → P (judged t rules v).tenant
when_judged P t rules v h f = by (first_refusal rules) refl
  where
    by : (r : Rule) → first_refusal rules ≡ r → P (unless r t v).tenant
    by None e = f (none_refuses rules e)
    by (Some x) e = h

-- nothing new: the numbers that differed differ
numbers_less : (k l : Known) → ((i : List ℕ) → names_any l i ≡ true → names_any k i ≡ true) → NumbersDiffer k → NumbersDiffer l
numbers_less k l back h i j a b e = h i j (back i a) (back j b) e

-- ---- lists

-- two facts of each give a third
all_two : {A : Type 0} (P Q R : A → Type 0) → ((x : A) → P x → Q x → R x) → (xs : List A) → AllByRecursion P xs → AllByRecursion Q xs → AllByRecursion R xs
all_two P Q R h [] p q = tt
all_two P Q R h (x ∷ xs) p q = (h x p.0 q.0, all_two P Q R h xs p.1 q.1)

-- what follows where an element isn't so follows for all, where none is so
all_but : {A : Type 0} (f g is : A → Bool) → ((x : A) → f x ≡ true → is x ≡ false → g x ≡ true) → (xs : List A) → list_all f xs ≡ true → list_any is xs ≡ false → list_all g xs ≡ true
all_but f g is h [] e n = refl
all_but f g is h (x ∷ xs) e n =
    both (g x) (list_all g xs)
    (h x (both_left (f x) (list_all f xs) e) (or_first_false (is x) (list_any is xs) n))
    (all_but f g is h xs (both_right (f x) (list_all f xs) e) (or_second_false (is x) (list_any is xs) n))

-- ids rise where some are left out
module _ {A : Type 0} (id : A → List ℕ) (keep : A → Bool) where
  abbrev below : List ℕ → List A → Bool
  below k xs = below_all (slice_cmp nat_cmp) k (map (λ x. (id x, x)) xs)

  below_kept : (k : List ℕ) (xs : List A) → T (below k xs) → T (below k (filter keep xs))
  below_kept k [] h = tt
  below_kept k (x ∷ xs) h =
      let low = is_lt (slice_cmp nat_cmp k (id x)) in
      let rest = below_kept k xs (t_right low (below k xs) h) in
      pick (keep x) (λ b. T (below k (cond b (x ∷ filter keep xs) (filter keep xs)))) (λ _. t_both low (below k (filter keep xs)) (t_left low (below k xs) h) rest) (λ _. rest)

  rise_kept : (xs : List A) → T (ids_rise id xs) → T (ids_rise id (filter keep xs))
  rise_kept [] h = tt
  rise_kept (x ∷ xs) h =
      let rest = rise_kept xs (t_right (below (id x) xs) (ids_rise id xs) h) in
      let low = below_kept (id x) xs (t_left (below (id x) xs) (ids_rise id xs) h) in
      pick (keep x) (λ b. T (ids_rise id (cond b (x ∷ filter keep xs) (filter keep xs)))) (λ _. t_both (below (id x) (filter keep xs)) (ids_rise id (filter keep xs)) low rest) (λ _. rest)

-- without the one that has an id
module _ {A : Type 0} (id : A → List ℕ) (i : List ℕ) where
  abbrev others : A → Bool
  others x = not (bytes_eq (id x) i)

  -- every other id names what it named
  found_other : (xs : List A) (a : List ℕ) → bytes_eq a i ≡ false → having_id id (filter others xs) a ≡ having_id id xs a
  found_other [] a e = refl
  found_other (x ∷ xs) a e = by (bytes_eq (id x) i) refl (found_other xs a e)
    where
      gone : bytes_eq (id x) i ≡ true → having_id id (filter others xs) a ≡ having_id id xs a
          → (c : Bool) → bytes_eq a (id x) ≡ c → having_id id (filter others xs) a ≡ cond c (Some x) (having_id id xs a)
      gone t more true u = absurd (clash (sym (ap (λ (z : List ℕ). bytes_eq z i) (same_exact a (id x) u) ∙ t) ∙ e))
        where
          clash : true ≡ false → ⊥
          clash e = cc
      gone t more false u = more

      by : (b : Bool) → bytes_eq (id x) i ≡ b → having_id id (filter others xs) a ≡ having_id id xs a
          → having_id id (cond (not b) (x ∷ filter others xs) (filter others xs)) a ≡ having_id id (x ∷ xs) a
      by true t more = gone t more (bytes_eq a (id x)) refl
      by false t more = ap (λ o. cond (bytes_eq a (id x)) (Some x) o) more

  -- and this one names nothing
  found_gone : (xs : List A) (a : List ℕ) → bytes_eq a i ≡ true → having_id id (filter others xs) a ≡ None
  found_gone [] a e = refl
  found_gone (x ∷ xs) a e = by (bytes_eq (id x) i) refl (found_gone xs a e)
    where
      kept : bytes_eq (id x) i ≡ false → having_id id (filter others xs) a ≡ None
          → (c : Bool) → bytes_eq a (id x) ≡ c → cond c (Some x) (having_id id (filter others xs) a) ≡ None
      kept t more true u = absurd (clash (sym (ap (λ (z : List ℕ). bytes_eq z i) (same_exact a (id x) u) ∙ t) ∙ e))
        where
          clash : false ≡ true → ⊥
          clash e = cc
      kept t more false u = more

      by : (b : Bool) → bytes_eq (id x) i ≡ b → having_id id (filter others xs) a ≡ None
          → having_id id (cond (not b) (x ∷ filter others xs) (filter others xs)) a ≡ None
      by true t more = more
      by false t more = kept t more (bytes_eq a (id x)) refl

-- ---- only what nothing names is lost: soundness of each part stays

-- the counter, users and records are the same, and each principal that isn't such a one is known still
record Loses (is : Principal → Bool) (k l : Known) : Type 0 where
  pub counter : k.counter ≡ l.counter
  pub user : (i : List ℕ) → k.user i ≡ true → l.user i ≡ true
  pub item : (i : List ℕ) → k.item i ≡ true → l.item i ≡ true
  pub named : (p : Principal) → knows k p ≡ true → is p ≡ false → knows l p ≡ true

module _ (is : Principal → Bool) (k l : Known) (g : Loses is k l) where
  role_kept : (o : Option (List ℕ)) → IfSome o (λ i. IsTrue (k.role i)) → in_case o false (λ i. is (to.Role i)) ≡ false → IfSome o (λ i. IsTrue (l.role i))
  role_kept None h e = tt
  role_kept (Some i) h e = g.named (to.Role i) h e

  user_kept : (u : User) → IsSoundUser k u → in_case u.role false (λ i. is (to.Role i)) ≡ false → IsSoundUser l u
  user_kept u s e = record { id = subst (λ n. IsDrawn user_prefix n u.id) g.counter s.id; name = s.name; digest = s.digest; role = role_kept u.role s.role e }

  users_kept : (us : List User) → HasSoundUsers k us → AllByRecursion (λ u. in_case u.role false (λ i. is (to.Role i)) ≡ false) us → HasSoundUsers l us
  users_kept us s none =
      record { each = all_two (IsSoundUser k) (λ u. in_case u.role false (λ i. is (to.Role i)) ≡ false) (IsSoundUser l) user_kept us s.each none; rise = s.rise; few = s.few; administered = s.administered }

  parent_kept : (r : Role) → IsSoundRole k r → in_case r.parent false (λ i. is (to.Role i)) ≡ false → IsSoundRole l r
  parent_kept r s e = record { id = subst (λ n. IsDrawn role_prefix n r.id) g.counter s.id; name = s.name; parent = role_kept r.parent s.parent e }

  group_kept : (x : Group) → IsSoundGroup k x → list_any is x.members ≡ false → IsSoundGroup l x
  group_kept x s e =
      record { id = subst (λ n. IsDrawn group_prefix n x.id) g.counter s.id; name = s.name; members = s.members; named = all_but (knows k) (knows l) is g.named x.members s.named e }

  source_kept : (st : RuleState) (s : Source) → is_sound_source k st s ≡ true → is_from is s ≡ false → is_sound_source l st s ≡ true
  source_kept st (owned p) h e = both (knows l p) (is_whole st) (g.named p (both_left (knows k p) (is_whole st) h) e) (both_right (knows k p) (is_whole st) h)
  source_kept st (meets text) h e = h

  rule_kept : (os : List Object) (drawn : ℕ) (r : SharingRule) → IsSoundRule k os drawn r → (is_from is r.source ≡ false) × (is r.to ≡ false) → IsSoundRule l os drawn r
  rule_kept os drawn r s e =
      record {
        name = s.name;
        object = s.object;
        number = s.number;
        source = source_kept r.state r.source s.source e.0;
        to = g.named r.to s.to e.1;
        level = s.level;
        cursor = subst (λ n. IsCursor n r.object r.cursor) g.counter s.cursor;
      }

  rules_kept : (os : List Object) (drawn : ℕ) (rs : List SharingRule) → HasSoundRules k os drawn rs
      → list_any (λ r. is_from is r.source) rs ≡ false → list_any (λ r. is r.to) rs ≡ false → HasSoundRules l os drawn rs
  rules_kept os drawn rs s from to =
      let none = all_two (λ (r : SharingRule). is_from is r.source ≡ false) (λ r. is r.to ≡ false) (λ r. (is_from is r.source ≡ false) × (is r.to ≡ false)) (λ r a b. (a, b)) rs
      (none_so (λ (r : SharingRule). is_from is r.source) rs from) (none_so (λ (r : SharingRule). is r.to) rs to) in
      record {
        each = all_two (IsSoundRule k os drawn) (λ r. (is_from is r.source ≡ false) × (is r.to ≡ false)) (IsSoundRule l os drawn) (rule_kept os drawn) rs s.each none;
        rise = s.rise;
        numbers = s.numbers;
        few = s.few;
        few_drawn = s.few_drawn;
      }

  share_kept : (os : List Object) (x : Share) → IsSoundShare k os x → is x.to ≡ false → IsSoundShare l os x
  share_kept os x s e = record { item = g.item x.item s.item; object = s.object; to = g.named x.to s.to e; level = s.level }

  shares_kept : (os : List Object) (xs : List Share) → HasSoundShares k os xs → list_any (λ s. is s.to) xs ≡ false → HasSoundShares l os xs
  shares_kept os xs s e =
      record {
        each = all_two (IsSoundShare k os) (λ x. is x.to ≡ false) (IsSoundShare l os) (share_kept os) xs s.each (none_so (λ (x : Share). is x.to) xs e);
        rise = s.rise;
        few = s.few;
      }

  owner_kept : (o : Object) (owner : Option (List ℕ)) → is_sound_owner k o owner ≡ true → is_sound_owner l o owner ≡ true
  owner_kept o None h = h
  owner_kept o (Some i) h = both (not (is_detail o)) (l.user i) (both_left (not (is_detail o)) (k.user i) h) (g.user i (both_right (not (is_detail o)) (k.user i) h))

  target_kept : (o : Option (List ℕ)) (none : Bool) (n : ℕ) → in_case o none (item_of k n) ≡ true → in_case o none (item_of l n) ≡ true
  target_kept None none n h = h
  target_kept (Some i) none n h = both (l.item i) (object_number i == n) (g.item i (both_left (k.item i) (object_number i == n) h)) (both_right (k.item i) (object_number i == n) h)

  reference_kept : (values : List Value) (f : Reference) → is_sound_reference k values f ≡ true → is_sound_reference l values f ≡ true
  reference_kept values f h = target_kept (ref_of (get_or values f.position Null)) (not (is_master f.field.kind)) f.target h

  record_kept : (os : List Object) (r : Record) → IsSoundRecord k os r → IsSoundRecord l os r
  record_kept os r s =
      record {
        object = s.object;
        there = s.there;
        number = s.number;
        drawn = subst (λ n. s.number < n) g.counter s.drawn;
        id = s.id;
        owner = owner_kept s.object r.owner s.owner;
        created = s.created;
        modified = s.modified;
        values = s.values;
        references = list_all_more (is_sound_reference k r.values) (is_sound_reference l r.values) (reference_kept r.values)
            (references_of (record { number = object_number r.id; object = s.object })) s.references;
      }

  records_kept : (os : List Object) (rs : List Record) → HasSoundRecords k os rs → HasSoundRecords l os rs
  records_kept os rs s = record { each = all_more (IsSoundRecord k os) (IsSoundRecord l os) (record_kept os) rs s.each; rise = s.rise; unique = s.unique; few = s.few; few_of = s.few_of }

-- ---- the end of a role

-- the parents are those of before, of fewer roles
fewer_parents : (i : List ℕ) (roles : List Role) (a b : List ℕ) → parent_in (filter (others role_id i) roles) a ≡ Some b → parent_in roles a ≡ Some b
fewer_parents i roles a b e = by (bytes_eq a i) refl
  where
    next : Option Role → Option (List ℕ)
    next o = option_and_then (λ (r : Role). r.parent) o

    by : (c : Bool) → bytes_eq a i ≡ c → parent_in roles a ≡ Some b
    by true t = absurd (clash (sym (ap next (found_gone role_id i roles a t)) ∙ e))
      where
        clash : ◌≡◌ {A = Option (List ℕ)} None (Some b) → ⊥
        clash e = cc
    by false t = sym (ap next (found_other role_id i roles a t)) ∙ e

-- whoever is below another was it before
below_before : (up now : List ℕ → Option (List ℕ)) → ((a b : List ℕ) → now a ≡ Some b → up a ≡ Some b) → (a b : List ℕ) → Below now a b → Below up a b
below_before up now h a b (one_step e) = one_step (h a b e)
below_before up now h a b (more_steps {c = c} e r) = more_steps (h a c e) (below_before up now h c b r)

role_loses : (t : Tenant) (i : List ℕ) → Loses (is_of_role i) (known t) (known (without_role i t))
role_loses t i = record { counter = refl; user = λ j h. h; item = λ j h. h; named = named }
  where
    still : (j : List ℕ) → (known t).role j ≡ true → bytes_eq j i ≡ false → (known (without_role i t)).role j ≡ true
    still j h e = ap (λ o. is_some o) (found_other role_id i t.roles j e) ∙ h

    named : (p : Principal) → knows (known t) p ≡ true → is_of_role i p ≡ false → knows (known (without_role i t)) p ≡ true
    named (to.User j) h e = h
    named (to.Role j) h e = still j h e
    named (to.Subordinates j) h e = still j h e
    named (to.Group j) h e = h

role_back : (t : Tenant) (i j : List ℕ) → names_any (known (without_role i t)) j ≡ true → names_any (known t) j ≡ true
role_back t i j h =
    let k = known t in
    let l = known (without_role i t) in
    let rest = k.group j || k.item j in
    elim (or_cases (k.user j) (l.role j || rest) h) [
      | inl a ↦ or_left (k.user j) (k.role j || rest) a
      | inr a ↦ or_right (k.user j) (k.role j || rest) (elim (or_cases (l.role j) rest a) [
        | inl b ↦ or_left (k.role j) rest (has_kept role_id (others role_id i) t.roles j b)
        | inr b ↦ or_right (k.role j) rest b
      ])
    ]

pub remove_role_sound : (t : Tenant) (role : List ℕ) → HasSoundParts t → HasSoundParts (remove_role t role).tenant
remove_role_sound t role s =
    when_judged HasSoundParts t (remove_role_rules t role) (accept done (without_role (spelled_id role) t)) s (λ h.
    let i = spelled_id role in
    let is = is_of_role i in
    let k = known t in
    let l = known (without_role i t) in
    let g = role_loses t i in
    let keep = others role_id i in
    let not_roles = none_so (λ (u : User). is_id i u.role) t.users (unrefused (list_any (λ u. is_id i u.role) t.users) (DeleteFailed (codes "users") (codes "role")) h.1.1.0) in
    let not_parents = none_so (λ (r : Role). is_id i r.parent) t.roles (unrefused (list_any (λ r. is_id i r.parent) t.roles) (DeleteFailed (codes "roles") (codes "parent")) h.1.1.1.0) in
    let not_members =
    none_so (λ (x : Group). list_any is x.members) t.groups (unrefused (list_any (λ x. list_any is x.members) t.groups) (DeleteFailed (codes "groups") (codes "members")) h.1.1.1.1.0) in
    record {
      name = s.name;
      counter = s.counter;
      numbers = numbers_less k l (role_back t i) s.numbers;
      users = users_kept is k l g t.users s.users not_roles;
      roles =
          record {
            each = all_kept (IsSoundRole l) keep t.roles (all_two (IsSoundRole k) (λ r. is_id i r.parent ≡ false) (IsSoundRole l) (parent_kept is k l g) t.roles s.roles.each not_parents);
            rise = rise_kept role_id keep t.roles s.roles.rise;
            few = omega (arith, length-filter_most keep t.roles, s.roles.few);
            no_cycle = λ a b. s.roles.no_cycle a (below_before (parent_in t.roles) (parent_in (filter keep t.roles)) (fewer_parents i t.roles) a a b);
          };
      groups =
          record {
            each = all_two (IsSoundGroup k) (λ x. list_any is x.members ≡ false) (IsSoundGroup l) (group_kept is k l g) t.groups s.groups.each not_members;
            rise = s.groups.rise;
            few = s.groups.few;
          };
      metadata = s.metadata;
      records = records_kept is k l g t.objects t.records s.records;
      rules =
          rules_kept is k l g t.objects t.rule_numbers t.sharing_rules s.rules
          (unrefused (list_any (λ r. is_from is r.source) t.sharing_rules) (DeleteFailed (codes "sharing-rules") (codes "from")) h.1.1.1.1.1.0)
          (unrefused (list_any (λ r. is r.to) t.sharing_rules) (DeleteFailed (codes "sharing-rules") (codes "to")) h.1.1.1.1.1.1.0);
      shares = shares_kept is k l g t.objects t.shares s.shares (unrefused (list_any (λ x. is x.to) t.shares) (DeleteFailed (codes "shares") (codes "to")) h.1.1.1.1.1.1.1.0);
      job = s.job;
    })

pub remove_role_formulas : (t : Tenant) → AreFormulasSound t → (role : List ℕ) → AreFormulasSound (remove_role t role).tenant
remove_role_formulas t s role = when_judged AreFormulasSound t (remove_role_rules t role) (accept done (without_role (spelled_id role) t)) s (λ _. s)

-- ---- the end of a group

group_loses : (t : Tenant) (i : List ℕ) → Loses (is_group i) (known t) (known (without_group i t))
group_loses t i = record { counter = refl; user = λ j h. h; item = λ j h. h; named = named }
  where
    named : (p : Principal) → knows (known t) p ≡ true → is_group i p ≡ false → knows (known (without_group i t)) p ≡ true
    named (to.User j) h e = h
    named (to.Role j) h e = h
    named (to.Subordinates j) h e = h
    named (to.Group j) h e = ap (λ o. is_some o) (found_other group_id i t.groups j e) ∙ h

group_back : (t : Tenant) (i j : List ℕ) → names_any (known (without_group i t)) j ≡ true → names_any (known t) j ≡ true
group_back t i j h =
    let k = known t in
    let l = known (without_group i t) in
    let all = k.role j || (k.group j || k.item j) in
    elim (or_cases (k.user j) (k.role j || (l.group j || k.item j)) h) [
      | inl a ↦ or_left (k.user j) all a
      | inr a ↦ or_right (k.user j) all (elim (or_cases (k.role j) (l.group j || k.item j) a) [
        | inl b ↦ or_left (k.role j) (k.group j || k.item j) b
        | inr b ↦ or_right (k.role j) (k.group j || k.item j) (elim (or_cases (l.group j) (k.item j) b) [
          | inl c ↦ or_left (k.group j) (k.item j) (has_kept group_id (others group_id i) t.groups j c)
          | inr c ↦ or_right (k.group j) (k.item j) c
        ])
      ])
    ]

-- no role that is named is a group
no_group : (i : List ℕ) (o : Option (List ℕ)) → in_case o false (λ j. is_group i (to.Role j)) ≡ false
no_group i None = refl
no_group i (Some j) = refl

pub remove_group_sound : (t : Tenant) (group : List ℕ) → HasSoundParts t → HasSoundParts (remove_group t group).tenant
remove_group_sound t group s =
    when_judged HasSoundParts t (remove_group_rules t group) (accept done (without_group (spelled_id group) t)) s (λ h.
    let i = spelled_id group in
    let is = is_group i in
    let k = known t in
    let l = known (without_group i t) in
    let g = group_loses t i in
    let keep = others group_id i in
    let not_members =
    none_so (λ (x : Group). not (bytes_eq x.id i) && list_any is x.members) t.groups
    (unrefused (list_any (λ x. not (bytes_eq x.id i) && list_any is x.members) t.groups) (DeleteFailed (codes "groups") (codes "members")) h.1.1.0) in
    record {
      name = s.name;
      counter = s.counter;
      numbers = numbers_less k l (group_back t i) s.numbers;
      users = users_kept is k l g t.users s.users (all_from (λ (u : User). in_case u.role false (λ j. is (to.Role j)) ≡ false) t.users (λ u m. no_group i u.role));
      roles =
          record {
            each = all_more (IsSoundRole k) (IsSoundRole l) (λ r z. parent_kept is k l g r z (no_group i r.parent)) t.roles s.roles.each;
            rise = s.roles.rise;
            few = s.roles.few;
            no_cycle = s.roles.no_cycle;
          };
      groups =
          record {
            each = all_from (IsSoundGroup l) (filter keep t.groups) (λ x m.
                let a = among_kept keep t.groups x m in
                group_kept is k l g x (all_at (IsSoundGroup k) x t.groups s.groups.each a.0)
                (and_second_false (keep x) (list_any is x.members) a.1 (all_at (λ (x : Group). (keep x && list_any is x.members) ≡ false) x t.groups not_members a.0)));
            rise = rise_kept group_id keep t.groups s.groups.rise;
            few = omega (arith, length-filter_most keep t.groups, s.groups.few);
          };
      metadata = s.metadata;
      records = records_kept is k l g t.objects t.records s.records;
      rules =
          rules_kept is k l g t.objects t.rule_numbers t.sharing_rules s.rules
          (unrefused (list_any (λ r. is_from is r.source) t.sharing_rules) (DeleteFailed (codes "sharing-rules") (codes "from")) h.1.1.1.0)
          (unrefused (list_any (λ r. is r.to) t.sharing_rules) (DeleteFailed (codes "sharing-rules") (codes "to")) h.1.1.1.1.0);
      shares = shares_kept is k l g t.objects t.shares s.shares (unrefused (list_any (λ x. is x.to) t.shares) (DeleteFailed (codes "shares") (codes "to")) h.1.1.1.1.1.0);
      job = s.job;
    })

pub remove_group_formulas : (t : Tenant) → AreFormulasSound t → (group : List ℕ) → AreFormulasSound (remove_group t group).tenant
remove_group_formulas t s group = when_judged AreFormulasSound t (remove_group_rules t group) (accept done (without_group (spelled_id group) t)) s (λ _. s)
