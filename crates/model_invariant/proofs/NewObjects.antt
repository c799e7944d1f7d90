-- A new object, perhaps a detail, leaves a sound tenant.
use Rattle.std.proofs.Common.{◌≡◌, ℕ, zero, suc, ◌+◌, ◌<◌, ◌≤◌, Bool, true, false, not, ◌&&◌, ◌||◌, ◌==◌, cond, List, [], ◌∷◌, ◌++◌, map, filter, filter_map, length, Option, Some, None, refl, ap, sym, subst, ◌∙◌, eq-eqb, arith, inl, inr, bytes_eq, codes, slice_get, nat_lt}
use Rattle.std.specs.List.{AllByRecursion, cons_option, find, flat_map, list_any}
use Rattle.std.specs.Option.{option_and_then}
use Rattle.std.proofs.lemmas.Bool.{eqb-true, and_left as and_false, and_from as both, not-false as holds_not}
use Rattle.std.proofs.lemmas.Bool.Decides.{nat_tests}
use Rattle.std.proofs.lemmas.Option.{slice_get_within, same_Some as some_is}
use Rattle.std.proofs.lemmas.List.{map_push as map_last, append-nil as nil_right, length_push as length_last}
use Rattle.base_lemmas.proofs.Texts.{bytes_eq_false_sym as not_turned}
use Rattle.base_lemmas.proofs.Lists.{each_weaker as all_more}
use Rattle.base_lemmas.proofs.Numbers.{eqb-less as apart_numbers}
use Rattle.base_lemmas.proofs.Bools.{and_first as both_left, and_second as both_right, by_answer as pick}
use Rattle.base_value.specs.Texts.{lower, texts_differ}
use Rattle.model.specs.declared.limit.Limit.TheVariants as limit
use Rattle.model.specs.declared.refusal.Refusal.TheVariants as refusal
use Rattle.model.specs.Cases.{in_case}
use Rattle.model.specs.Fields.{by_parent, is_detail, is_master, same_name}
use Rattle.model.specs.Known.{known}
use Rattle.model.specs.Membership.{Has}
use Rattle.model.specs.declared.metadata_bodies.NewMaster.{NewMaster}
use Rattle.model.specs.declared.metadata_bodies.NewObject.{NewObject}
use Rattle.model.specs.Metadata.{add_object, child_name_taken, detail_level, master_field, master_names, masters_above, new_fields, new_object, no_parent, object_rules, too_deep}
use Rattle.model.specs.Names.{bad_name, is_child_name, is_custom_name, taken}
use Rattle.model.specs.Objects.{Numbered, is_of, object_named, object_number}
use Rattle.model.specs.Relationships.{Reference, master_of_object, parent_name, references, references_of, relationship_names, target_of}
use Rattle.model.specs.Rules.{MemberRules, in_body_order, over_limit, refuse_if}
use Rattle.model_invariant.proofs.SoundParts.{HasSoundParts}
use Rattle.model.specs.SoundJob.{HasSoundJob, job_field}
use Rattle.model.specs.SoundMetadata.{HasSoundMetadata, IsSoundField, IsSoundObject, names_differ}
use Rattle.model.specs.SoundRecords.{IsSoundRecord, UniqueHold}
use Rattle.model.specs.SoundSharing.{IsSoundRule, IsSoundShare, shareable}
use Rattle.model.specs.Tenant.{Field, Job, Object, Tenant}
use Rattle.model.specs.Verdict.{accept, done}
use Rattle.model_invariant.specs.Fit.{has_member, is_fit_object}
use Rattle.model_invariant.proofs.Parts.{all_at, among_kept, member_rule, none_refuses, unrefused}
use Rattle.model_invariant.proofs.Growing.{within_limit}
use Rattle.model_invariant.proofs.PeopleSound.{when_judged}
use Rattle.model_invariant.proofs.SharingSound.{named_at, numbered_from}
use Rattle.model_invariant.proofs.ContentSound.{reference_place}
use Rattle.model_invariant.proofs.DeletesSound.{among_either, sound_object}
use Rattle.model_invariant.proofs.Changes.{at_has, level_by_references, names_by_references}
use Rattle.model_invariant.proofs.UpsertsSound.{found_record}

-- ---- lists with one more at the end
module _ {A : Type 0} where
  pub in_turn : (xs ys zs : List A) → xs ++ (ys ++ zs) ≡ (xs ++ ys) ++ zs
  in_turn [] ys zs = refl
  in_turn (x ∷ xs) ys zs = ap (λ ws. x ∷ ws) (in_turn xs ys zs)

  pub get_before : (xs : List A) (x : A) (m : ℕ) (y : A) → slice_get xs m ≡ Some y → slice_get (xs ++ x ∷ []) m ≡ Some y
  get_before [] x m y e = absurd cc
  get_before (z ∷ xs) x zero y e = e
  get_before (z ∷ xs) x (suc m) y e = get_before xs x m y e

  pub filter_last : (q : A → Bool) (xs : List A) (x : A) → filter q (xs ++ x ∷ []) ≡ cond (q x) (filter q xs ++ x ∷ []) (filter q xs)
  filter_last q [] x = pick (q x) (λ b. cond b (x ∷ []) [] ≡ cond b (x ∷ []) []) (λ _. refl) (λ _. refl)
  filter_last q (y ∷ xs) x =
      let more = filter_last q xs x in
      pick (q y) (λ b. cond b (y ∷ filter q (xs ++ x ∷ [])) (filter q (xs ++ x ∷ [])) ≡ cond (q x) (cond b (y ∷ filter q xs) (filter q xs) ++ x ∷ []) (cond b (y ∷ filter q xs) (filter q xs)))
      (λ _. ap (λ ys. y ∷ ys) more ∙ pick (q x) (λ c. y ∷ cond c (filter q xs ++ x ∷ []) (filter q xs) ≡ cond c ((y ∷ filter q xs) ++ x ∷ []) (y ∷ filter q xs)) (λ _. refl) (λ _. refl))
      (λ _. more)

  filter_none : (q : A → Bool) (xs : List A) → ((x : A) → Has xs x → q x ≡ false) → filter q xs ≡ []
  filter_none q [] h = refl
  filter_none q (x ∷ xs) h = ap (λ b. cond b (x ∷ filter q xs) (filter q xs)) (h x (inl refl)) ∙ filter_none q xs (λ y m. h y (inr m))

  filter_map_last : {B : Type 0} (f : A → Option B) (xs : List A) (x : A) (y : B) → f x ≡ Some y → filter_map f (xs ++ x ∷ []) ≡ filter_map f xs ++ y ∷ []
  filter_map_last {B} f [] x y e = ap (λ o. cons_option o []) e
  filter_map_last {B} f (z ∷ xs) x y e = by (f z) (filter_map f (xs ++ x ∷ [])) (filter_map f xs) (filter_map_last f xs x y e)
    where
      by : (o : Option B) (us vs : List B) → us ≡ vs ++ y ∷ [] → cons_option o us ≡ cons_option o vs ++ y ∷ []
      by None us vs h = h
      by (Some w) us vs h = ap (λ zs. w ∷ zs) h

  find_last : (q : A → Bool) (xs : List A) (x : A) → q x ≡ false → find q (xs ++ x ∷ []) ≡ find q xs
  find_last q [] x e = ap (λ b. cond b (Some x) None) e
  find_last q (y ∷ xs) x e = ap (λ o. cond (q y) (Some y) o) (find_last q xs x e)

  find_at_last : (q : A → Bool) (xs : List A) (x : A) → ((y : A) → Has xs y → q y ≡ false) → q x ≡ true → find q (xs ++ x ∷ []) ≡ Some x
  find_at_last q [] x h e = ap (λ b. cond b (Some x) None) e
  find_at_last q (y ∷ xs) x h e = ap (λ b. cond b (Some y) (find q (xs ++ x ∷ []))) (h y (inl refl)) ∙ find_at_last q xs x (λ z m. h z (inr m)) e

-- ---- one more name
pub none_last : (x : List ℕ) (xs : List (List ℕ)) (c : List ℕ) → list_any (bytes_eq x) xs ≡ false → bytes_eq x c ≡ false → list_any (bytes_eq x) (xs ++ c ∷ []) ≡ false
none_last x [] c h e = ap (λ b. b || false) e
none_last x (y ∷ xs) c h e = by (bytes_eq x y) h (λ h. none_last x xs c h e)
  where
    by : (b : Bool) → (b || list_any (bytes_eq x) xs) ≡ false → (list_any (bytes_eq x) xs ≡ false → list_any (bytes_eq x) (xs ++ c ∷ []) ≡ false) → (b || list_any (bytes_eq x) (xs ++ c ∷ [])) ≡ false
    by true h more = absurd cc
    by false h more = more h

pub names_last : (names : List (List ℕ)) (c : List ℕ) → names_differ names ≡ true → list_any (same_name c) names ≡ false → names_differ (names ++ c ∷ []) ≡ true
names_last [] c h e = refl
names_last (x ∷ names) c h e =
    let parts = no_one (bytes_eq (lower c) (lower x)) (list_any (same_name c) names) e in
    let first = both_left (not (list_any (bytes_eq (lower x)) (map lower names))) (texts_differ (map lower names)) h in
    both (not (list_any (bytes_eq (lower x)) (map lower (names ++ c ∷ [])))) (texts_differ (map lower (names ++ c ∷ [])))
    (ap (λ zs. not (list_any (bytes_eq (lower x)) zs)) (map_last lower names c) ∙ ap not (none_last (lower x) (map lower names) (lower c) (not_so (list_any (bytes_eq (lower x)) (map lower names)) first) (not_turned (lower c) (lower x) parts.0)))
    (names_last names c (both_right (not (list_any (bytes_eq (lower x)) (map lower names))) (texts_differ (map lower names)) h) parts.1)
  where
    no_one : (a b : Bool) → (a || b) ≡ false → (a ≡ false) × (b ≡ false)
    no_one true b e = absurd cc
    no_one false b e = (refl, e)

    not_so : (b : Bool) → not b ≡ true → b ≡ false
    not_so true e = absurd cc
    not_so false e = refl

-- ---- objects with one more at the end
all_numbered : (P : Numbered → Type 0) (k : ℕ) (os : List Object) (x : Object) → AllByRecursion P (numbered_from k os) → P (record { number = k + length os; object = x }) → AllByRecursion P (numbered_from k (os ++ x ∷ []))
all_numbered P k [] x a p = let none : k + 0 ≡ k = omega arith in (subst (λ (n : ℕ). P (record { number = n; object = x })) none p, tt)
all_numbered P k (y ∷ os) x a p = let same : k + suc (length os) ≡ k + 1 + length os = omega arith in (a.0, all_numbered P (k + 1) os x a.1 (subst (λ (n : ℕ). P (record { number = n; object = x })) same p))

refs_last : (k : ℕ) (os : List Object) (x : Object) → flat_map references_of (numbered_from k (os ++ x ∷ [])) ≡ flat_map references_of (numbered_from k os) ++ references_of (record { number = k + length os; object = x })
refs_last k [] x = let none : k ≡ k + 0 = omega arith in nil_right (references_of (record { number = k; object = x })) ∙ ap (λ (n : ℕ). references_of (record { number = n; object = x })) none
refs_last k (y ∷ os) x =
    let same : k + 1 + length os ≡ k + suc (length os) = omega arith in
    let own = references_of (record { number = k; object = y }) in
    let rest = flat_map references_of (numbered_from (k + 1) os) in
    ap (λ (rs : List Reference). own ++ rs) (refs_last (k + 1) os x ∙ ap (λ (n : ℕ). rest ++ references_of (record { number = n; object = x })) same) ∙ in_turn own rest (references_of (record { number = k + suc (length os); object = x }))

-- where a reference is at home
home : (k : ℕ) (os : List Object) (f : Reference) → Has (flat_map references_of (numbered_from k os)) f → (i : ℕ) × (o : Object) × (f.object ≡ k + i) × (slice_get os i ≡ Some o) × Has (references_of (record { number = k + i; object = o })) f
home k [] f m = absurd m
home k (x ∷ os) f m =
    elim (among_either (references_of (record { number = k; object = x })) (flat_map references_of (numbered_from (k + 1) os)) f m) [
      | inl a ↦
          let none : k ≡ k + 0 = omega arith in
          let here_is = subst (λ (n : ℕ). Has (references_of (record { number = n; object = x })) f) none a in
          (0, x, (reference_place (record { number = k + 0; object = x }) f here_is).object, refl, here_is)
      | inr b ↦
          let r = home (k + 1) os f b in
          let same : k + 1 + r.0 ≡ k + suc r.0 = omega arith in
          (suc r.0, r.1, r.2 ∙ same, r.3, subst (λ (n : ℕ). Has (references_of (record { number = n; object = r.1 })) f) same r.4)
    ]

module _ (t : Tenant) (s : HasSoundParts t) (x : Object) where
  abbrev os : List Object
  os = t.objects

  abbrev now : List Object
  now = os ++ x ∷ []

  extends : (m : ℕ) (o : Object) → slice_get os m ≡ Some o → slice_get now m ≡ Some o
  extends m o e = get_before os x m o e

  -- ---- all but the metadata
  shareable_over : (m : ℕ) → shareable os m ≡ true → shareable now m ≡ true
  shareable_over m h = by (slice_get os m) refl h
    where
      by : (z : Option Object) → slice_get os m ≡ z → in_case z false (λ o. not (is_detail o)) ≡ true → shareable now m ≡ true
      by None e h = absurd cc
      by (Some o) e h = ap (λ z. in_case z false (λ (o : Object). not (is_detail o))) (extends m o e) ∙ h

  unique_over : UniqueHold now t.records
  unique_over m place p f e g u r q a b null same =
      let w = among_kept (is_of m) t.records r a in
      let was = all_at (IsSoundRecord (known t) os) r t.records s.records.each w.0 in
      let there_is : slice_get os m ≡ Some was.object = ap (slice_get os) (sym (eqb-true (object_number r.id) m w.1)) ∙ was.there in
      let object : was.object ≡ p = some_is was.object p (sym (extends m was.object there_is) ∙ e) in
      s.records.unique m place was.object f there_is (ap (λ (z : Object). slice_get z.fields place) object ∙ g) u r q a b null same

  job_over : (job : Option Job) → HasSoundJob t.counter os t.records job → HasSoundJob t.counter now t.records job
  job_over None h = tt
  job_over (Some j) h =
      record {
        field = h.field;
        there = by (slice_get os j.object) refl h.there;
        change = h.change;
        cursor = h.cursor;
        failed = h.failed;
        open_in_copy = h.open_in_copy;
        failed_where = h.failed_where;
        copied = h.copied;
      }
    where
      by : (z : Option Object) → slice_get os j.object ≡ z → option_and_then (λ (o : Object). slice_get o.fields j.field) z ≡ Some h.field → job_field now j ≡ Some h.field
      by None w g = absurd cc
      by (Some o) w g = ap (option_and_then (λ (o : Object). slice_get o.fields j.field)) (extends j.object o w) ∙ g

  object_added : HasSoundMetadata now → HasSoundParts (record t { objects = now })
  object_added metadata =
      record {
        name = s.name;
        counter = s.counter;
        numbers = s.numbers;
        users = s.users;
        roles = s.roles;
        groups = s.groups;
        metadata = metadata;
        records =
            record {
              each = all_more (IsSoundRecord (known t) os) (IsSoundRecord (known t) now) (λ r h.
                  record { object = h.object; there = extends (object_number r.id) h.object h.there; number = h.number; drawn = h.drawn; id = h.id; owner = h.owner; created = h.created; modified = h.modified; values = h.values; references = h.references }) t.records s.records.each;
              rise = s.records.rise;
              unique = unique_over;
              few = s.records.few;
              few_of = s.records.few_of;
            };
        rules =
            record {
              each = all_more (IsSoundRule (known t) os t.rule_numbers) (IsSoundRule (known t) now t.rule_numbers) (λ r h.
                  record { name = h.name; object = shareable_over r.object h.object; number = h.number; source = h.source; to = h.to; level = h.level; cursor = h.cursor }) t.sharing_rules s.rules.each;
              rise = s.rules.rise;
              numbers = s.rules.numbers;
              few = s.rules.few;
              few_drawn = s.rules.few_drawn;
            };
        shares =
            record {
              each = all_more (IsSoundShare (known t) os) (IsSoundShare (known t) now) (λ y h. record { item = h.item; object = shareable_over (object_number y.item) h.object; to = h.to; level = h.level }) t.shares s.shares.each;
              rise = s.shares.rise;
              few = s.shares.few;
            };
        job = job_over t.job s.job;
      }

  -- ---- the references that were there
  old_ends : (f : Reference) → Has (references os) f → (f.object < length os) × (f.target < length os)
  old_ends f m =
      let r = home 0 os f m in
      let number : f.object ≡ r.0 = r.2 ∙ omega arith in
      let w = slice_get_within os r.0 r.1 r.3 in
      let place = reference_place (record { number = 0 + r.0; object = r.1 }) f r.4 in
      let field = all_at (IsSoundField (length os)) f.field r.1.fields (sound_object t s r.0 r.1 r.3).fields (at_has place.place r.1.fields f.field place.field) in
      let low = sym (ap (λ z. in_case z true (λ k. nat_lt k (length os))) place.target) ∙ field.target in
      (omega (arith, number, w), grind (arith, nat_tests))

  fields_over : (o : Object) → AllByRecursion (IsSoundField (length os)) o.fields → AllByRecursion (IsSoundField (length now)) o.fields
  fields_over o a =
      all_more (IsSoundField (length os)) (IsSoundField (length now)) (λ f h.
      record { name = h.name; kind = h.kind; target = by (target_of f.kind) h.target; required = h.required; unique = h.unique; indexed = h.indexed; child = h.child; child_name = h.child_name }) o.fields a
    where
      more : (k n m : ℕ) → n ≤ m → nat_lt k n ≡ true → nat_lt k m ≡ true
      more k n m h e = grind (arith, nat_tests)

      by : (z : Option ℕ) → in_case z true (λ k. nat_lt k (length os)) ≡ true → in_case z true (λ k. nat_lt k (length now)) ≡ true
      by None e = refl
      by (Some k) e = let one = length_last os x in more k (length os) (length now) (omega (arith, one)) e

  -- an old object with its relationships and its level as they are now
  lift : (o : Numbered) → names_differ (relationship_names now o.number) ≡ true → masters_above 4 now o.number ≤ 3 → IsSoundObject os o → IsSoundObject now o
  lift o relations level h =
      record {
        name = h.name;
        fields = fields_over o.object h.fields;
        field_names = h.field_names;
        relations = relations;
        master = h.master;
        hierarchy = h.hierarchy;
        level = level;
        rules = h.rules;
        rules_rise = h.rules_rise;
        few_fields = h.few_fields;
        few_rules = h.few_rules;
      }

  -- with each old object's relationships and levels, and the new object, all are sound
  metadata_added : length now ≤ 100 → list_any (same_name x.name) (map (λ (o : Object). o.name) os) ≡ false
      → ((m : ℕ) → m < length os → names_differ (relationship_names os m) ≡ true → names_differ (relationship_names now m) ≡ true)
      → ((m : ℕ) → m < length os → masters_above 4 now m ≡ masters_above 4 os m)
      → IsSoundObject now (record { number = length os; object = x }) → HasSoundMetadata now
  metadata_added few free names levels new =
      let none : 0 + length os ≡ length os = omega arith in
      record {
        objects =
            all_numbered (IsSoundObject now) 0 os x (each 0 os (λ o k. omega (arith, k)) s.metadata.objects)
            (subst (λ (n : ℕ). IsSoundObject now (record { number = n; object = x })) (sym none) new);
        names = ap names_differ (map_last (λ (o : Object). o.name) os x) ∙ names_last (map (λ (o : Object). o.name) os) x.name s.metadata.names free;
        few = few;
      }
    where
      each : (k : ℕ) (ps : List Object) → ((m : ℕ) → m < k + length ps → m < length os) → AllByRecursion (IsSoundObject os) (numbered_from k ps) → AllByRecursion (IsSoundObject now) (numbered_from k ps)
      each k [] h a = tt
      each k (p ∷ ps) h a =
          let low : k < length os = h k (omega arith) in
          let level = a.0.level in (
            lift (record { number = k; object = p }) (names k low a.0.relations) (subst (λ (n : ℕ). n ≤ 3) (sym (levels k low)) level) a.0,
            each (k + 1) ps (λ m w. h m (omega (arith, w))) a.1,
          )

find_none : {A : Type 0} (q : A → Bool) (xs : List A) → ((x : A) → Has xs x → q x ≡ false) → find q xs ≡ None
find_none q [] h = refl
find_none q (x ∷ xs) h = ap (λ b. cond b (Some x) (find q xs)) (h x (inl refl)) ∙ find_none q xs (λ y m. h y (inr m))

-- ---- no detail
module _ (t : Tenant) (s : HasSoundParts t) (b : NewObject) where
  abbrev plain : Object
  plain = record { name = b.name; access = b.access; hierarchy = b.hierarchy; fields = []; validation_rules = [] }

  abbrev n : ℕ
  n = length t.objects

  -- nothing refers to what isn't there yet, and nothing of it refers
  none_from : filter (λ (f : Reference). f.object == n) (references t.objects) ≡ []
  none_from = filter_none (λ (f : Reference). f.object == n) (references t.objects) (λ f m. apart_numbers f.object n (old_ends t s plain f m).0)

  none_to : filter (λ (f : Reference). f.target == n) (references t.objects) ≡ []
  none_to = filter_none (λ (f : Reference). f.target == n) (references t.objects) (λ f m. apart_numbers f.target n (old_ends t s plain f m).1)

  none_above : find (λ (f : Reference). (f.object == n) && is_master f.field.kind) (references t.objects) ≡ None
  none_above = find_none (λ (f : Reference). (f.object == n) && is_master f.field.kind) (references t.objects) (λ f m. and_false (f.object == n) (is_master f.field.kind) (apart_numbers f.object n (old_ends t s plain f m).0))

  plain_added : n + 1 ≤ 100 → list_any (same_name b.name) (map (λ (o : Object). o.name) t.objects) ≡ false → is_custom_name b.name ≡ true → by_parent b.access ≡ false → HasSoundParts (record t { objects = t.objects ++ plain ∷ [] })
  plain_added few free name access =
      let now = t.objects ++ plain ∷ [] in
      object_added t s plain
      (metadata_added t s plain (omega (arith, few, length_last t.objects plain)) free (λ m low h. ap names_differ (names_by_references t.objects now same m) ∙ h) (λ m low. level_by_references t.objects now same 4 m)
      (record {
        name = name;
        fields = tt;
        field_names = refl;
        relations =
            ap names_differ (names_by_references t.objects now same n
            ∙ ap (λ (rs : List Reference). map (λ (f : Reference). parent_name f.field.name) rs ++ filter_map (λ (f : Reference). f.field.child) (filter (λ (f : Reference). f.target == n) (references t.objects))) none_from
            ∙ ap (λ (rs : List Reference). filter_map (λ (f : Reference). f.field.child) rs) none_to);
        master = sym (ap (λ b. cond b 1 0) access);
        hierarchy = ap (λ c. not c || b.hierarchy) access;
        level = subst (λ (k : ℕ). k ≤ 3) (sym (level_by_references t.objects now same 4 n ∙ ap (λ z. in_case z 0 (λ (f : Reference). suc (masters_above 3 t.objects f.target))) none_above)) (omega arith);
        rules = tt;
        rules_rise = tt;
        few_fields = omega arith;
        few_rules = omega arith;
      }))
    where
      same : references (t.objects ++ plain ∷ []) ≡ references t.objects
      same = refs_last 0 t.objects plain ∙ nil_right (references t.objects)

  -- ---- a detail
  module _ (m : NewMaster) (p : Numbered) (at : slice_get t.objects p.number ≡ Some p.object) where
    abbrev own : Field
    own = master_field m p

    abbrev detail : Object
    detail = record { name = b.name; access = b.access; hierarchy = b.hierarchy; fields = own ∷ []; validation_rules = [] }

    abbrev later : List Object
    later = t.objects ++ detail ∷ []

    abbrev r : Reference
    r = record { object = n; position = 1; field = own; target = p.number }

    low : p.number < n
    low = slice_get_within t.objects p.number p.object at

    more : references later ≡ references t.objects ++ r ∷ []
    more = let none : 0 + n ≡ n = omega arith in refs_last 0 t.objects detail ∙ ap (λ (k : ℕ). references t.objects ++ references_of (record { number = k; object = detail })) none

    -- an object's own references are as they were
    from_old : (k : ℕ) → k < n → filter (λ (f : Reference). f.object == k) (references later) ≡ filter (λ (f : Reference). f.object == k) (references t.objects)
    from_old k h =
        ap (λ (rs : List Reference). filter (λ (f : Reference). f.object == k) rs) more ∙ filter_last (λ (f : Reference). f.object == k) (references t.objects) r
        ∙ ap (λ b. cond b (filter (λ (f : Reference). f.object == k) (references t.objects) ++ r ∷ []) (filter (λ (f : Reference). f.object == k) (references t.objects))) (turned n k h)
      where
        turned : (a b : ℕ) → b < a → (a == b) ≡ false
        turned a b h = grind (arith, nat_tests)

    to_old : (k : ℕ) → filter (λ (f : Reference). f.target == k) (references later)
        ≡ cond (p.number == k) (filter (λ (f : Reference). f.target == k) (references t.objects) ++ r ∷ []) (filter (λ (f : Reference). f.target == k) (references t.objects))
    to_old k = ap (λ (rs : List Reference). filter (λ (f : Reference). f.target == k) rs) more ∙ filter_last (λ (f : Reference). f.target == k) (references t.objects) r

    above_old : (k : ℕ) → k < n → master_of_object later k ≡ master_of_object t.objects k
    above_old k h =
        ap (find (λ (f : Reference). (f.object == k) && is_master f.field.kind)) more
        ∙ find_last (λ (f : Reference). (f.object == k) && is_master f.field.kind) (references t.objects) r (and_false (n == k) true (turned n k h))
      where
        turned : (a b : ℕ) → b < a → (a == b) ≡ false
        turned a b h = grind (arith, nat_tests)

    levels_old : (i k : ℕ) → k < n → masters_above i later k ≡ masters_above i t.objects k
    levels_old zero k h = refl
    levels_old (suc i) k h =
        ap (λ z. in_case z 0 (λ (f : Reference). suc (masters_above i later f.target))) (above_old k h) ∙ by (master_of_object t.objects k) refl (levels_old i)
      where
        by : (z : Option Reference) → master_of_object t.objects k ≡ z → ((k : ℕ) → k < n → masters_above i later k ≡ masters_above i t.objects k)
            → in_case z 0 (λ (f : Reference). suc (masters_above i later f.target)) ≡ in_case z 0 (λ (f : Reference). suc (masters_above i t.objects f.target))
        by None e g = refl
        by (Some f) e g = ap suc (g f.target (old_ends t s detail f (found_record (λ (f : Reference). (f.object == k) && is_master f.field.kind) (references t.objects) f e)).1)

    abbrev parents : ℕ → List (List ℕ)
    parents k = map (λ (f : Reference). parent_name f.field.name) (filter (λ (f : Reference). f.object == k) (references t.objects))

    abbrev children : ℕ → List (List ℕ)
    children k = filter_map (λ (f : Reference). f.field.child) (filter (λ (f : Reference). f.target == k) (references t.objects))

    names_old : list_any (same_name m.child) (relationship_names t.objects p.number) ≡ false → (k : ℕ) → k < n → names_differ (relationship_names t.objects k) ≡ true → names_differ (relationship_names later k) ≡ true
    names_old free k h good =
        ap names_differ (
        ap (λ (rs : List Reference). map (λ (f : Reference). parent_name f.field.name) rs ++ filter_map (λ (f : Reference). f.field.child) (filter (λ (f : Reference). f.target == k) (references later))) (from_old k h)
        ∙ ap (λ (rs : List Reference). parents k ++ filter_map (λ (f : Reference). f.field.child) rs) (to_old k))
        ∙ by (p.number == k) refl
      where
        by : (c : Bool) → (p.number == k) ≡ c
            → names_differ (parents k ++ filter_map (λ (f : Reference). f.field.child) (cond c (filter (λ (f : Reference). f.target == k) (references t.objects) ++ r ∷ []) (filter (λ (f : Reference). f.target == k) (references t.objects)))) ≡ true
        by false e = good
        by true e =
            ap (λ zs. names_differ (parents k ++ zs)) (filter_map_last (λ (f : Reference). f.field.child) (filter (λ (f : Reference). f.target == k) (references t.objects)) r m.child refl)
            ∙ ap names_differ (in_turn (parents k) (children k) (m.child ∷ []))
            ∙ names_last (relationship_names t.objects k) m.child good (ap (λ (z : ℕ). list_any (same_name m.child) (relationship_names t.objects z)) (sym (eqb-true p.number k e)) ∙ free)

    -- one step up counts one master at most
    masters_more : (i k : ℕ) → masters_above i t.objects k ≤ masters_above (suc i) t.objects k
    masters_more zero k = omega arith
    masters_more (suc i) k = by (master_of_object t.objects k) (masters_more i)
      where
        by : (z : Option Reference) → ((k : ℕ) → masters_above i t.objects k ≤ masters_above (suc i) t.objects k)
            → in_case z 0 (λ (f : Reference). suc (masters_above i t.objects f.target)) ≤ in_case z 0 (λ (f : Reference). suc (masters_above (suc i) t.objects f.target))
        by None g = omega arith
        by (Some f) g = let w = g f.target in omega (arith, w)

    own_level : masters_above 4 later n ≡ suc (masters_above 3 t.objects p.number)
    own_level =
        ap (λ z. in_case z 0 (λ (f : Reference). suc (masters_above 3 later f.target)))
        (ap (find (λ (f : Reference). (f.object == n) && is_master f.field.kind)) more
        ∙ find_at_last (λ (f : Reference). (f.object == n) && is_master f.field.kind) (references t.objects) r
        (λ f w. and_false (f.object == n) (is_master f.field.kind) (apart_numbers f.object n (old_ends t s detail f w).0))
        (both (n == n) true (eq-eqb n n refl) refl))
        ∙ ap suc (levels_old 3 p.number low)

    own_names : relationship_names later n ≡ parent_name m.field ∷ []
    own_names =
        ap (λ (rs : List Reference). map (λ (f : Reference). parent_name f.field.name) rs ++ filter_map (λ (f : Reference). f.field.child) (filter (λ (f : Reference). f.target == n) (references later)))
        (ap (λ (rs : List Reference). filter (λ (f : Reference). f.object == n) rs) more ∙ filter_last (λ (f : Reference). f.object == n) (references t.objects) r
        ∙ ap (λ b. cond b (filter (λ (f : Reference). f.object == n) (references t.objects) ++ r ∷ []) (filter (λ (f : Reference). f.object == n) (references t.objects))) (eq-eqb n n refl)
        ∙ ap (λ (rs : List Reference). rs ++ r ∷ []) none_from)
        ∙ ap (λ (rs : List Reference). parent_name m.field ∷ filter_map (λ (f : Reference). f.field.child) rs)
        (to_old n ∙ ap (λ b. cond b (filter (λ (f : Reference). f.target == n) (references t.objects) ++ r ∷ []) (filter (λ (f : Reference). f.target == n) (references t.objects))) (apart_numbers p.number n low) ∙ none_to)

    detail_added : n + 1 ≤ 100 → list_any (same_name b.name) (map (λ (o : Object). o.name) t.objects) ≡ false → is_custom_name b.name ≡ true → by_parent b.access ≡ true → b.hierarchy ≡ true
        → is_custom_name m.field ≡ true → is_child_name m.child ≡ true → list_any (same_name m.child) (relationship_names t.objects p.number) ≡ false → detail_level t.objects p.number + 1 ≤ 3
        → HasSoundParts (record t { objects = later })
    detail_added few free name access hierarchy field child child_free deep =
        object_added t s detail
        (metadata_added t s detail (omega (arith, few, length_last t.objects detail)) free (names_old child_free) (λ k h. levels_old 4 k h)
        (record {
          name = name;
          fields = (
            record {
              name = field;
              kind = refl;
              target = within p.number (length later) (omega (arith, low, length_last t.objects detail));
              required = refl;
              unique = refl;
              indexed = refl;
              child = refl;
              child_name = child;
            },
            tt,
          );
          field_names = refl;
          relations = ap names_differ own_names;
          master = sym (ap (λ b. cond b 1 0) access);
          hierarchy = ap (λ c. not (by_parent b.access) || c) hierarchy ∙ last_true (not (by_parent b.access));
          level = let w = masters_more 3 p.number in subst (λ (k : ℕ). k ≤ 3) (sym own_level) (omega (arith, w, deep));
          rules = tt;
          rules_rise = tt;
          few_fields = omega arith;
          few_rules = omega arith;
        }))
      where
        within : (a b : ℕ) → a < b → nat_lt a b ≡ true
        within a b h = grind (arith, nat_tests)

        last_true : (c : Bool) → (c || true) ≡ true
        last_true true = refl
        last_true false = refl

-- ---- the request
pub add_object_sound : (t : Tenant) (b : NewObject) → is_fit_object b ≡ true → HasSoundParts t → HasSoundParts (add_object t b).tenant
add_object_sound t b fit s =
    when_judged HasSoundParts t (object_rules t b) (accept done (record t { objects = t.objects ++ new_object t b ∷ [] })) s (λ h.
    let named = both_left (has_member b.members (codes "name")) _ fit in
    let limits = none_refuses (refuse_if (nat_lt 100 (length t.objects + 1)) (refusal.LimitExceeded limit.Objects) ∷ []) h.1.1.1.0 in
    let few = within_limit 100 (length t.objects + 1) (refusal.LimitExceeded limit.Objects) limits.0 in
    by b.master (both_right (has_member b.members (codes "name")) _ fit) named few h.0 h.1.0 h.1.1.0 h.1.1.1.1.0)
  where
    names : Option NewMaster → MemberRules
    names master = (codes "name", bad_name is_custom_name b.name) ∷ in_case master [] master_names

    free_names : Option NewMaster → MemberRules
    free_names master = (codes "name", taken (map (λ (o : Object). o.name) t.objects) b.name) ∷ (codes "child", in_case master None (child_name_taken t)) ∷ []

    custom : (is_good : List ℕ → Bool) (name : List ℕ) → bad_name is_good name ≡ None → is_good name ≡ true
    custom is_good name e = holds_not (is_good name) (unrefused (not (is_good name)) (refusal.InvalidName name) e)

    untaken : (others : List (List ℕ)) (name : List ℕ) → taken others name ≡ None → list_any (same_name name) others ≡ false
    untaken others name e = unrefused (list_any (same_name name) others) (refusal.NameTaken name) e

    by : (master : Option NewMaster) → in_case master (not (by_parent b.access)) (λ m. by_parent b.access && (b.hierarchy && (has_member b.members (codes "field") && has_member b.members (codes "child")))) ≡ true
        → has_member b.members (codes "name") ≡ true → length t.objects + 1 ≤ 100
        → in_body_order b.members ((codes "name", bad_name is_custom_name b.name) ∷ in_case master [] master_names) ≡ None
        → in_body_order b.members ((codes "name", taken (map (λ (o : Object). o.name) t.objects) b.name) ∷ (codes "child", in_case master None (child_name_taken t)) ∷ []) ≡ None
        → in_case master None (no_parent t) ≡ None → in_case master None (too_deep t) ≡ None
        → HasSoundParts (record t { objects = t.objects ++ record { name = b.name; access = b.access; hierarchy = b.hierarchy; fields = new_fields t master; validation_rules = [] } ∷ [] })
    by None access named few good free parent deep =
        plain_added t s b few (untaken (map (λ (o : Object). o.name) t.objects) b.name (member_rule (free_names None) b.members (codes "name") free named))
        (custom is_custom_name b.name (member_rule (names None) b.members (codes "name") good named))
        (not_so (by_parent b.access) access)
      where
        not_so : (c : Bool) → not c ≡ true → c ≡ false
        not_so true e = absurd cc
        not_so false e = refl
    by (Some m) access named few good free parent deep = found (object_named t m.parent) refl parent deep
      where
        said : b.hierarchy && (has_member b.members (codes "field") && has_member b.members (codes "child")) ≡ true
        said = both_right (by_parent b.access) (b.hierarchy && (has_member b.members (codes "field") && has_member b.members (codes "child"))) access

        members : has_member b.members (codes "field") && has_member b.members (codes "child") ≡ true
        members = both_right b.hierarchy (has_member b.members (codes "field") && has_member b.members (codes "child")) said

        child_rule : child_name_taken t m ≡ None
        child_rule = member_rule (free_names (Some m)) b.members (codes "child") free (both_right (has_member b.members (codes "field")) (has_member b.members (codes "child")) members)

        found : (p : Option Numbered) → object_named t m.parent ≡ p → in_case p (Some (refusal.InvalidType m.parent)) (λ o. None) ≡ None → too_deep t m ≡ None
            → HasSoundParts (record t { objects = t.objects ++ record { name = b.name; access = b.access; hierarchy = b.hierarchy; fields = in_case (object_named t m.parent) [] (λ o. master_field m o ∷ []); validation_rules = [] } ∷ [] })
        found None e parent deep = absurd cc
        found (Some p) e parent deep =
            let is_child = custom is_child_name m.child (member_rule (names (Some m)) b.members (codes "child") good (both_right (has_member b.members (codes "field")) (has_member b.members (codes "child")) members)) in
            let is_field = custom is_custom_name m.field (member_rule (names (Some m)) b.members (codes "field") good (both_left (has_member b.members (codes "field")) (has_member b.members (codes "child")) members)) in
            let child_free = untaken (relationship_names t.objects p.number) m.child (ap (λ z. in_case z None (λ o. taken (relationship_names t.objects o.number) m.child)) (sym e) ∙ child_rule) in
            let depth = none_refuses (refuse_if (nat_lt 3 (detail_level t.objects p.number + 1)) (refusal.LimitExceeded limit.DetailLevels) ∷ []) (ap (λ z. in_case z None (λ (o : Numbered). over_limit ((limit.DetailLevels, detail_level t.objects o.number + 1) ∷ []))) (sym e) ∙ deep) in
            subst (λ z. HasSoundParts (record t { objects = t.objects ++ record { name = b.name; access = b.access; hierarchy = b.hierarchy; fields = in_case z [] (λ (o : Numbered). master_field m o ∷ []); validation_rules = [] } ∷ [] })) (sym e)
            (detail_added t s b m p (named_at t m.parent p e) few
            (untaken (map (λ (o : Object). o.name) t.objects) b.name (member_rule (free_names (Some m)) b.members (codes "name") free named))
            (custom is_custom_name b.name (member_rule (names (Some m)) b.members (codes "name") good named))
            (both_left (by_parent b.access) (b.hierarchy && (has_member b.members (codes "field") && has_member b.members (codes "child"))) access)
            (both_left b.hierarchy (has_member b.members (codes "field") && has_member b.members (codes "child")) said)
            is_field is_child child_free
            (within_limit 3 (detail_level t.objects p.number + 1) (refusal.LimitExceeded limit.DetailLevels) depth.0))
