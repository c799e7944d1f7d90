-- Another access of an object, or other validation rules: its fields stay, and so all that speaks of them.
use Rattle.std.proofs.Common.{unwrap_or, ◌≡◌, ℕ, zero, suc, ◌+◌, ◌≤◌, nat_le, Bool, true, false, not, ◌||◌, cond, List, [], ◌∷◌, ◌++◌, map, length, filter, Option, Some, None, refl, ap, sym, subst, ◌∙◌, arith, slice_get, nat_lt, Equal}
use Rattle.model_invariant.specs.Fit.{is_fit_object_change, is_fit_validation}
use Rattle.std.specs.Str.{all_scalars}
use Rattle.std.specs.List.{AllByRecursion, flat_map, list_any}
use Rattle.std.specs.Option.{option_and_then}
use Rattle.std.specs.Cmp.Lexicographic.{on_texts}
use Rattle.std.proofs.lemmas.Bool.{eqb-true, and_from as both, true≢false as clash, not-false as holds_not}
use Rattle.std.proofs.lemmas.Option.{same_Some as some_is}
use Rattle.base_lemmas.proofs.Lists.{each-filter as all_kept, each_weaker as all_more, length-filter_most as length_kept}
use Rattle.base_lemmas.proofs.Bools.{and_first as both_left, and_second as both_right}
use Rattle.base_value.specs.Texts.{lower}
use Rattle.base_value.specs.declared.sharing.Access.{Access}
use Rattle.model.specs.Limits.{formula_limit}
use Rattle.model.specs.declared.limit.Limit.TheVariants as limit
use Rattle.model.specs.declared.record.Record.{Record}
use Rattle.model.specs.declared.refusal.Refusal.TheVariants as refusal
use Rattle.model.specs.Cases.{in_case}
use Rattle.model.specs.Fields.{by_parent, is_detail, is_master, same_name}
use Rattle.model.specs.Known.{known}
use Rattle.model.specs.declared.metadata_bodies.ObjectChange.{ObjectChange}
use Rattle.model.specs.Metadata.{changed_object, set_object}
use Rattle.model.specs.Names.{is_stem}
use Rattle.model.specs.Objects.{Numbered, change_at, is_of, object_number, with_object_changed}
use Rattle.model.specs.Ordered.{put_in}
use Rattle.model.specs.Relationships.{Reference, references_of}
use Rattle.model.specs.RuleFormulas.{name_cmp}
use Rattle.model.specs.Rules.{refuse_if}
use Rattle.model_invariant.proofs.SoundParts.{HasSoundParts}
use Rattle.model.specs.SoundJob.{HasSoundJob, job_field}
use Rattle.model.specs.SoundMetadata.{IsSoundField, IsSoundObject, IsSoundValidation, masters, names_differ}
use Rattle.model.specs.SoundPeople.{is_name}
use Rattle.model.specs.SoundRecords.{IsSoundRecord, UniqueHold}
use Rattle.model.specs.SoundSharing.{IsSoundRule, IsSoundShare, shareable}
use Rattle.model.specs.Tenant.{Field, Job, Object, Tenant, ValidationRule}
use Rattle.model.specs.declared.metadata_bodies.NewValidationRule.{NewValidationRule}
use Rattle.model.specs.ValidationRules.{add_validation_rule, new_validation_rule_rules, remove_validation_rule, validation_of, with_validation_rule, without_validation_rule}
use Rattle.model.specs.Verdict.{accept, done, judged}
use Rattle.model_invariant.proofs.Parts.{all_at, all_put, among_kept, length_put, none_refuses, none_so, unrefused}
use Rattle.model_invariant.proofs.Orders.{rise_kept, rise_put}
use Rattle.model_invariant.proofs.Growing.{within_limit}
use Rattle.model_invariant.proofs.Changes.{length_changed, level_by_references, map_changed, names_by_references}
use Rattle.model_invariant.proofs.PeopleSound.{when_judged}
use Rattle.model_invariant.proofs.SharingSound.{numbered_from, tied_names, when_object}
use Rattle.model_invariant.proofs.RuleTexts.{short_text}

module _ (A : Object → Access) (H : Object → Bool) (R : Object → List ValidationRule) where
  abbrev pub change : Object → Object
  change o = record o { access = A o; hierarchy = H o; validation_rules = R o }

  -- the object, changed or not
  abbrev pub or_not : Bool → Object → Object
  or_not b o = record o { access = cond b (A o) o.access; hierarchy = cond b (H o) o.hierarchy; validation_rules = cond b (R o) o.validation_rules }

  pub changed_at : (n : ℕ) (os : List Object) (m : ℕ) (o : Object) → slice_get os m ≡ Some o → (b : Bool) × (slice_get (change_at n change os) m ≡ Some (or_not b o)) × (b ≡ true → m ≡ n)
  changed_at n [] m o e = absurd cc
  changed_at zero (x ∷ os) zero o e = (true, ap (λ (z : Object). Some (change z)) (some_is x o e), λ _. refl)
  changed_at zero (x ∷ os) (suc m) o e = (false, e, λ h. absurd cc)
  changed_at (suc n) (x ∷ os) zero o e = (false, e, λ h. absurd cc)
  changed_at (suc n) (x ∷ os) (suc m) o e = let r = changed_at n os m o e in (r.0, r.1, λ h. ap suc (r.2 h))

  refs_same : (k n : ℕ) (os : List Object) → flat_map references_of (numbered_from k (change_at n change os)) ≡ flat_map references_of (numbered_from k os)
  refs_same k n [] = refl
  refs_same k zero (x ∷ os) = refl
  refs_same k (suc n) (x ∷ os) = ap (λ (rs : List Reference). references_of (record { number = k; object = x }) ++ rs) (refs_same (k + 1) n os)

  module _ (t : Tenant) (s : HasSoundParts t) (n : ℕ) where
    abbrev os : List Object
    os = t.objects

    abbrev now : List Object
    now = change_at n change os

    lift : (o : Numbered) → IsSoundObject os o → IsSoundObject now o
    lift o x =
        record {
          name = x.name;
          fields = subst (λ (k : ℕ). AllByRecursion (IsSoundField k) o.object.fields) (sym (length_changed change n os)) x.fields;
          field_names = x.field_names;
          relations = ap names_differ (names_by_references os now (refs_same 0 n os) o.number) ∙ x.relations;
          master = x.master;
          hierarchy = x.hierarchy;
          level = subst (λ (k : ℕ). k ≤ 3) (sym (level_by_references os now (refs_same 0 n os) 4 o.number)) x.level;
          rules = x.rules;
          rules_rise = x.rules_rise;
          few_fields = x.few_fields;
          few_rules = x.few_rules;
        }

    module _ (good : (m : ℕ) (o : Object) → slice_get os n ≡ Some o → IsSoundObject os (record { number = m; object = o }) → IsSoundObject os (record { number = m; object = change o })) where
      objects_sound : (k i : ℕ) (xs : List Object) → ((m : ℕ) (o : Object) → slice_get xs i ≡ Some o → IsSoundObject os (record { number = m; object = o }) → IsSoundObject os (record { number = m; object = change o }))
          → AllByRecursion (IsSoundObject os) (numbered_from k xs) → AllByRecursion (IsSoundObject now) (numbered_from k (change_at i change xs))
      objects_sound k i [] g h = tt
      objects_sound k zero (x ∷ xs) g h = (lift (record { number = k; object = change x }) (g k x refl h.0), all_more (IsSoundObject os) (IsSoundObject now) lift (numbered_from (k + 1) xs) h.1)
      objects_sound k (suc i) (x ∷ xs) g h = (lift (record { number = k; object = x }) h.0, objects_sound (k + 1) i xs g h.1)

      record_over : (r : Record) → IsSoundRecord (known t) os r → IsSoundRecord (known t) now r
      record_over r x =
          let c = changed_at n os (object_number r.id) x.object x.there in
          record { object = or_not c.0 x.object; there = c.1; number = x.number; drawn = x.drawn; id = x.id; owner = x.owner; created = x.created; modified = x.modified; values = x.values; references = x.references }

      unique_over : UniqueHold now t.records
      unique_over m place p f e g u x y a b null same =
          let w = among_kept (is_of m) t.records x a in
          let was = all_at (IsSoundRecord (known t) os) x t.records s.records.each w.0 in
          let there_is : slice_get os m ≡ Some was.object = ap (slice_get os) (sym (eqb-true (object_number x.id) m w.1)) ∙ was.there in
          let c = changed_at n os m was.object there_is in
          let object : or_not c.0 was.object ≡ p = some_is (or_not c.0 was.object) p (sym c.1 ∙ e) in
          s.records.unique m place was.object f there_is (ap (λ (z : Object). slice_get z.fields place) object ∙ g) u x y a b null same

      shareable_over : (m : ℕ) → shareable os m ≡ true → shareable now m ≡ true
      shareable_over m h = by (slice_get os m) refl h
        where
          by : (z : Option Object) → slice_get os m ≡ z → in_case z false (λ o. not (is_detail o)) ≡ true → shareable now m ≡ true
          by None e h = absurd cc
          by (Some o) e h = ap (λ z. in_case z false (λ (o : Object). not (is_detail o))) (changed_at n os m o e).1 ∙ h

      job_over : (job : Option Job) → HasSoundJob t.counter os t.records job → HasSoundJob t.counter now t.records job
      job_over None h = tt
      job_over (Some j) h =
          record {
            field = h.field;
            there = by (slice_get os j.object) refl h.there;
            change = h.change;
            cursor = h.cursor;
            failed = h.failed;
            open_in_copy = h.open_in_copy;
            failed_where = h.failed_where;
            copied = h.copied;
          }
        where
          by : (z : Option Object) → slice_get os j.object ≡ z → option_and_then (λ (o : Object). slice_get o.fields j.field) z ≡ Some h.field → job_field now j ≡ Some h.field
          by None w g = absurd cc
          by (Some o) w g = ap (option_and_then (λ (o : Object). slice_get o.fields j.field)) (changed_at n os j.object o w).1 ∙ g

      pub object_changed : HasSoundParts (with_object_changed n change t)
      object_changed =
          record {
            name = s.name;
            counter = s.counter;
            numbers = s.numbers;
            users = s.users;
            roles = s.roles;
            groups = s.groups;
            metadata =
                record {
                  objects = objects_sound 0 n os good s.metadata.objects;
                  names = ap names_differ (map_changed change (λ (o : Object). o.name) n os (λ x e. refl)) ∙ s.metadata.names;
                  few = subst (λ (k : ℕ). k ≤ 100) (sym (length_changed change n os)) s.metadata.few;
                };
            records = record { each = all_more (IsSoundRecord (known t) os) (IsSoundRecord (known t) now) record_over t.records s.records.each; rise = s.records.rise; unique = unique_over; few = s.records.few; few_of = s.records.few_of };
            rules =
                record {
                  each = all_more (IsSoundRule (known t) os t.rule_numbers) (IsSoundRule (known t) now t.rule_numbers) (λ r x.
                      record { name = x.name; object = shareable_over r.object x.object; number = x.number; source = x.source; to = x.to; level = x.level; cursor = x.cursor }) t.sharing_rules s.rules.each;
                  rise = s.rules.rise;
                  numbers = s.rules.numbers;
                  few = s.rules.few;
                  few_drawn = s.rules.few_drawn;
                };
            shares =
                record {
                  each = all_more (IsSoundShare (known t) os) (IsSoundShare (known t) now) (λ x h.
                      record { item = h.item; object = shareable_over (object_number x.item) h.object; to = h.to; level = h.level }) t.shares s.shares.each;
                  rise = s.shares.rise;
                  few = s.shares.few;
                };
            job = job_over t.job s.job;
          }

-- ---- another access
no_masters : (fs : List Field) → list_any (λ (f : Field). is_master f.kind) fs ≡ false → length (filter (λ (f : Field). is_master f.kind) fs) ≡ 0
no_masters [] e = refl
no_masters (f ∷ fs) e = by (is_master f.kind) e (no_masters fs)
  where
    by : (b : Bool) → (b || list_any (λ (f : Field). is_master f.kind) fs) ≡ false → (list_any (λ (f : Field). is_master f.kind) fs ≡ false → length (filter (λ (f : Field). is_master f.kind) fs) ≡ 0)
        → length (cond b (f ∷ filter (λ (f : Field). is_master f.kind) fs) (filter (λ (f : Field). is_master f.kind) fs)) ≡ 0
    by true e more = absurd cc
    by false e more = more e

-- an object without Master fields has no access by the parent
own_access : (o : Object) → masters o ≡ cond (by_parent o.access) 1 0 → masters o ≡ 0 → by_parent o.access ≡ false
own_access o is none = by (by_parent o.access) (masters o) is none
  where
    by : (b : Bool) (n : ℕ) → n ≡ cond b 1 0 → n ≡ 0 → b ≡ false
    by true n is none = absurd cc
    by false n is none = refl

plain_access : (said : Option Access) (old : Access) → in_case said true (λ access. not (by_parent access)) ≡ true → by_parent old ≡ false → by_parent (unwrap_or said old) ≡ false
plain_access None old fit h = h
plain_access (Some access) old fit h = by (by_parent access) fit
  where
    by : (b : Bool) → not b ≡ true → b ≡ false
    by true e = absurd cc
    by false e = refl

pub set_object_sound : (t : Tenant) (object : List ℕ) (c : ObjectChange) → is_fit_object_change c ≡ true → HasSoundParts t → HasSoundParts (set_object t object c).tenant
set_object_sound t object c fit s =
    when_object HasSoundParts t object (λ o. judged t (refuse_if (is_detail o.object) (refusal.InvalidType o.object.name) ∷ []) (accept done (with_object_changed o.number (changed_object c) t))) s (λ o at.
    when_judged HasSoundParts t (refuse_if (is_detail o.object) (refusal.InvalidType o.object.name) ∷ []) (accept done (with_object_changed o.number (changed_object c) t)) s (λ h.
    object_changed (λ x. unwrap_or c.access x.access) (λ x. unwrap_or c.hierarchy x.hierarchy) (λ x. x.validation_rules) t s o.number
    (λ m x e h2.
    let same : o.object ≡ x = some_is o.object x (sym at ∙ e) in
    let none : is_detail x ≡ false = ap is_detail (sym same) ∙ unrefused (is_detail o.object) (refusal.InvalidType o.object.name) h.0 in
    let plain = plain_access c.access x.access fit (own_access x h2.master (no_masters x.fields none)) in
    record {
      name = h2.name;
      fields = h2.fields;
      field_names = h2.field_names;
      relations = h2.relations;
      master = no_masters x.fields none ∙ sym (ap (λ b. cond b 1 0) plain);
      hierarchy = ap (λ b. not b || unwrap_or c.hierarchy x.hierarchy) plain;
      level = h2.level;
      rules = h2.rules;
      rules_rise = h2.rules_rise;
      few_fields = h2.few_fields;
      few_rules = h2.few_rules;
    })))

-- ---- a new validation rule
abbrev pub with_one : ValidationRule → Object → List ValidationRule
with_one r o = put_in (λ a b. name_cmp a.name b.name) r o.validation_rules

-- no rule of the object has the new name
apart : (rs : List ValidationRule) (name : List ℕ) → list_any (same_name name) (map (λ (r : ValidationRule). r.name) rs) ≡ false → AllByRecursion (λ (y : ValidationRule). name_cmp name y.name ≡ Equal → ⊥) rs
apart [] name h = tt
apart (r ∷ rs) name h =
    let f = none_so (same_name name) (map (λ (r : ValidationRule). r.name) (r ∷ rs)) h in
    (λ is. clash (sym (tied_names name r.name is) ∙ f.0), apart rs name (rest (same_name name r.name) (list_any (same_name name) (map (λ (r : ValidationRule). r.name) rs)) h))
  where
    rest : (a b : Bool) → (a || b) ≡ false → b ≡ false
    rest true b e = absurd cc
    rest false b e = e

pub add_validation_sound : (t : Tenant) (b : NewValidationRule) → is_fit_validation b ≡ true → HasSoundParts t → HasSoundParts (add_validation_rule t b).tenant
add_validation_sound t b fit s =
    let r : ValidationRule = validation_of b in
    when_object HasSoundParts t b.object (λ o. judged t (new_validation_rule_rules t o b) (accept done (with_object_changed o.number (with_validation_rule r) t))) s (λ o at.
    when_judged HasSoundParts t (new_validation_rule_rules t o b) (accept done (with_object_changed o.number (with_validation_rule r) t)) s (λ h.
    let limits = none_refuses (refuse_if (nat_lt 50 (length o.object.validation_rules + 1)) (refusal.LimitExceeded limit.ValidationRulesPerObject) ∷ []) h.1.1.1.1.0 in
    object_changed (λ x. x.access) (λ x. x.hierarchy) (with_one r) t s o.number
    (λ m x e h2.
    let same : o.object ≡ x = some_is o.object x (sym at ∙ e) in
    record {
      name = h2.name;
      fields = h2.fields;
      field_names = h2.field_names;
      relations = h2.relations;
      master = h2.master;
      hierarchy = h2.hierarchy;
      level = h2.level;
      rules = all_put IsSoundValidation (λ a b. name_cmp a.name b.name) r x.validation_rules h2.rules (record { name = holds_not (is_stem r.name) (unrefused (not (is_stem r.name)) (refusal.InvalidName r.name) h.0); formula = both (all_scalars r.formula) (nat_le (length r.formula) formula_limit) (both_right (is_name r.message) (all_scalars r.formula) fit) (short_text o.object false r.formula h.1.1.0); message = both_left (is_name r.message) (all_scalars r.formula) fit });
      rules_rise = rise_put name_cmp (λ (r : ValidationRule). r.name) (on_texts lower) (λ a b. name_cmp a.name b.name) (λ a b. refl) r x.validation_rules h2.rules_rise
          (apart x.validation_rules r.name (ap (λ (z : Object). list_any (same_name r.name) (map (λ (r : ValidationRule). r.name) z.validation_rules)) (sym same) ∙ unrefused (list_any (same_name r.name) (map (λ (r : ValidationRule). r.name) o.object.validation_rules)) (refusal.NameTaken r.name) h.1.0));
      few_fields = h2.few_fields;
      few_rules = let size : length o.object.validation_rules ≡ length x.validation_rules = ap (λ (z : Object). length z.validation_rules) same in omega (arith, size, length_put (λ a b. name_cmp a.name b.name) r x.validation_rules, within_limit 50 (length o.object.validation_rules + 1) (refusal.LimitExceeded limit.ValidationRulesPerObject) limits.0);
    })))

-- ---- a validation rule that is removed
abbrev pub without_one : (name : List ℕ) → Object → List ValidationRule
without_one name o = filter (λ r. not (same_name r.name name)) o.validation_rules

pub remove_validation_sound : (t : Tenant) (object name : List ℕ) → HasSoundParts t → HasSoundParts (remove_validation_rule t object name).tenant
remove_validation_sound t object name s =
    let p : ValidationRule → Bool = λ r. not (same_name r.name name) in
    when_object HasSoundParts t object (λ o. judged t (refuse_if (not (list_any (λ r. same_name r.name name) o.object.validation_rules)) refusal.NotFound ∷ []) (accept done (with_object_changed o.number (without_validation_rule name) t))) s (λ o at.
    when_judged HasSoundParts t (refuse_if (not (list_any (λ r. same_name r.name name) o.object.validation_rules)) refusal.NotFound ∷ []) (accept done (with_object_changed o.number (without_validation_rule name) t)) s (λ h.
    object_changed (λ x. x.access) (λ x. x.hierarchy) (without_one name) t s o.number
    (λ m x e h2.
    record {
      name = h2.name;
      fields = h2.fields;
      field_names = h2.field_names;
      relations = h2.relations;
      master = h2.master;
      hierarchy = h2.hierarchy;
      level = h2.level;
      rules = all_kept IsSoundValidation p x.validation_rules h2.rules;
      rules_rise = rise_kept name_cmp (λ (r : ValidationRule). r.name) p x.validation_rules h2.rules_rise;
      few_fields = h2.few_fields;
      few_rules = omega (arith, length_kept p x.validation_rules, h2.few_rules);
    })))
