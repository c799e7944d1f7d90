-- The switch at the end of a change of a field's type leaves a sound tenant: every record converts, and nothing else speaks of
-- the field's type.
use Rattle.std.proofs.Common.{◌≡◌, ℕ, zero, suc, ◌+◌, ◌≤◌, Bool, true, false, not, ◌&&◌, ◌||◌, ◌==◌, cond, List, [], ◌∷◌, ◌++◌, map, filter, length, take, Option, Some, None, is_some, refl, ap, sym, subst, ◌∙◌, eq-eqb, arith, slice_get, nat_cmp, nat_lt}
use Rattle.std.specs.Prelude.{slice_set, IsTrue}
use Rattle.std.specs.List.{AllByRecursion, enumerate_from, flat_map, list_all}
use Rattle.std.specs.Option.{option_and_then}
use Rattle.std.specs.Cmp.Lexicographic.{slice_cmp}
use Rattle.std.proofs.lemmas.Bool.{eqb-true, not-true as not_so, and_from as both, true≢false as clash}
use Rattle.std.proofs.lemmas.List.{length-map}
use Rattle.std.proofs.lemmas.Option.{same_Some as some_is}
use Rattle.base_lemmas.proofs.Lists.{each_weaker as all_more}
use Rattle.base_lemmas.proofs.Bools.{and_first as both_left, and_second as both_right, by_answer as pick}
use Rattle.base_value.specs.Conversion.{convert, convertible}
use Rattle.base_value.specs.Types.{is_reference, is_type, suits_indexed, suits_unique}
use Rattle.base_value.specs.Values.{equal, valid}
use Rattle.base_value.specs.declared.job.Outcome.{Outcome}
use Rattle.base_value.specs.declared.job.Outcome.TheVariants as outcome
use Rattle.base_value.specs.declared.job.Phase.{Phase}
use Rattle.base_value.specs.declared.job.Phase.TheVariants as phase
use Rattle.base_value.specs.declared.value.FieldType.{FieldType}
use Rattle.base_value.specs.declared.value.FieldType.TheVariants as type
use Rattle.base_value.specs.declared.value.Value.{Value}
use Rattle.formula.specs.Meaning.{value_at}
use Rattle.model.specs.declared.record.Record.{Record}
use Rattle.model.specs.Cases.{in_case}
use Rattle.model.specs.Fields.{is_detail, is_master, is_null, ref_of}
use Rattle.model.specs.Jobs.{converted, is_past, job_step, new_value, next_hundred, switched}
use Rattle.model.specs.Known.{Grows, item_of, known}
use Rattle.model.specs.Membership.{Has}
use Rattle.model.specs.Objects.{Numbered, change_at, is_of, numbered, object_number, records_of}
use Rattle.model.specs.Relationships.{Reference, reference_at, references_of, target_of}
use Rattle.model.specs.Retyping.{is_checkbox, to_clear}
use Rattle.model.specs.RuleFormulas.{is_copy}
use Rattle.model_invariant.proofs.SoundParts.{HasSoundParts}
use Rattle.model.specs.SoundJob.{HasSoundJob, IsSoundJob, copies, is_failed, is_open}
use Rattle.model.specs.SoundMetadata.{IsSoundField, IsSoundObject, implies, may_be_required, names_differ}
use Rattle.model.specs.SoundRecords.{IsSoundRecord, UniqueHold, all_valid, is_sound_reference, kinds_of, record_id, those_of}
use Rattle.model.specs.SoundSharing.{IsSoundRule, IsSoundShare, shareable}
use Rattle.model.specs.Tenant.{Field, Job, Object, Tenant}
use Rattle.model.specs.Updates.{is_copied}
use Rattle.model_invariant.proofs.Parts.{all_at, all_from, among_kept, among_map, count_same, has_same, kept_among, list_all_at, list_all_from}
use Rattle.model_invariant.proofs.Orders.{rise_map}
use Rattle.model_invariant.proofs.Growing.{groups_more, numbers_less, record_more, roles_more, rules_more, shares_more, users_more}
use Rattle.model_invariant.proofs.SharingSound.{numbered_from}
use Rattle.model_invariant.proofs.ContentSound.{kind_at, reference_place, valid_at}
use Rattle.model_invariant.proofs.DeletesSound.{sound_object}
use Rattle.model_invariant.proofs.JobsSound.{before_or_left, step_sound}
use Rattle.model_invariant.proofs.Changes.{all_changed, any_changed, at_has, count_changed, length_changed, level_by_references, map_changed, names_by_references, objects_changed, other_at, same_at}

-- what `base_value` says of a value that converts
abbrev pub ConvertLaw : Type 0
ConvertLaw = (from to : FieldType) (v w : Value) → IsTrue (is_type from) → IsTrue (valid from v) → convert to v ≡ Some w → IsTrue (valid to w)

-- ---- types that are no references
pub plain_target : (k : FieldType) → is_reference k ≡ false → target_of k ≡ None
plain_target (type.Lookup o d) e = absurd cc
plain_target (type.Master o) e = absurd cc
plain_target k e = refl

pub plain_master : (k : FieldType) → is_reference k ≡ false → is_master k ≡ false
plain_master (type.Master o) e = absurd cc
plain_master k e = refl

plain_required : (k : FieldType) → is_reference k ≡ false → may_be_required k ≡ true
plain_required (type.Lookup o d) e = absurd cc
plain_required k e = refl

plain_indexed : (k : FieldType) → is_reference k ≡ false → suits_indexed k ≡ not (is_checkbox k)
plain_indexed (type.Lookup o d) e = absurd cc
plain_indexed (type.Master o) e = absurd cc
plain_indexed type.Checkbox e = refl
plain_indexed k e = refl

plain_converts : (k : FieldType) → is_reference k ≡ false → convertible k k ≡ true
plain_converts (type.Lookup o d) e = absurd cc
plain_converts (type.Master o) e = absurd cc
plain_converts k e = refl

-- ---- values
set_other : (vs : List Value) (i k : ℕ) (v : Value) → (i ≡ k → ⊥) → value_at (slice_set vs k v) i ≡ value_at vs i
set_other [] i k v h = refl
set_other (x ∷ vs) zero zero v h = absurd (h refl)
set_other (x ∷ vs) zero (suc k) v h = refl
set_other (x ∷ vs) (suc i) zero v h = refl
set_other (x ∷ vs) (suc i) (suc k) v h = set_other vs i k v (λ e. h (ap suc e))

set_valid : (to : FieldType) (fs : List Field) (vs : List Value) (i : ℕ) (v : Value) → all_valid (map (λ (f : Field). f.kind) fs) vs ≡ true → valid to v ≡ true
    → all_valid (map (λ (f : Field). f.kind) (change_at i (λ f. record f { kind = to }) fs)) (slice_set vs i v) ≡ true
set_valid to [] [] i v h w = refl
set_valid to [] (x ∷ vs) i v h w = absurd cc
set_valid to (f ∷ fs) [] i v h w = absurd cc
set_valid to (f ∷ fs) (x ∷ vs) zero v h w = both (valid to v) (all_valid (map (λ (f : Field). f.kind) fs) vs) w (both_right (valid f.kind x) (all_valid (map (λ (f : Field). f.kind) fs) vs) h)
set_valid to (f ∷ fs) (x ∷ vs) (suc i) v h w =
    both (valid f.kind x) (all_valid (map (λ (f : Field). f.kind) (change_at i (λ f. record f { kind = to }) fs)) (slice_set vs i v))
    (both_left (valid f.kind x) (all_valid (map (λ (f : Field). f.kind) fs) vs) h) (set_valid to fs vs i v (both_right (valid f.kind x) (all_valid (map (λ (f : Field). f.kind) fs) vs) h) w)

set_fits : (to : FieldType) (o : Object) (vs : List Value) (i : ℕ) (v : Value) → all_valid (kinds_of o) vs ≡ true → valid to v ≡ true
    → all_valid (kinds_of (record o { fields = change_at i (λ f. record f { kind = to }) o.fields })) (slice_set vs (suc i) v) ≡ true
set_fits to o [] i v h w = absurd cc
set_fits to o (x ∷ vs) i v h w =
    both (valid (type.Text 80) x) (all_valid (map (λ (f : Field). f.kind) (change_at i (λ f. record f { kind = to }) o.fields)) (slice_set vs i v))
    (both_left (valid (type.Text 80) x) (all_valid (map (λ (f : Field). f.kind) o.fields) vs) h) (set_valid to o.fields vs i v (both_right (valid (type.Text 80) x) (all_valid (map (λ (f : Field). f.kind) o.fields) vs) h) w)

take_none : (xs : List Record) → take 100 xs ≡ [] → xs ≡ []
take_none [] e = refl
take_none (x ∷ xs) e = absurd cc

module _ (law : ConvertLaw) (t : Tenant) (s : HasSoundParts t) (j : Job) (h : IsSoundJob t.counter t.objects t.records j) (copy : j.phase ≡ phase.Copy) (left : next_hundred t j ≡ []) where
  abbrev g : Field → Field
  g f = record f { kind = j.to }

  abbrev change : Object → Object
  change o = record o { fields = change_at j.field g o.fields }

  abbrev os : List Object
  os = t.objects

  abbrev now : List Object
  now = change_at j.object change os

  plain_new : is_reference j.to ≡ false
  plain_new = not_so (is_reference j.to) (both_right (is_type j.to) (not (is_reference j.to)) h.change.to)

  -- the field, in its object
  holder : (p : Object) × (slice_get os j.object ≡ Some p) × (slice_get p.fields j.field ≡ Some h.field)
  holder = by (slice_get os j.object) refl h.there
    where
      by : (o : Option Object) → slice_get os j.object ≡ o → option_and_then (λ (o : Object). slice_get o.fields j.field) o ≡ Some h.field → (p : Object) × (slice_get os j.object ≡ Some p) × (slice_get p.fields j.field ≡ Some h.field)
      by None w e = absurd cc
      by (Some p) w e = (p, w, e)

  its_field : (x : Object) → slice_get os j.object ≡ Some x → (f : Field) → slice_get x.fields j.field ≡ Some f → f ≡ h.field
  its_field x e f at =
      let same : x ≡ holder.0 = some_is x holder.0 (sym e ∙ holder.1) in
      some_is f h.field (sym at ∙ ap (λ (z : Object). slice_get z.fields j.field) same ∙ holder.2)

  its_plain : (x : Object) → slice_get os j.object ≡ Some x → (f : Field) → slice_get x.fields j.field ≡ Some f → is_reference f.kind ≡ false
  its_plain x e f at = ap (λ (z : Field). is_reference z.kind) (its_field x e f at) ∙ h.change.reference

  -- ---- metadata
  refs_fields : (n k i : ℕ) (fs : List Field) → ((f : Field) → slice_get fs i ≡ Some f → is_reference f.kind ≡ false) → flat_map (reference_at n) (enumerate_from k (change_at i g fs)) ≡ flat_map (reference_at n) (enumerate_from k fs)
  refs_fields n k i [] e = refl
  refs_fields n k zero (f ∷ fs) e =
      let rest = flat_map (reference_at n) (enumerate_from (k + 1) fs) in
      ap (λ z. in_case z [] (λ target. record { object = n; position = k; field = g f; target = target } ∷ []) ++ rest) (plain_target j.to plain_new)
      ∙ sym (ap (λ z. in_case z [] (λ target. record { object = n; position = k; field = f; target = target } ∷ []) ++ rest) (plain_target f.kind (e f refl)))
  refs_fields n k (suc i) (f ∷ fs) e = ap (λ (rs : List Reference). reference_at n (k, f) ++ rs) (refs_fields n (k + 1) i fs e)

  refs_same : (k i : ℕ) (xs : List Object) → ((x : Object) → slice_get xs i ≡ Some x → (f : Field) → slice_get x.fields j.field ≡ Some f → is_reference f.kind ≡ false)
      → flat_map references_of (numbered_from k (change_at i change xs)) ≡ flat_map references_of (numbered_from k xs)
  refs_same k i [] e = refl
  refs_same k zero (x ∷ xs) e = ap (λ (rs : List Reference). rs ++ flat_map references_of (numbered_from (k + 1) xs)) (refs_fields k 1 j.field x.fields (e x refl))
  refs_same k (suc i) (x ∷ xs) e = ap (λ (rs : List Reference). references_of (record { number = k; object = x }) ++ rs) (refs_same (k + 1) i xs e)

  refs : flat_map references_of (numbered now) ≡ flat_map references_of (numbered os)
  refs = refs_same 0 j.object os its_plain

  master_kept : (x : Object) → slice_get os j.object ≡ Some x → (f : Field) → slice_get x.fields j.field ≡ Some f → is_master (g f).kind ≡ is_master f.kind
  master_kept x e f at = plain_master j.to plain_new ∙ sym (plain_master f.kind (its_plain x e f at))

  detail_kept : (x : Object) → slice_get os j.object ≡ Some x → is_detail (change x) ≡ is_detail x
  detail_kept x e = any_changed g (λ (f : Field). is_master f.kind) j.field x.fields (master_kept x e)

  field_sound : (n : ℕ) → IsSoundField n h.field → IsSoundField n (g h.field)
  field_sound n x =
      record {
        name = x.name;
        kind = both_left (is_type j.to) (not (is_reference j.to)) h.change.to;
        target = ap (λ z. in_case z true (λ m. nat_lt m n)) (plain_target j.to plain_new);
        required = required_so h.field.required;
        unique = ap (λ b. implies b (suits_unique j.to)) h.change.unique;
        indexed = indexed_so h.field.indexed h.change.indexed;
        child = x.child ∙ h.change.reference ∙ sym plain_new;
        child_name = x.child_name;
      }
    where
      required_so : (b : Bool) → (implies b (may_be_required j.to) && implies (is_master j.to) b) ≡ true
      required_so b =
          both (implies b (may_be_required j.to)) (implies (is_master j.to) b) (ap (λ z. implies b z) (plain_required j.to plain_new) ∙ pick b (λ b. implies b true ≡ true) (λ _. refl) (λ _. refl))
          (ap (λ z. implies z b) (plain_master j.to plain_new))

      indexed_so : (b : Bool) → (not b || not (is_checkbox j.to)) ≡ true → implies b (suits_indexed j.to) ≡ true
      indexed_so b e = ap (λ z. not b || z) (plain_indexed j.to plain_new) ∙ e

  lift : (o : Numbered) → IsSoundObject os o → IsSoundObject now o
  lift o x =
      record {
        name = x.name;
        fields = subst (λ (k : ℕ). AllByRecursion (IsSoundField k) o.object.fields) (sym (length_changed change j.object os)) x.fields;
        field_names = x.field_names;
        relations = ap names_differ (names_by_references os now refs o.number) ∙ x.relations;
        master = x.master;
        hierarchy = x.hierarchy;
        level = subst (λ (k : ℕ). k ≤ 3) (sym (level_by_references os now refs 4 o.number)) x.level;
        rules = x.rules;
        rules_rise = x.rules_rise;
        few_fields = x.few_fields;
        few_rules = x.few_rules;
      }

  lift_changed : (n : ℕ) (p : Object) → slice_get os j.object ≡ Some p → IsSoundObject os (record { number = n; object = p }) → IsSoundObject now (record { number = n; object = change p })
  lift_changed n p e x =
      record {
        name = x.name;
        fields =
            subst (λ (k : ℕ). AllByRecursion (IsSoundField k) (change p).fields) (sym (length_changed change j.object os))
            (all_changed g (IsSoundField (length os)) j.field p.fields (λ f at w.
            subst (λ (z : Field). IsSoundField (length os) (g z)) (sym (its_field p e f at)) (field_sound (length os) (subst (λ (z : Field). IsSoundField (length os) z) (its_field p e f at) w))) x.fields);
        field_names = ap names_differ (map_changed g (λ (f : Field). f.name) j.field p.fields (λ f at. refl)) ∙ x.field_names;
        relations = ap names_differ (names_by_references os now refs n) ∙ x.relations;
        master = count_changed g (λ (f : Field). is_master f.kind) j.field p.fields (master_kept p e) ∙ x.master;
        hierarchy = x.hierarchy;
        level = subst (λ (k : ℕ). k ≤ 3) (sym (level_by_references os now refs 4 n)) x.level;
        rules = x.rules;
        rules_rise = x.rules_rise;
        few_fields = subst (λ (k : ℕ). k ≤ 40) (sym (length_changed g j.field p.fields)) x.few_fields;
        few_rules = x.few_rules;
      }

  objects_sound : AllByRecursion (IsSoundObject now) (numbered now)
  objects_sound =
      objects_changed change j.object os holder.0 holder.1 (IsSoundObject now) (λ n o at. lift (record { number = n; object = o }) (sound_object t s n o at))
      (lift_changed j.object holder.0 holder.1 (sound_object t s j.object holder.0 holder.1))

  -- ---- records
  converts : (r : Record) → Has t.records r → is_of j.object r ≡ true → (v : Value) × (new_value j r ≡ Some v)
  converts r m of = found (new_value j r) refl (old (is_copied phase.Copy j.cursor r.id) refl (subst (λ (p : Phase). (not (is_copied p j.cursor r.id) || is_some (new_value j r)) ≡ true) copy (list_all_at (copies j) r (those_of j.object t.records) h.copied among)))
    where
      among : Has (those_of j.object t.records) r
      among = kept_among (is_of j.object) t.records r m of

      rest : List Record
      rest = filter (λ r. is_past j.cursor r.id) (records_of t j.object)

      old : (b : Bool) → is_copied phase.Copy j.cursor r.id ≡ b → (not (is_copied phase.Copy j.cursor r.id) || is_some (new_value j r)) ≡ true → is_some (new_value j r) ≡ true
      old true e w = sym (ap (λ b. not b || is_some (new_value j r)) e) ∙ w
      old false e w =
          let past = before_or_left t s j h r e in
          let in_rest = kept_among (λ r. is_past j.cursor r.id) (records_of t j.object) r among past in
          absurd (subst (λ (xs : List Record). Has xs r) (take_none (filter (λ r. is_past j.cursor r.id) (records_of t j.object)) left) in_rest)

      found : (o : Option Value) → new_value j r ≡ o → is_some (new_value j r) ≡ true → (v : Value) × (new_value j r ≡ Some v)
      found None e w = absurd (clash (sym w ∙ ap is_some e))
      found (Some v) e w = (v, e)

  abbrev after : Record → Record
  after r = converted j r

  abbrev u : Tenant
  u = switched j t

  same_id : (r : Record) → (after r).id ≡ r.id
  same_id r = pick (is_of j.object r) (λ b. (cond b (in_case (new_value j r) r (λ v. record r { values = slice_set r.values (suc j.field) v })) r).id ≡ r.id) (λ _. by (new_value j r)) (λ _. refl)
    where
      by : (o : Option Value) → (in_case o r (λ v. record r { values = slice_set r.values (suc j.field) v })).id ≡ r.id
      by None = refl
      by (Some v) = refl

  -- all values but the field's stay
  kept_value : (r : Record) (i : ℕ) → (is_of j.object r ≡ true → i ≡ suc j.field → ⊥) → value_at (after r).values i ≡ value_at r.values i
  kept_value r i apart =
      pick (is_of j.object r) (λ b. is_of j.object r ≡ b → value_at (cond b (in_case (new_value j r) r (λ v. record r { values = slice_set r.values (suc j.field) v })) r).values i ≡ value_at r.values i)
      (λ _ of. by of (new_value j r)) (λ _ _. refl) refl
    where
      by : is_of j.object r ≡ true → (o : Option Value) → value_at (in_case o r (λ v. record r { values = slice_set r.values (suc j.field) v })).values i ≡ value_at r.values i
      by of None = refl
      by of (Some v) = set_other r.values i (suc j.field) v (apart of)

  same_items : (i : List ℕ) → (known u).item i ≡ (known t).item i
  same_items = has_same record_id after same_id t.records

  grows : Grows (known t) (known u)
  grows = record { people = record { counter = omega arith; user = λ i x. x; role = λ i x. x; group = λ i x. x }; item = λ i x. same_items i ∙ x }

  record_after : (r : Record) → Has t.records r → IsSoundRecord (known u) now (after r)
  record_after r m = by (is_of j.object r) refl
    where
      was : IsSoundRecord (known u) os r
      was = record_more (known t) (known u) grows os r (all_at (IsSoundRecord (known t) os) r t.records s.records.each m)

      by : (b : Bool) → is_of j.object r ≡ b → IsSoundRecord (known u) now (after r)
      by false e =
          let same : after r ≡ r = ap (λ b. cond b (in_case (new_value j r) r (λ v. record r { values = slice_set r.values (suc j.field) v })) r) e in
          let there : slice_get now (object_number r.id) ≡ Some was.object = other_at change j.object (object_number r.id) os (λ n. clash (sym (eq-eqb (object_number r.id) j.object n) ∙ e)) ∙ was.there in
          let sound : IsSoundRecord (known u) now r =
          record {
            object = was.object;
            there = there;
            number = was.number;
            drawn = was.drawn;
            id = was.id;
            owner = was.owner;
            created = was.created;
            modified = was.modified;
            values = was.values;
            references = was.references;
          } in
          subst (λ (z : Record). IsSoundRecord (known u) now z) (sym same) sound
      by true e =
          let n : object_number r.id ≡ j.object = eqb-true (object_number r.id) j.object e in
          let at : slice_get os j.object ≡ Some was.object = ap (slice_get os) (sym n) ∙ was.there in
          let o : Numbered = record { number = object_number r.id; object = was.object } in
          let c = converts r m e in
          let new : Record = record r { values = slice_set r.values (suc j.field) c.0 } in
          let same : after r ≡ new
          = ap (λ b. cond b (in_case (new_value j r) r (λ v. record r { values = slice_set r.values (suc j.field) v })) r) e ∙ ap (λ z. in_case z r (λ v. record r { values = slice_set r.values (suc j.field) v })) c.1 in
          let object : was.object ≡ holder.0 = some_is was.object holder.0 (sym at ∙ holder.1) in
          let field : slice_get was.object.fields j.field ≡ Some h.field = ap (λ (z : Object). slice_get z.fields j.field) object ∙ holder.2 in
          let kind = (all_at (IsSoundField (length os)) h.field was.object.fields (sound_object t s j.object was.object at).fields (at_has j.field was.object.fields h.field field)).kind in
          let valid_new = law h.field.kind j.to (value_at r.values (suc j.field)) c.0 kind (valid_at (kinds_of was.object) r.values (suc j.field) h.field.kind was.values (kind_at was.object j.field h.field field)) c.1 in
          let its_refs : references_of (record { number = object_number r.id; object = change was.object }) ≡ references_of o = refs_fields (object_number r.id) 1 j.field was.object.fields (its_plain was.object at) in
          let sound : IsSoundRecord (known u) now new =
          record {
            object = change was.object;
            there = ap (slice_get now) n ∙ same_at change j.object os was.object at;
            number = was.number;
            drawn = was.drawn;
            id = was.id;
            owner = ap (λ b. in_case r.owner b (λ i. not b && (known u).user i)) (detail_kept was.object at) ∙ was.owner;
            created = was.created;
            modified = was.modified;
            values = set_fits j.to was.object r.values j.field c.0 was.values valid_new;
            references =
                subst (λ (rs : List Reference). list_all (is_sound_reference (known u) new.values) rs ≡ true) (sym its_refs)
                (list_all_from (is_sound_reference (known u) new.values) (references_of o) (λ f a.
                let w = reference_place o f a in
                let other : f.position ≡ suc j.field → ⊥ = λ p.
                let place : w.place ≡ j.field = omega (arith, w.is, p) in
                let is_field : h.field ≡ f.field = some_is h.field f.field (sym field ∙ ap (slice_get was.object.fields) (sym place) ∙ w.field) in
                no_target (target_of f.field.kind) f.target w.target (ap (λ (z : Field). target_of z.kind) (sym is_field) ∙ plain_target h.field.kind h.change.reference) in
                ap (λ (v : Value). in_case (ref_of v) (not (is_master f.field.kind)) (item_of (known u) f.target)) (set_other r.values f.position (suc j.field) c.0 other)
                ∙ list_all_at (is_sound_reference (known u) r.values) f (references_of o) was.references a));
          } in
          subst (λ (z : Record). IsSoundRecord (known u) now z) (sym same) sound
        where
          no_target : (k : Option ℕ) (n : ℕ) → k ≡ Some n → k ≡ None → ⊥
          no_target None n e f = cc
          no_target (Some m) n e f = cc

  -- a unique field was there before, and isn't the one that changed
  old_field : (n place : ℕ) (q : Object) (f : Field) → slice_get now n ≡ Some q → slice_get q.fields place ≡ Some f → f.unique ≡ true
      → (n ≡ j.object → place ≡ j.field → ⊥) × ((p : Object) × (slice_get os n ≡ Some p) × (slice_get p.fields place ≡ Some f))
  old_field n place q f at field unique = by (n == j.object) refl
    where
      by : (b : Bool) → (n == j.object) ≡ b → (n ≡ j.object → place ≡ j.field → ⊥) × ((p : Object) × (slice_get os n ≡ Some p) × (slice_get p.fields place ≡ Some f))
      by false e = (λ m k. clash (sym (eq-eqb n j.object m) ∙ e), (q, sym (other_at change j.object n os (λ m. clash (sym (eq-eqb n j.object m) ∙ e))) ∙ at, field))
      by true e = (not_it, (holder.0, ap (slice_get os) m ∙ holder.1, sym (other_at g j.field place holder.0.fields (not_it m)) ∙ its))
        where
          m : n ≡ j.object
          m = eqb-true n j.object e

          its : slice_get (change_at j.field g holder.0.fields) place ≡ Some f
          its = ap (λ (z : Object). slice_get z.fields place) (some_is (change holder.0) q (sym (same_at change j.object os holder.0 holder.1) ∙ ap (slice_get now) (sym m) ∙ at)) ∙ field

          not_it : n ≡ j.object → place ≡ j.field → ⊥
          not_it _ k =
              let is : g h.field ≡ f = some_is (g h.field) f (sym (same_at g j.field holder.0.fields h.field holder.2) ∙ ap (slice_get (change_at j.field g holder.0.fields)) (sym k) ∙ its) in
              clash (sym unique ∙ ap (λ (z : Field). z.unique) (sym is) ∙ h.change.unique)

  still_unique : UniqueHold now (map after t.records)
  still_unique n place q f at field unique x y a b null same =
      let o = old_field n place q f at field unique in
      let m = among_kept (is_of n) (map after t.records) x a in
      let w = among_kept (is_of n) (map after t.records) y b in
      let x0 = among_map after t.records x m.0 in
      let y0 = among_map after t.records y w.0 in
      let ix : x.id ≡ x0.0.id = ap record_id x0.2 ∙ same_id x0.0 in
      let iy : y.id ≡ y0.0.id = ap record_id y0.2 ∙ same_id y0.0 in
      let of_x : is_of n x0.0 ≡ true = ap (λ (i : List ℕ). object_number i == n) (sym ix) ∙ m.1 in
      let of_y : is_of n y0.0 ≡ true = ap (λ (i : List ℕ). object_number i == n) (sym iy) ∙ w.1 in
      let ex : value_at x.values (suc place) ≡ value_at x0.0.values (suc place) = ap (λ (z : Record). value_at z.values (suc place)) x0.2 ∙ kept_value x0.0 (suc place) (other o.0 x0.0 of_x) in
      let ey : value_at y.values (suc place) ≡ value_at y0.0.values (suc place) = ap (λ (z : Record). value_at z.values (suc place)) y0.2 ∙ kept_value y0.0 (suc place) (other o.0 y0.0 of_y) in
      ix ∙ s.records.unique n place o.1.0 f o.1.1 o.1.2 unique x0.0 y0.0
      (kept_among (is_of n) t.records x0.0 x0.1 of_x) (kept_among (is_of n) t.records y0.0 y0.1 of_y)
      (ap is_null (sym ex) ∙ null)
      (ap (λ (v : Value). equal v (value_at y0.0.values (suc place))) (sym ex) ∙ ap (λ (v : Value). equal (value_at x.values (suc place)) v) (sym ey) ∙ same)
      ∙ sym iy
    where
      other : (n ≡ j.object → place ≡ j.field → ⊥) → (r : Record) → is_of n r ≡ true → is_of j.object r ≡ true → suc place ≡ suc j.field → ⊥
      other apart r of its e = apart (sym (eqb-true (object_number r.id) n of) ∙ eqb-true (object_number r.id) j.object its) (omega (arith, e))

  shareable_over : (m : ℕ) → shareable os m ≡ true → shareable now m ≡ true
  shareable_over m w = by (m == j.object) refl
    where
      by : (b : Bool) → (m == j.object) ≡ b → shareable now m ≡ true
      by false e = ap (λ z. in_case z false (λ (o : Object). not (is_detail o))) (other_at change j.object m os (λ k. clash (sym (eq-eqb m j.object k) ∙ e))) ∙ w
      by true e =
          let k : m ≡ j.object = eqb-true m j.object e in
          let was = sym (ap (λ z. in_case z false (λ (o : Object). not (is_detail o))) (ap (slice_get os) k ∙ holder.1)) ∙ w in
          ap (λ z. in_case z false (λ (o : Object). not (is_detail o))) (ap (slice_get now) k ∙ same_at change j.object os holder.0 holder.1) ∙ ap not (detail_kept holder.0 holder.1) ∙ was

  pub switch_sound : HasSoundParts (switched j t)
  switch_sound =
      let k = known t in
      let l = known u in
      let rules = rules_more k l grows.people os t.rule_numbers t.sharing_rules s.rules in
      let shares = shares_more k l grows os t.shares s.shares in
      record {
        name = s.name;
        counter = s.counter;
        numbers = numbers_less k l (λ i x. subst (λ b. (k.user i || (k.role i || (k.group i || b))) ≡ true) (same_items i) x) s.numbers;
        users = users_more k l grows.people t.users s.users;
        roles = roles_more k l grows.people t.roles s.roles;
        groups = groups_more k l grows.people t.groups s.groups;
        metadata =
            record {
              objects = objects_sound;
              names = ap names_differ (map_changed change (λ (o : Object). o.name) j.object os (λ x e. refl)) ∙ s.metadata.names;
              few = subst (λ (n : ℕ). n ≤ 100) (sym (length_changed change j.object os)) s.metadata.few;
            };
        records =
            record {
              each = all_from (IsSoundRecord l now) (map after t.records) (λ x m. let r = among_map after t.records x m in subst (λ (z : Record). IsSoundRecord l now z) (sym r.2) (record_after r.0 r.1));
              rise = rise_map (slice_cmp nat_cmp) record_id after same_id t.records s.records.rise;
              unique = still_unique;
              few = omega (arith, length-map t.records after, s.records.few);
              few_of = λ n. omega (arith, count_same (is_of n) after (λ r. ap (λ (i : List ℕ). object_number i == n) (same_id r)) t.records, s.records.few_of n);
            };
        rules =
            record {
              each = all_more (IsSoundRule l os t.rule_numbers) (IsSoundRule l now t.rule_numbers) (λ r x.
                  record { name = x.name; object = shareable_over r.object x.object; number = x.number; source = x.source; to = x.to; level = x.level; cursor = x.cursor }) t.sharing_rules rules.each;
              rise = rules.rise;
              numbers = rules.numbers;
              few = rules.few;
              few_drawn = rules.few_drawn;
            };
        shares =
            record {
              each = all_more (IsSoundShare l os) (IsSoundShare l now) (λ x w. record { item = w.item; object = shareable_over (object_number x.item) w.object; to = w.to; level = w.level }) t.shares shares.each;
              rise = shares.rise;
              few = shares.few;
            };
        job =
            record {
              field = g h.field;
              there = ap (option_and_then (λ (o : Object). slice_get o.fields j.field)) (same_at change j.object os holder.0 holder.1) ∙ same_at g j.field holder.0.fields h.field holder.2;
              change = record { unique = h.change.unique; reference = plain_new; to = h.change.to; indexed = h.change.indexed; converts = plain_converts j.to plain_new; switched = λ _. refl };
              cursor = tt;
              failed = h.failed;
              open_in_copy = refl;
              failed_where = h.failed_where ∙ open_not_failed j.outcome (h.open_in_copy ∙ ap is_copy copy);
              copied = list_all_from (copies (to_clear outcome.Switched j)) (those_of j.object (map after t.records)) (λ y m. refl);
            };
      }
    where
      open_not_failed : (o : Outcome) → is_open o ≡ true → is_failed o ≡ false
      open_not_failed outcome.Open e = refl
      open_not_failed o e = absurd cc

-- every step
pub any_step_sound : ConvertLaw → (t : Tenant) → HasSoundParts t → HasSoundParts (job_step t)
any_step_sound law t s = step_sound t (λ j is copy left. switch_sound law t s j (subst (λ (z : Option Job). HasSoundJob t.counter t.objects t.records z) is s.job) copy left) s
