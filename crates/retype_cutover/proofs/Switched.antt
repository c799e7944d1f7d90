-- The switch at the end of a change of a field's type: the rows of the field and of the change are others, and every other row
-- stays, however many records there are; and the plan fits.
use Rattle.std.proofs.Common.{◌≡◌, ℕ, zero, suc, ◌<◌, Bool, true, false, not, ◌&&◌, ◌||◌, cond, eqb, eq-eqb, IsTrue, List, [], ◌∷◌, map, filter, length, Option, Some, None, is_some, refl, sym, ap, ◌∙◌, subst, arith, ◌⊎◌, inl, inr}
use Rattle.std.specs.Prelude.{slice_get, slice_set}
use Rattle.std.specs.List.{enumerate_from}
use Rattle.std.specs.Option.{option_and_then, option_map}
use Rattle.std.proofs.lemmas.Bool.{eqb-false, eqb-true, and_from as both, false≢true as clash}
use Rattle.base_lemmas.proofs.Numbers.{eqb-self as eqb_same}
use Rattle.base_lemmas.proofs.Lists.{length-map_by as mapped_length}
use Rattle.std.proofs.lemmas.Option.{none-some as none_is, same_Some as some_is}
use Rattle.base_lemmas.proofs.Bools.{by_answer as pick, and_first, and_second}
use Rattle.formula.specs.Meaning.{value_at}
use Rattle.store_rows.specs.Forms.{row_bytes}
use Rattle.store_rows.specs.Keys.{Key, Version, Org, Object, Field, Job, User, Role, Group, Validation, Sharing, Data, Index, Unique, Relation, Owner, Share, Grant}
use Rattle.store_rows.specs.Rows.{field_form, object_form, validation_form}
use Rattle.model.specs.declared.record.Record.{Record}
use Rattle.model.specs.Cases.{in_case}
use Rattle.model.specs.Jobs.{converted, is_past, new_value, next_hundred, switched}
use Rattle.model.specs.Known.{known}
use Rattle.model.specs.Membership.{Has}
use Rattle.model.specs.Objects.{change_at, is_of, object_number, object_numbered, record_at, records_of}
use Rattle.model.specs.Retyping.{job_is_done, to_clear}
use Rattle.model.specs.Sound.{IsSound}
use Rattle.model.specs.SoundJob.{HasSoundJob, IsSoundJob, copies, job_field}
use Rattle.model.specs.SoundMetadata.{IsSoundField, implies}
use Rattle.model.specs.SoundRecords.{IsSoundRecord, all_valid, kinds_of, those_of}
use Rattle.model.specs.Tenant as model
use Rattle.model.specs.Tenant.{Tenant}
use Rattle.model.specs.Updates.{is_copied}
use Rattle.store_abstraction.specs.Entries.{Entry, field_entry, job_entry, job_value, name_text, slot_entry, slot_field}
use Rattle.store_abstraction.specs.Metadata.{field_of, named_so, row_of_object, validation_of}
use Rattle.store_abstraction.specs.Plan.{FitsPlan, OrgPlan, has_field, slot_count, slot_type, type_there}
use Rattle.store_abstraction.specs.Records.{KeptAlike, is_field_key, object_of_records}
use Rattle.store_abstraction.specs.Stands.{kept_in, row_in}
use Rattle.store_abstraction.proofs.Kept.{kept, none}
use Rattle.store_abstraction.proofs.MetadataRows.{all_at, and_then_some, sound_object}
use Rattle.store_abstraction.proofs.Placed.{alike_same, get_changed, no_records}
use Rattle.base_value.specs.Conversion.{convert, convertible}
use Rattle.base_value.specs.Types.{is_reference, is_type, suits_indexed}
use Rattle.base_value.specs.Values.{valid}
use Rattle.base_value.specs.declared.job.Outcome.TheVariants as outcome
use Rattle.base_value.specs.declared.job.Phase.{Phase}
use Rattle.base_value.specs.declared.job.Phase.TheVariants as phase
use Rattle.base_value.specs.declared.value.FieldType.{FieldType}
use Rattle.base_value.specs.declared.value.Value.{Value}
use Rattle.retype_cutover.specs.Switch.{changing_value, switched_plan}
use Rattle.retype_cutover.proofs.Keys.{is_job_key}
use Rattle.retype_cutover.proofs.Lists.{all_has, filter_has, flip, found_id, found_itself, get_mapped, of_has, take_none}
use Rattle.retype_cutover.proofs.Slots.{field_apart, field_at, field_none, found_is}
use Rattle.retype_cutover.proofs.Values.{entry_of, not_past, set_here, set_other, valid_at}

module _ (p : OrgPlan) (t : Tenant) (j : model.Job) (s : IsSound t) (fits : FitsPlan p t) (is : t.job ≡ Some j)
    (copy : j.phase ≡ phase.Copy) (left : next_hundred t j ≡ []) where
  abbrev n : ℕ
  n = j.object

  abbrev u : Tenant
  u = switched j t

  abbrev q : OrgPlan
  q = switched_plan p t j

  abbrev after : model.Job
  after = to_clear outcome.Switched j

  abbrev g : model.Field → model.Field
  g f = record f { kind = j.to }

  abbrev change : model.Object → model.Object
  change o = record o { fields = change_at j.field g o.fields }

  h : IsSoundJob t.counter t.objects t.records j
  h = subst (HasSoundJob t.counter t.objects t.records) is s.job

  abbrev its : model.Field
  its = h.field

  holder : (o : model.Object) × (object_numbered t n ≡ Some o) × (slice_get o.fields j.field ≡ Some its)
  holder = and_then_some (λ (o : model.Object). slice_get o.fields j.field) (slice_get t.objects n) its h.there

  abbrev o : model.Object
  o = holder.0

  here : object_numbered t n ≡ Some o
  here = holder.1

  at : slice_get o.fields j.field ≡ Some its
  at = holder.2

  was_is : q.was ≡ its.kind
  was_is = ap (λ (x : Option model.Field). in_case x p.was (λ f. f.kind)) h.there

  -- ---- slots

  abbrev a : ℕ
  a = p.slot n j.field

  abbrev b : ℕ
  b = p.other

  has_it : (i : ℕ) (f : model.Field) → slice_get o.fields i ≡ Some f → IsTrue (has_field t n i)
  has_it i f e =
      ap (λ (x : Option model.Object). is_some (option_and_then (λ (o : model.Object). slice_get o.fields i) x)) here ∙ ap is_some e

  apart : (i : ℕ) (f : model.Field) → slice_get o.fields i ≡ Some f → p.slot n i ≡ b → ⊥
  apart i f e w = fits.apart j is (ap job_is_done copy) i (has_it i f e) w

  slot_new : q.slot n j.field ≡ b
  slot_new = rw (eqb_same n, eqb_same j.field) refl

  slot_kept : (i : ℕ) → (i ≡ j.field → ⊥) → q.slot n i ≡ p.slot n i
  slot_kept i other =
      pick (eqb i j.field) (λ c. cond (eqb n n && c) b (p.slot n i) ≡ p.slot n i) (λ e. absurd (other (eqb-true i j.field e)))
      (λ _. rw (eqb_same n) refl)

  new_at : slice_get (change o).fields j.field ≡ Some (g its)
  new_at = get_changed j.field g o.fields j.field ∙ rw (at, eqb_same j.field) refl

  kept_field : (i : ℕ) → (i ≡ j.field → ⊥) → slice_get (change o).fields i ≡ slice_get o.fields i
  kept_field i other =
      get_changed j.field g o.fields i ∙ pick (eqb i j.field)
      (λ c. option_map (λ (x : model.Field). cond c (g x) x) (slice_get o.fields i) ≡ slice_get o.fields i)
      (λ e. absurd (other (eqb-true i j.field e))) (λ _. same (slice_get o.fields i))
    where
      same : (x : Option model.Field) → option_map (λ (x : model.Field). x) x ≡ x
      same None = refl
      same (Some x) = refl

  -- a field, before or after, that has a slot
  old_slot : slot_field p n o.fields a ≡ Some (j.field, its)
  old_slot = field_at (p.slot n) o.fields j.field its at (λ i f e w. fits.differ n i j.field (has_it i f e) (has_it j.field its at) w)

  old_none : slot_field p n o.fields b ≡ None
  old_none = field_none (p.slot n) o.fields b (λ i f e w. apart i f e w)

  -- a field of the changed object was there before
  was_there : (i : ℕ) (f : model.Field) → slice_get (change o).fields i ≡ Some f → (i ≡ j.field → ⊥) → slice_get o.fields i ≡ Some f
  was_there i f e other = sym (kept_field i other) ∙ e

  new_slot : slot_field q n (change o).fields b ≡ Some (j.field, g its)
  new_slot =
      subst (λ (x : ℕ). slot_field q n (change o).fields x ≡ Some (j.field, g its)) slot_new
      (field_at (q.slot n) (change o).fields j.field (g its) new_at (λ i f e w. alone i f e w))
    where
      alone : (i : ℕ) (f : model.Field) → slice_get (change o).fields i ≡ Some f → q.slot n i ≡ q.slot n j.field → i ≡ j.field
      alone i f e w =
          pick (eqb i j.field) (λ c. eqb i j.field ≡ c → i ≡ j.field)
          (λ same _. eqb-true i j.field same)
          (λ differ _.
          let other : i ≡ j.field → ⊥ = eqb-false i j.field differ in
          absurd (apart i f (was_there i f e other) (sym (slot_kept i other) ∙ w ∙ slot_new)))
          refl

  new_none : slot_field q n (change o).fields a ≡ None
  new_none = field_none (q.slot n) (change o).fields a (λ i f e w. no i f e w)
    where
      no : (i : ℕ) (f : model.Field) → slice_get (change o).fields i ≡ Some f → q.slot n i ≡ a → ⊥
      no i f e w =
          pick (eqb i j.field) (λ c. eqb i j.field ≡ c → ⊥)
          (λ same _. apart j.field its at (sym w ∙ ap (q.slot n) (eqb-true i j.field same) ∙ slot_new))
          (λ differ _.
          let other : i ≡ j.field → ⊥ = eqb-false i j.field differ in
          other
          (fits.differ n i j.field (has_it i f (was_there i f e other)) (has_it j.field its at) (sym (slot_kept i other) ∙ w)))
          refl

  other_slot : (x : ℕ) → eqb a x ≡ false → eqb b x ≡ false → slot_field q n (change o).fields x ≡ slot_field p n o.fields x
  other_slot x no_a no_b =
      field_apart (p.slot n) (q.slot n) g o.fields j.field x no_a (subst (λ (y : ℕ). eqb y x ≡ false) (sym slot_new) no_b)
      (λ i other. slot_kept i other)

  -- ---- a record of the object

  module _ (r : Record) (has : Has t.records r) (of : is_of n r ≡ true) where
    reached : is_past j.cursor r.id ≡ false
    reached =
        pick (is_past j.cursor r.id) (λ c. is_past j.cursor r.id ≡ c → c ≡ false)
        (λ _ past.
        absurd (nothing (filter_has (λ r. is_past j.cursor r.id) (records_of t n) r (filter_has (is_of n) t.records r has of) past)))
        (λ _ _. refl)
        refl
      where
        nothing : Has (filter (λ r. is_past j.cursor r.id) (records_of t n)) r → ⊥
        nothing there = subst (λ (xs : List Record). Has xs r) (take_none (filter (λ r. is_past j.cursor r.id) (records_of t n)) left) there

    converts : (v : Value) × (convert j.to (value_at r.values (suc j.field)) ≡ Some v)
    converts = found (new_value j r) refl some
      where
        passes : (not (is_copied j.phase j.cursor r.id) || is_some (new_value j r)) ≡ true
        passes = all_has (copies j) (those_of n t.records) r h.copied (filter_has (is_of n) t.records r has of)

        some : is_some (new_value j r) ≡ true
        some =
            let copied : is_copied j.phase j.cursor r.id ≡ true =
            ap (λ (f : Phase). is_copied f j.cursor r.id) copy ∙ not_past j.cursor r.id reached in
            sym (ap (λ (c : Bool). not c || is_some (new_value j r)) copied) ∙ passes

        found : (x : Option Value) → new_value j r ≡ x → is_some x ≡ true → (v : Value) × (new_value j r ≡ Some v)
        found None e w = absurd cc
        found (Some v) e w = (v, e)

    abbrev v : Value
    v = converts.0

    abbrev later : Record
    later = record r { values = slice_set r.values (suc j.field) v }

    later_is : converted j r ≡ later
    later_is = rw (of, converts.1) refl

    valid_old : all_valid (kinds_of o) r.values ≡ true
    valid_old =
        let x = of_has (IsSoundRecord (known t) t.objects) t.records r s.records.each has in
        let same : x.object ≡ o = some_is x.object o (sym x.there ∙ ap (slice_get t.objects) (eqb-true (object_number r.id) n of) ∙ here) in
        subst (λ (z : model.Object). all_valid (kinds_of z) r.values ≡ true) same x.values

    kind_at : slice_get (kinds_of o) (suc j.field) ≡ Some its.kind
    kind_at = get_mapped (λ (f : model.Field). f.kind) o.fields j.field its at

    new_here : value_at later.values (suc j.field) ≡ v
    new_here = set_here (kinds_of o) r.values (suc j.field) its.kind v valid_old kind_at

    new_other : (i : ℕ) → (i ≡ j.field → ⊥) → value_at later.values (suc i) ≡ value_at r.values (suc i)
    new_other i other = set_other r.values (suc i) (suc j.field) v (λ e. other (less e))
      where
        less : suc i ≡ suc j.field → i ≡ j.field
        less e = omega (arith, e)

    name_kept : value_at later.values 0 ≡ value_at r.values 0
    name_kept = set_other r.values 0 (suc j.field) v (λ e. differ e)
      where
        differ : 0 ≡ suc j.field → ⊥
        differ e = omega (arith, e)

    -- what is in a slot, before and after
    abbrev other_value : Entry
    other_value = entry_of its j.to v

    abbrev old_value : Entry
    old_value = entry_of its its.kind (value_at r.values (suc j.field))

    copied_entry : job_entry p j r its ≡ Some other_value
    copied_entry =
        subst (λ (f : Phase). option_map (entry_of its (slot_type p j f j.outcome)) (job_value p j f r) ≡ Some other_value) (sym copy)
        (rw (reached, converts.1) refl)

    left_value : changing_value t j r.id ≡ Some (value_at r.values (suc j.field))
    left_value = rw (found_itself t.records r s.records.rise has, of) refl

    left_entry : job_entry q after later (g its) ≡ Some old_value
    left_entry = rw (left_value, was_is) refl

    old_a : slot_entry p (Some j) n o r a ≡ Some (field_entry r (j.field, its))
    unfolding slot_entry
    old_a = rw old_slot refl

    old_b : slot_entry p (Some j) n o r b ≡ Some other_value
    unfolding slot_entry
    old_b = rw (old_none, eqb_same n, eqb_same b, at) copied_entry

    new_b : slot_entry q (Some after) n (change o) later b ≡ Some (field_entry later (j.field, g its))
    unfolding slot_entry
    new_b = rw new_slot refl

    new_a : slot_entry q (Some after) n (change o) later a ≡ Some old_value
    unfolding slot_entry
    new_a = rw (new_none, eqb_same n, eqb_same a, new_at) left_entry

    elsewhere : (x : ℕ) → eqb a x ≡ false → eqb b x ≡ false → slot_entry q (Some after) n (change o) later x ≡ slot_entry p (Some j) n o r x
    unfolding slot_entry
    elsewhere x no_a no_b = rw (other_slot x no_a no_b, no_a, no_b, eqb_same n) (by (slot_field p n o.fields x) refl)
      where
        by : (f : Option (ℕ × model.Field)) → slot_field p n o.fields x ≡ f
            → in_case f None (λ (f : ℕ × model.Field). Some (field_entry later f))
            ≡ in_case f None (λ (f : ℕ × model.Field). Some (field_entry r f))
        by None e = refl
        by (Some f) e =
            let its_own : eqb (p.slot n f.0) x ≡ true =
            found_is (λ (f : ℕ × model.Field). eqb (p.slot n f.0) x) (enumerate_from 0 o.fields) f e in
            ap (λ (w : Value). Some (entry_of f.1 f.1.kind w))
            (new_other f.0 (λ same. clash (sym no_a ∙ ap (λ (i : ℕ). eqb (p.slot n i) x) (sym same) ∙ its_own)))

    abbrev Stays : ℕ → Type 0
    Stays x = slot_entry q (Some after) n (change o) later x ≡ slot_entry p (Some j) n o r x

    entry_same : (x : ℕ) → Stays x
    entry_same x =
        pick (eqb a x) (λ c. eqb a x ≡ c → Stays x)
        (λ here _. subst Stays (eqb-true a x here) (new_a ∙ sym old_a))
        (λ no_a _.
        pick (eqb b x) (λ c. eqb b x ≡ c → Stays x)
        (λ here _. subst Stays (eqb-true b x here) (new_b ∙ ap (λ (w : Value). Some (entry_of its j.to w)) new_here ∙ sym old_b))
        (λ no_b _. elsewhere x no_a no_b)
        refl)
        refl

    entry_kept : (x : ℕ) → slot_entry q (Some after) n (change o) later x ≡ slot_entry p t.job n o r x
    entry_kept x =
        subst (λ (job : Option model.Job). slot_entry q (Some after) n (change o) later x ≡ slot_entry p job n o r x) (sym is)
        (entry_same x)

    kept_later : KeptAlike (kept_in q u n (change o) later) (kept_in p t n o r)
    kept_later =
        record {
          id = refl;
          name = ap name_text name_kept;
          owner = refl;
          created = refl;
          modified = refl;
          entries = λ x. alike_same (slot_entry q (Some after) n (change o) later x) (slot_entry p t.job n o r x) (entry_kept x);
        }

    kept_here : KeptAlike (kept_in q u n (change o) (converted j r)) (kept_in p t n o r)
    kept_here = subst (λ (z : Record). KeptAlike (kept_in q u n (change o) z) (kept_in p t n o r)) (sym later_is) kept_later

  -- ---- records of other objects

  entry_apart : (m : ℕ) (x : model.Object) (r : Record) (y : ℕ) → eqb m n ≡ false
      → slot_entry q (Some after) m x r y ≡ slot_entry p (Some j) m x r y
  unfolding slot_entry
  entry_apart m x r y e = rw (e, flip m n e) refl

  kept_apart : (m : ℕ) (x : model.Object) (r : Record) → eqb m n ≡ false → is_of m r ≡ true
      → KeptAlike (kept_in q u m x (converted j r)) (kept_in p t m x r)
  kept_apart m x r e of = subst (λ (z : Record). KeptAlike (kept_in q u m x z) (kept_in p t m x r)) (sym same) alike
    where
      not_its : is_of n r ≡ false
      not_its = subst (λ (i : ℕ). eqb i n ≡ false) (sym (eqb-true (object_number r.id) m of)) e

      same : converted j r ≡ r
      same = rw not_its refl

      entry_kept : (y : ℕ) → slot_entry q (Some after) m x r y ≡ slot_entry p t.job m x r y
      entry_kept y =
          subst (λ (job : Option model.Job). slot_entry q (Some after) m x r y ≡ slot_entry p job m x r y) (sym is) (entry_apart m x r y e)

      alike : KeptAlike (kept_in q u m x r) (kept_in p t m x r)
      alike =
          record {
            id = refl;
            name = refl;
            owner = refl;
            created = refl;
            modified = refl;
            entries = λ y. alike_same (slot_entry q (Some after) m x r y) (slot_entry p t.job m x r y) (entry_kept y);
          }

  same_id : (r : Record) → (converted j r).id ≡ r.id
  same_id r =
      pick (is_of n r)
      (λ c. (cond c (in_case (new_value j r) r (λ v. record r { values = slice_set r.values (suc j.field) v })) r).id ≡ r.id)
      (λ _. by (new_value j r)) (λ _. refl)
    where
      by : (x : Option Value) → (in_case x r (λ v. record r { values = slice_set r.values (suc j.field) v })).id ≡ r.id
      by None = refl
      by (Some v) = refl

  same_of : (m : ℕ) (r : Record) → is_of m (converted j r) ≡ is_of m r
  same_of m r = ap (λ (i : List ℕ). eqb (object_number i) m) (same_id r)

  -- ---- the rows of records

  none_after : (m : ℕ) (rs : List Record) → ((r : Record) → Has rs r → is_of m r ≡ false) → (r : Record) → Has (map (converted j) rs) r
      → is_of m r ≡ false
  none_after m [] idle r has = absurd has
  none_after m (x ∷ rs) idle r (inl e) = ap (is_of m) e ∙ same_of m x ∙ idle x (inl refl)
  none_after m (x ∷ rs) idle r (inr has) = none_after m rs (λ y h. idle y (inr h)) r has

  pub records_stay : (m : ℕ) (k : Key) → object_of_records k ≡ Some m → row_in q u k ≡ row_in p t k
  records_stay m k e = by (object_numbered t m) refl
    where
      by : (x : Option model.Object) → object_numbered t m ≡ x → row_in q u k ≡ row_in p t k
      by None gone =
          let idle = no_records t m s gone in
          none q u m (none_after m t.records idle) k e ∙ sym (none p t m idle k e)
      by (Some x) there =
          kept p q t u m x (cond (eqb m n) (change x) x) (converted j) same_id there
          (get_changed n change t.objects m ∙ ap (option_map (λ (x : model.Object). cond (eqb m n) (change x) x)) there)
          refl
          (λ r has of.
          pick (eqb m n) (λ c. eqb m n ≡ c → KeptAlike (kept_in q u m (cond c (change x) x) (converted j r)) (kept_in p t m x r))
          (λ same _.
          let here_too : m ≡ n = eqb-true m n same in
          let object : x ≡ o = some_is x o (sym there ∙ ap (slice_get t.objects) here_too ∙ here) in
          subst (λ (z : ℕ × model.Object). KeptAlike (kept_in q u z.0 (change z.1) (converted j r)) (kept_in p t z.0 z.1 r))
          (λ i. (sym here_too i, sym object i))
          (kept_here r has (subst (λ (z : ℕ). is_of z r ≡ true) here_too of)))
          (λ other _. kept_apart m x r other of)
          refl)
          k e

  -- ---- all rows

  length_changed : {X : Type 0} (i : ℕ) (f : X → X) (xs : List X) → length (change_at i f xs) ≡ length xs
  length_changed i f [] = refl
  length_changed zero f (x ∷ xs) = refl
  length_changed (suc i) f (x ∷ xs) = ap suc (length_changed i f xs)

  -- what is looked for in an object, where the change keeps it
  through : {Y : Type 0} (look : model.Object → Option Y) (m : ℕ) → ((x : model.Object) → eqb m n ≡ true → look (change x) ≡ look x)
      → option_and_then look (object_numbered u m) ≡ option_and_then look (object_numbered t m)
  through {Y} look m same = ap (option_and_then look) (get_changed n change t.objects m) ∙ by (object_numbered t m)
    where
      by : (x : Option model.Object)
          → option_and_then look (option_map (λ (x : model.Object). cond (eqb m n) (change x) x) x) ≡ option_and_then look x
      by None = refl
      by (Some x) = pick (eqb m n) (λ c. eqb m n ≡ c → look (cond c (change x) x) ≡ look x) (λ _ e. same x e) (λ _ _. refl) refl

  -- how many records are in the list with this one, where it is of the object
  abbrev more_of : Bool → Record → List Record → ℕ
  more_of c r rs = length (cond c (r ∷ rs) rs)

  counted : (m : ℕ) (rs : List Record) → length (filter (is_of m) (map (converted j) rs)) ≡ length (filter (is_of m) rs)
  counted m [] = refl
  counted m (r ∷ rs) =
      subst
      (λ (c : Bool). more_of c (converted j r) (filter (is_of m) (map (converted j) rs)) ≡ more_of (is_of m r) r (filter (is_of m) rs))
      (sym (same_of m r))
      (pick (is_of m r) (λ c. more_of c (converted j r) (filter (is_of m) (map (converted j) rs)) ≡ more_of c r (filter (is_of m) rs))
      (λ _. ap suc (counted m rs))
      (λ _. counted m rs))

  -- the row of an object, before and after
  abbrev row_before : (org m : ℕ) → model.Object → List ℕ
  row_before org m x = row_bytes object_form (row_of_object org t m x)

  abbrev row_after : (org m : ℕ) → model.Object → List ℕ
  row_after org m x = row_bytes object_form (row_of_object org u m x)

  object_row : (org m : ℕ) → option_map (row_after org m) (object_numbered u m) ≡ option_map (row_before org m) (object_numbered t m)
  object_row org m = ap (option_map (row_after org m)) (get_changed n change t.objects m) ∙ by (object_numbered t m)
    where
      by : (x : Option model.Object)
          → option_map (row_after org m) (option_map (λ (x : model.Object). cond (eqb m n) (change x) x) x)
          ≡ option_map (row_before org m) x
      by None = refl
      by (Some x) =
          pick (eqb m n) (λ c. ◌≡◌ {A = Option (List ℕ)} (Some (row_after org m (cond c (change x) x))) (Some (row_before org m x)))
          (λ _. rw (counted m t.records, length_changed j.field g x.fields) refl)
          (λ _. rw (counted m t.records) refl)

  field_row : (org m i : ℕ) → (eqb m n && eqb i j.field) ≡ false
      → option_map (λ (f : model.Field). row_bytes field_form (field_of org q m i f))
      (option_and_then (λ (x : model.Object). slice_get x.fields i) (object_numbered u m))
      ≡ option_map (λ (f : model.Field). row_bytes field_form (field_of org p m i f))
      (option_and_then (λ (x : model.Object). slice_get x.fields i) (object_numbered t m))
  field_row org m i e =
      ap (option_map (λ (f : model.Field). row_bytes field_form (field_of org q m i f)))
      (through (λ (x : model.Object). slice_get x.fields i) m kept_one) ∙ rw e refl
    where
      kept_one : (x : model.Object) → eqb m n ≡ true → slice_get (change x).fields i ≡ slice_get x.fields i
      kept_one x same =
          get_changed j.field g x.fields i ∙ rw (ap (λ (c : Bool). c && eqb i j.field) (sym same) ∙ e) (same_option (slice_get x.fields i))
        where
          same_option : (x : Option model.Field) → option_map (λ (x : model.Field). x) x ≡ x
          same_option None = refl
          same_option (Some x) = refl

  pub rows_stay : (k : Key) → is_field_key n j.field k ≡ false → is_job_key k ≡ false → row_in q u k ≡ row_in p t k
  unfolding row_in
  rows_stay Version e f = refl
  rows_stay (Org org) e f = rw (length_changed n change t.objects, mapped_length (converted j) t.records) refl
  rows_stay (Object org m) e f = object_row org m
  rows_stay (Field org m i) e f = field_row org m i e
  rows_stay (Job org) e f = absurd cc
  rows_stay (User org id) e f = refl
  rows_stay (Role org id) e f = refl
  rows_stay (Group org id) e f = refl
  rows_stay (Validation org m name) e f =
      ap (option_map (λ r. row_bytes validation_form (validation_of org m r)))
      (through (λ (x : model.Object). named_so (λ r. r.name) x.validation_rules name) m (λ x same. refl))
  rows_stay (Sharing org name) e f = refl
  rows_stay (Data org m id) e f = records_stay m (Data org m id) refl
  rows_stay (Index org m slot value id) e f = records_stay m (Index org m slot value id) refl
  rows_stay (Unique org m slot value) e f = records_stay m (Unique org m slot value) refl
  rows_stay (Relation org m slot target id) e f = records_stay m (Relation org m slot target id) refl
  rows_stay (Owner org m owner id) e f = refl
  rows_stay (Share org id to) e f = refl
  rows_stay (Grant org to m id cause) e f = refl

  -- ---- the plan fits

  -- an object has a field with this number
  abbrev has_in : ℕ → Option model.Object → Bool
  has_in i x = is_some (option_and_then (λ (x : model.Object). slice_get x.fields i) x)

  has_changed : (m i : ℕ) (x : Option model.Object)
      → has_in i (option_map (λ (x : model.Object). cond (eqb m n) (change x) x) x) ≡ has_in i x
  has_changed m i None = refl
  has_changed m i (Some x) =
      pick (eqb m n) (λ c. is_some (slice_get (cond c (change x) x).fields i) ≡ is_some (slice_get x.fields i))
      (λ _. ap is_some (get_changed j.field g x.fields i) ∙ by (slice_get x.fields i))
      (λ _. refl)
    where
      by : (y : Option model.Field) → is_some (option_map (λ (y : model.Field). cond (eqb i j.field) (g y) y) y) ≡ is_some y
      by None = refl
      by (Some y) = refl

  had : (m i : ℕ) → IsTrue (has_field u m i) → IsTrue (has_field t m i)
  had m i has = sym (has_changed m i (object_numbered t m)) ∙ sym (ap (has_in i) (get_changed n change t.objects m)) ∙ has

  -- the slot of a field: that of the change for the one that was switched
  abbrev SlotIs : ℕ → ℕ → Type 0
  SlotIs m i = ((m ≡ n) × (i ≡ j.field) × (q.slot m i ≡ b)) ⊎ (((m ≡ n) → (i ≡ j.field) → ⊥) × (q.slot m i ≡ p.slot m i))

  slot_is : (m i : ℕ) → SlotIs m i
  slot_is m i =
      pick (eqb m n && eqb i j.field) (λ c. (eqb m n && eqb i j.field) ≡ c → SlotIs m i)
      (λ same _.
      let object : m ≡ n = eqb-true m n (and_first (eqb m n) (eqb i j.field) same) in
      let field : i ≡ j.field = eqb-true i j.field (and_second (eqb m n) (eqb i j.field) same) in
      inl (object, field, rw same refl))
      (λ other _.
      inr ((λ m_is i_is. clash (sym other ∙ both (eqb m n) (eqb i j.field) (eq-eqb m n m_is) (eq-eqb i j.field i_is))), rw other refl))
      refl

  its_slot : IsTrue (has_field t n j.field)
  its_slot = has_it j.field its at

  apart_at : (m i : ℕ) → m ≡ n → IsTrue (has_field t m i) → p.slot m i ≡ b → ⊥
  apart_at m i e has w =
      fits.apart j is (ap job_is_done copy) i (subst (λ (x : ℕ). IsTrue (has_field t x i)) e has) (ap (λ (x : ℕ). p.slot x i) (sym e) ∙ w)

  sound_field : IsSoundField (length t.objects) its
  sound_field = all_at (IsSoundField (length t.objects)) o.fields j.field its (sound_object t n o s here).fields at

  pub plan_fits : FitsPlan q u
  plan_fits = record {
    below = λ m i has. below_by m i (had m i has) (slot_is m i);
    differ = λ m i k hi hk e. differ_by m i k (had m i hi) (had m k hk) (slot_is m i) (slot_is m k) e;
    other = fits.below n j.field its_slot;
    apart = λ k e busy i has w.
        apart_by i (had n i (subst (λ (x : model.Job). IsTrue (has_field u x.object i)) (sym (some_is after k e)) has)) (slot_is n i)
        (subst (λ (x : model.Job). q.slot x.object i ≡ a) (sym (some_is after k e)) w);
    was = subst (λ (k : FieldType). IsTrue (is_type k && not (is_reference k))) (sym was_is) plain;
    switched = λ k f e clear done there. switched_by k f e there;
    left = λ k i w e clear left. left_by k i w e left;
  }
    where
      not_ref : (b : Bool) → b ≡ false → not b ≡ true
      not_ref false e = refl
      not_ref true e = absurd cc

      plain : IsTrue (is_type its.kind && not (is_reference its.kind))
      plain = both (is_type its.kind) (not (is_reference its.kind)) sound_field.kind (not_ref (is_reference its.kind) h.change.reference)

      below_by : (m i : ℕ) → IsTrue (has_field t m i) → SlotIs m i → q.slot m i < slot_count
      below_by m i has (inl w) = subst (λ (x : ℕ). x < slot_count) (sym w.2) fits.other
      below_by m i has (inr w) = subst (λ (x : ℕ). x < slot_count) (sym w.1) (fits.below m i has)

      differ_by : (m i k : ℕ) → IsTrue (has_field t m i) → IsTrue (has_field t m k) → SlotIs m i → SlotIs m k → q.slot m i ≡ q.slot m k
          → i ≡ k
      differ_by m i k hi hk (inl x) (inl y) e = x.1 ∙ sym y.1
      differ_by m i k hi hk (inl x) (inr y) e = absurd (apart_at m k x.0 hk (sym y.1 ∙ sym e ∙ x.2))
      differ_by m i k hi hk (inr x) (inl y) e = absurd (apart_at m i y.0 hi (sym x.1 ∙ e ∙ y.2))
      differ_by m i k hi hk (inr x) (inr y) e = fits.differ m i k hi hk (sym x.1 ∙ e ∙ y.1)

      apart_by : (i : ℕ) → IsTrue (has_field t n i) → SlotIs n i → q.slot n i ≡ a → ⊥
      apart_by i has (inl x) w = apart j.field its at (sym w ∙ x.2)
      apart_by i has (inr x) w = x.0 refl (fits.differ n i j.field has its_slot (sym x.1 ∙ w))

      object_after : slice_get u.objects n ≡ Some (change o)
      object_after = get_changed n change t.objects n ∙ rw (here, eqb_same n) refl

      field_after : job_field u.objects after ≡ Some (g its)
      field_after = ap (option_and_then (λ (x : model.Object). slice_get x.fields j.field)) object_after ∙ new_at

      switched_by : (k : model.Job) (f : model.Field) → u.job ≡ Some k → job_field u.objects k ≡ Some f
          → IsTrue ((not f.indexed || suits_indexed q.was) && convertible q.was k.to)
      switched_by k f e there =
          subst
          (λ (x : model.Job). job_field u.objects x ≡ Some f → IsTrue ((not f.indexed || suits_indexed q.was) && convertible q.was x.to))
          (some_is after k e)
          (λ w.
          subst (λ (y : model.Field). IsTrue ((not y.indexed || suits_indexed q.was) && convertible q.was j.to))
          (some_is (g its) f (sym field_after ∙ w))
          (subst (λ (kind : FieldType). IsTrue ((not its.indexed || suits_indexed kind) && convertible kind j.to)) (sym was_is)
          (both (implies its.indexed (suits_indexed its.kind)) (convertible its.kind j.to) sound_field.indexed h.change.converts)))
          there

      valid_left : (i : List ℕ) (v : Value) (x : Option Record) → record_at t i ≡ x
          → option_and_then (λ (r : Record). cond (is_of n r) (Some (value_at r.values (suc j.field))) None) x ≡ Some v
          → valid its.kind v ≡ true
      valid_left i v None e w = absurd cc
      valid_left i v (Some r) e w =
          pick (is_of n r) (λ c. is_of n r ≡ c → cond c (Some (value_at r.values (suc j.field))) None ≡ Some v → valid its.kind v ≡ true)
          (λ of _ w.
          let has : Has t.records r = (found_id t.records i r e).1 in
          subst (λ (z : Value). valid its.kind z ≡ true) (some_is (value_at r.values (suc j.field)) v w)
          (valid_at (kinds_of o) r.values (suc j.field) its.kind (valid_old r has of) (kind_at r has of)))
          (λ _ _ w. absurd (none_is v w))
          refl w

      left_by : (k : model.Job) (i : List ℕ) (v : Value) → u.job ≡ Some k → q.left i ≡ Some v → IsTrue (valid (type_there q k) v)
      left_by k i v e w =
          subst (λ (x : model.Job). IsTrue (valid (type_there q x) v)) (some_is after k e)
          (subst (λ (z : FieldType). valid z v ≡ true) (sym was_is) (valid_left i v (record_at t i) refl w))
