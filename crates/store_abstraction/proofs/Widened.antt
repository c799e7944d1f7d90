-- One more field, in a free slot: all records keep their rows.
use Rattle.std.proofs.Common.{◌≡◌, ℕ, suc, ◌+◌, ◌<◌, Bool, true, false, not, ◌&&◌, cond, eqb, IsTrue, List, [], ◌∷◌, ◌++◌, map, length, Option, Some, None, refl, sym, ap, ◌∙◌, subst, arith, inl, inr}
use Rattle.std.specs.Prelude.{if◌then◌else◌, is_none, slice_get}
use Rattle.std.specs.List.{AllByRecursion, enumerate_from, find}
use Rattle.std.specs.Option.{option_and_then, option_map}
use Rattle.std.proofs.lemmas.Bool.{eqb-true, not-true as not_true}
use Rattle.std.proofs.lemmas.List.{get_or_push}
use Rattle.base_lemmas.proofs.Bools.{and-false as no_index, and_first as and_left, and_second as and_right, by_answer as pick}
use Rattle.base_lemmas.proofs.Numbers.{eqb-less as eqb_less, eqb-self as eqb_same}
use Rattle.std.proofs.lemmas.Option.{slice_get_within as get_below, same_Some as some_is}
use Rattle.base_lemmas.proofs.Lists.{length-map_by as mapped_length}
use lib.ListN.{get_or-append}
use Rattle.formula.specs.Meaning.{value_at}
use Rattle.store_rows.specs.Keys.{Key}
use Rattle.model.specs.declared.record.Record.{Record}
use Rattle.model.specs.Cases.{in_case}
use Rattle.model.specs.Known.{known}
use Rattle.model.specs.Membership.{Has}
use Rattle.model.specs.NewFields.{with_field}
use Rattle.model.specs.Objects.{is_of, object_number, object_numbered}
use Rattle.model.specs.Sound.{IsSound}
use Rattle.model.specs.SoundJob.{HasSoundJob}
use Rattle.model.specs.SoundRecords.{IsSoundRecord, all_valid, kinds_of}
use Rattle.model.specs.Tenant.{Field, Job, Object, Tenant}
use Rattle.store_abstraction.specs.Entries.{Entry, field_entry, job_entry, job_value, name_text, other_entry, slot_entry, slot_field}
use Rattle.store_abstraction.specs.Plan.{OrgPlan}
use Rattle.store_abstraction.specs.Records.{Alike, KeptAlike, is_free, is_other, object_of_records, suits_flags, with_slot}
use Rattle.store_abstraction.specs.Stands.{kept_in, row_in}
use Rattle.store_abstraction.proofs.Free.{free_other}
use Rattle.store_abstraction.proofs.Kept.{kept, none}
use Rattle.store_abstraction.proofs.Lookups.{get_push}
use Rattle.store_abstraction.proofs.Placed.{alike_same, entry_same, get_changed, kept_alike, no_records, other_same}
use Rattle.base_value.specs.Reading.{empty_value}
use Rattle.base_value.specs.declared.job.Phase.{Phase}
use Rattle.base_value.specs.declared.job.Phase.TheVariants as phase
use Rattle.base_value.specs.declared.value.FieldType.{FieldType}
use Rattle.base_value.specs.declared.value.FieldType.TheVariants as type
use Rattle.base_value.specs.declared.value.Value.{Value}
use Rattle.base_value.specs.declared.value.Value.TheVariants as value
use Rattle.base_value.specs.Types.{suits_indexed, suits_unique}
use Rattle.model.specs.SoundMetadata.{implies}

-- ---- lists

-- one that is found is numbered below the end
found_below : {X : Type 0} (test : ℕ × X → Bool) (xs : List X) (a : ℕ) (g : ℕ × X) → find test (enumerate_from a xs) ≡ Some g → g.0 < a + length xs
found_below test [] a g e = absurd cc
found_below test (x ∷ xs) a g e =
    pick (test (a, x)) (λ b. cond b (Some (a, x)) (find test (enumerate_from (a + 1) xs)) ≡ Some g → g.0 < a + suc (length xs))
    (λ _ is. subst (λ (y : ℕ × _). y.0 < a + suc (length xs)) (some_is (a, x) g is) (omega arith))
    (λ _ is. omega (arith, found_below test xs (a + 1) g is))
    e

of_has : {X : Type 0} (P : X → Type 0) (xs : List X) (x : X) → AllByRecursion P xs → Has xs x → P x
of_has P [] x all h = absurd h
of_has P (y ∷ xs) x all (inl e) = subst P (sym e) all.0
of_has P (y ∷ xs) x all (inr h) = of_has P xs x all.1 h

has_mapped : {X : Type 0} (f : X → X) (xs : List X) (y : X) → Has (map f xs) y → (x : X) × Has xs x × (y ≡ f x)
has_mapped f [] y h = absurd h
has_mapped f (x ∷ xs) y (inl e) = (x, inl refl, e)
has_mapped f (x ∷ xs) y (inr h) =
    let (z, there, is) = has_mapped f xs y h in
    (z, inr there, is)

-- ---- values

-- a record has one value for each type
valid_length : (ks : List FieldType) (vs : List Value) → IsTrue (all_valid ks vs) → length vs ≡ length ks
valid_length [] [] h = refl
valid_length [] (v ∷ vs) h = absurd cc
valid_length (k ∷ ks) [] h = absurd cc
valid_length (k ∷ ks) (v ∷ vs) h = ap suc (valid_length ks vs (and_right _ _ h))

-- ---- an entry of a new field is like none

empty_by : (k : FieldType) (indexed unique : Bool) → IsTrue (implies unique (suits_unique k) && implies indexed (suits_indexed k)) → Alike (Some (record { kind = k; value = empty_value k; indexed = indexed; unique = unique })) None
empty_by type.Checkbox false false h = record { text = refl; indexed = λ key. refl; unique = λ key. refl; reference = λ target. refl }
empty_by type.Checkbox false true h = absurd cc
empty_by type.Checkbox true false h = absurd cc
empty_by type.Checkbox true true h = absurd cc
empty_by k i u h = record { text = refl; indexed = λ key. no_index i; unique = λ key. no_index u; reference = λ target. refl }

-- ---- the fields with the new one

module _ (p : OrgPlan) (n : ℕ) (o : Object) (f : Field) (s : ℕ) where
  abbrev last : ℕ
  last = length o.fields

  abbrev wider : OrgPlan
  wider = with_slot n last s p

  abbrev widened : Object
  widened = record o { fields = o.fields ++ f ∷ [] }

  slot_last : wider.slot n last ≡ s
  slot_last = rw (eqb_same n, eqb_same last) refl

  slot_before : (a : ℕ) → a < last → wider.slot n a ≡ p.slot n a
  slot_before a h = rw (eqb_same n, eqb_less a last h) refl

  -- the field with a slot: one of before, or the new one
  abbrev or_new : ℕ → Option (ℕ × Field) → Option (ℕ × Field)
  or_new y g = in_case g (cond (eqb s y) (Some (last, f)) None) (λ x. Some x)

  find_grown : (y : ℕ) (xs : List Field) (a : ℕ) → a + length xs ≡ last
      → find (λ (g : ℕ × Field). eqb (wider.slot n g.0) y) (enumerate_from a (xs ++ f ∷ [])) ≡ or_new y (find (λ (g : ℕ × Field). eqb (p.slot n g.0) y) (enumerate_from a xs))
  find_grown y [] a h =
      subst (λ (b : ℕ). ◌≡◌ {A = Option (ℕ × Field)} (cond (eqb (wider.slot n b) y) (Some (b, f)) None) (cond (eqb s y) (Some (last, f)) None)) (is h)
      (ap (λ (x : ℕ). cond {A = Option (ℕ × Field)} (eqb x y) (Some (last, f)) None) slot_last)
    where
      is : a + 0 ≡ last → last ≡ a
      is h = omega (arith, h)
  find_grown y (x ∷ xs) a h =
      let rest = find_grown y xs (a + 1) (omega (arith, h)) in
      ap (λ (z : ℕ). cond {A = Option (ℕ × Field)} (eqb z y) (Some (a, x)) (find (λ (g : ℕ × Field). eqb (wider.slot n g.0) y) (enumerate_from (a + 1) (xs ++ f ∷ [])))) (slot_before a (omega (arith, h)))
      ∙ pick (eqb (p.slot n a) y) (λ b. ◌≡◌ {A = Option (ℕ × Field)} (cond b (Some (a, x)) (find (λ (g : ℕ × Field). eqb (wider.slot n g.0) y) (enumerate_from (a + 1) (xs ++ f ∷ [])))) (or_new y (cond b (Some (a, x)) (find (λ (g : ℕ × Field). eqb (p.slot n g.0) y) (enumerate_from (a + 1) xs)))))
      (λ _. refl)
      (λ _. rest)

  abbrev grown : Record → Record
  grown r = record r { values = r.values ++ empty_value f.kind ∷ [] }

  value_before : (r : Record) (i : ℕ) → i < length r.values → value_at (grown r).values i ≡ value_at r.values i
  value_before r i h = get_or-append r.values (empty_value f.kind ∷ []) value.Null i h

  value_last : (r : Record) → length r.values ≡ suc last → value_at (grown r).values (suc last) ≡ empty_value f.kind
  value_last r h = get_or_push r.values (empty_value f.kind) value.Null (suc last) h

  -- ---- what a change of a type has left

  job_value_grown : (j : Job) (h : Phase) (r : Record) → suc j.field < length r.values → job_value p j h (grown r) ≡ job_value p j h r
  job_value_grown j phase.Copy r below = rw (value_before r (suc j.field) below) refl
  job_value_grown j phase.Clear r below = refl
  job_value_grown j phase.Done r below = refl

  job_entry_grown : (j : Job) (r : Record) (g : Field) → suc j.field < length r.values → job_entry p j (grown r) g ≡ job_entry p j r g
  job_entry_grown j r g below = rw (job_value_grown j j.phase r below) refl

  module _ (t : Tenant) (sound : IsSound t) (here : object_numbered t n ≡ Some o) (r : Record) (size : length r.values ≡ suc last) where
    other_by : (y : ℕ) (job : Option Job) → HasSoundJob t.counter t.objects t.records job → other_entry p job n widened (grown r) y ≡ other_entry p job n o r y
    other_by y None h = refl
    other_by y (Some j) h =
        pick (eqb j.object n && eqb p.other y) (λ b. cond b (option_and_then (job_entry p j (grown r)) (slice_get widened.fields j.field)) None ≡ cond b (option_and_then (job_entry p j r) (slice_get o.fields j.field)) None) (λ e. both e) (λ _. refl)
      where
        there : (eqb j.object n && eqb p.other y) ≡ true → slice_get o.fields j.field ≡ Some h.field
        there e =
            let is : j.object ≡ n = eqb-true j.object n (and_left (eqb j.object n) (eqb p.other y) e) in
            sym (ap (option_and_then (λ (x : Object). slice_get x.fields j.field)) (ap (slice_get t.objects) is ∙ here)) ∙ h.there

        both : (eqb j.object n && eqb p.other y) ≡ true → option_and_then (job_entry p j (grown r)) (slice_get widened.fields j.field) ≡ option_and_then (job_entry p j r) (slice_get o.fields j.field)
        both e =
            let at = there e in
            let below = get_below o.fields j.field h.field at in
            let pushed : slice_get widened.fields j.field ≡ Some h.field = get_push o.fields f j.field ∙ rw (eqb_less j.field last below) at in
            ap (option_and_then (job_entry p j (grown r))) pushed ∙ job_entry_grown j r h.field (omega (arith, below, size)) ∙ sym (ap (option_and_then (job_entry p j r)) at)

    other_grown : (y : ℕ) → other_entry wider t.job n widened (grown r) y ≡ other_entry p t.job n o r y
    other_grown y = other_same wider.slot p t.job n widened (grown r) y ∙ other_by y t.job sound.job

    -- ---- each slot

    module _ (free : IsTrue (is_free p t.job n o s)) (suits : IsTrue (suits_flags f)) where
      idle : (y : ℕ) → eqb s y ≡ true → other_entry p t.job n o r y ≡ None
      idle y e =
          free_other p t.job n o r y
          (subst (λ (x : ℕ). is_other p t.job n x ≡ false) (eqb-true s y e)
          (not_true (is_other p t.job n s) (and_right (is_none (slot_field p n o.fields s)) (not (is_other p t.job n s)) free)))

      new_alike : Alike (Some (field_entry (grown r) (last, f))) None
      new_alike = subst (λ (v : Value). Alike (Some (record { kind = f.kind; value = v; indexed = f.indexed; unique = f.unique })) None) (sym (value_last r size)) (empty_by f.kind f.indexed f.unique suits)

      abbrev made : (y : ℕ) → Option (ℕ × Field) → Option Entry
      made y g = in_case g (other_entry wider t.job n widened (grown r) y) (λ x. Some (field_entry (grown r) x))

      entry_grown : (y : ℕ) → Alike (slot_entry wider t.job n widened (grown r) y) (slot_entry p t.job n o r y)
      unfolding slot_entry
      entry_grown y = by (slot_field p n o.fields y) refl
        where
          by : (g : Option (ℕ × Field)) → slot_field p n o.fields y ≡ g → Alike (made y (slot_field wider n widened.fields y)) (in_case g (other_entry p t.job n o r y) (λ x. Some (field_entry r x)))
          by (Some g) e =
              let new : slot_field wider n widened.fields y ≡ Some g = find_grown y o.fields 0 (omega arith) ∙ ap (or_new y) e in
              let below : suc g.0 < length r.values = omega (arith, size, found_below (λ (x : ℕ × Field). eqb (p.slot n x.0) y) o.fields 0 g e) in
              alike_same (made y (slot_field wider n widened.fields y)) (Some (field_entry r g)) (ap (made y) new ∙ ap (λ (v : Value). Some (record { kind = g.1.kind; value = v; indexed = g.1.indexed; unique = g.1.unique })) (value_before r (suc g.0) below))
          by None e =
              let new : slot_field wider n widened.fields y ≡ cond (eqb s y) (Some (last, f)) None = find_grown y o.fields 0 (omega arith) ∙ ap (or_new y) e in
              subst (λ (x : Option (ℕ × Field)). Alike (made y x) (other_entry p t.job n o r y)) (sym new)
              (pick (eqb s y) (λ b. Alike (made y (cond b (Some (last, f)) None)) (other_entry p t.job n o r y))
              (λ is. subst (λ (x : Option Entry). Alike (Some (field_entry (grown r) (last, f))) x) (sym (idle y is)) new_alike)
              (λ _. alike_same (other_entry wider t.job n widened (grown r) y) (other_entry p t.job n o r y) (other_grown y)))

      grown_alike : KeptAlike (kept_in wider t n widened (grown r)) (kept_in p t n o r)
      grown_alike = record {
        id = refl;
        name = ap name_text (value_before r 0 (omega (arith, size)));
        owner = refl;
        created = refl;
        modified = refl;
        entries = entry_grown;
      }

-- ---- all records

module _ (p : OrgPlan) (t : Tenant) (n : ℕ) (o : Object) (f : Field) (s : ℕ) (sound : IsSound t) (here : object_numbered t n ≡ Some o) (free : IsTrue (is_free p t.job n o s)) (suits : IsTrue (suits_flags f)) where
  abbrev change : Record → Record
  change r = if is_of n r then grown p n o f s r else r

  ids : (r : Record) → (change r).id ≡ r.id
  ids r = pick (is_of n r) (λ b. (cond b (grown p n o f s r) r).id ≡ r.id) (λ _. refl) (λ _. refl)

  sizes : (r : Record) → Has t.records r → is_of n r ≡ true → length r.values ≡ suc (length o.fields)
  sizes r h of =
      let sr : IsSoundRecord (known t) t.objects r = of_has (IsSoundRecord (known t) t.objects) t.records r sound.records.each h in
      let there : slice_get t.objects n ≡ Some sr.object = subst (λ (m : ℕ). slice_get t.objects m ≡ Some sr.object) (eqb-true (object_number r.id) n of) sr.there in
      let is : sr.object ≡ o = some_is sr.object o (sym there ∙ here) in
      valid_length (kinds_of o) r.values (subst (λ (x : Object). IsTrue (all_valid (kinds_of x) r.values)) is sr.values) ∙ ap suc (mapped_length (λ (x : Field). x.kind) o.fields)

  alike_here : (r : Record) → Has t.records r → is_of n r ≡ true → KeptAlike (kept_in (wider p n o f s) t n (widened p n o f s) (change r)) (kept_in p t n o r)
  alike_here r h of =
      subst (λ (b : Bool). KeptAlike (kept_in (wider p n o f s) t n (widened p n o f s) (cond b (grown p n o f s r) r)) (kept_in p t n o r)) (sym of)
      (grown_alike p n o f s t sound here r (sizes r h of) free suits)

  alike_there : (m : ℕ) (x : Object) → eqb m n ≡ false → (r : Record) → Has t.records r → is_of m r ≡ true → KeptAlike (kept_in (wider p n o f s) t m x (change r)) (kept_in p t m x r)
  alike_there m x apart r h of =
      let other : is_of n r ≡ false = subst (λ (i : ℕ). eqb i n ≡ false) (sym (eqb-true (object_number r.id) m of)) apart in
      subst (λ (b : Bool). KeptAlike (kept_in (wider p n o f s) t m x (cond b (grown p n o f s r) r)) (kept_in p t m x r)) (sym other)
      (kept_alike r (slot_entry (wider p n o f s) t.job m x r) (slot_entry p t.job m x r) (λ y. entry_same (wider p n o f s).slot p t.job m x r y (λ g. rw apart refl)))

  abbrev next : Tenant
  next = with_field n f t

  pub field_rows : (m : ℕ) (k : Key) → object_of_records k ≡ Some m → row_in (wider p n o f s) (with_field n f t) k ≡ row_in p t k
  field_rows m k e = by (object_numbered t m) refl
    where
      still : object_numbered t m ≡ None → (r : Record) → Has next.records r → is_of m r ≡ false
      still gone r h =
          let (x, there, is) = has_mapped change t.records r h in
          subst (λ (y : Record). is_of m y ≡ false) (sym is) (ap (λ (i : List ℕ). eqb (object_number i) m) (ids x) ∙ no_records t m sound gone x there)

      by : (x : Option Object) → object_numbered t m ≡ x → row_in (wider p n o f s) next k ≡ row_in p t k
      by None gone = none (wider p n o f s) next m (still gone) k e ∙ sym (none p t m (no_records t m sound gone) k e)
      by (Some x) there =
          let put : object_numbered next m ≡ Some (cond (eqb m n) (record x { fields = x.fields ++ f ∷ [] }) x) = get_changed n (λ (y : Object). record y { fields = y.fields ++ f ∷ [] }) t.objects m ∙ ap (option_map (λ (y : Object). cond (eqb m n) (record y { fields = y.fields ++ f ∷ [] }) y)) there in
          pick (eqb m n) (λ b. object_numbered next m ≡ Some (cond b (record x { fields = x.fields ++ f ∷ [] }) x) → row_in (wider p n o f s) next k ≡ row_in p t k)
          (λ is at.
          let same : m ≡ n = eqb-true m n is in
          let object : x ≡ o = some_is x o (sym there ∙ ap (slice_get t.objects) same ∙ here) in
          kept p (wider p n o f s) t next n o (widened p n o f s) change ids here (subst (λ (i : ℕ). object_numbered next i ≡ Some (widened p n o f s)) same (at ∙ ap (λ (y : Object). Some (record y { fields = y.fields ++ f ∷ [] })) object)) refl alike_here k (e ∙ ap Some same))
          (λ apart at. kept p (wider p n o f s) t next m x x change ids there at refl (alike_there m x apart) k e)
          put
