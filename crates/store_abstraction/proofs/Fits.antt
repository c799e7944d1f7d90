-- Plans that still fit where an object or a field comes.
use Rattle.std.proofs.Common.{◌≡◌, ◌⊎◌, ℕ, zero, suc, ◌+◌, ◌<◌, ◌≤◌, Bool, true, false, not, ◌&&◌, cond, eqb, IsTrue, List, [], ◌∷◌, ◌++◌, length, Option, Some, None, refl, sym, ap, ◌∙◌, subst, arith, inl, inr}
use Rattle.std.specs.Prelude.{is_none, is_some, slice_get}
use Rattle.std.specs.List.{enumerate_from, find}
use Rattle.std.specs.Option.{option_and_then, option_map}
use Rattle.std.proofs.lemmas.Bool.{eqb-true, not-true as not_true}
use Rattle.base_lemmas.proofs.Options.{some_there as there_is}
use Rattle.base_lemmas.proofs.Bools.{and_second as and_right, by_answer as pick}
use Rattle.base_lemmas.proofs.Numbers.{eqb-less as eqb_less, eqb-self as eqb_same}
use Rattle.std.proofs.lemmas.Option.{slice_get_within as get_below, none-some as none_is, same_Some as some_is}
use Rattle.base_lemmas.proofs.Lists.{slice_get-length as get_past}
use Rattle.model.specs.NewFields.{with_field}
use Rattle.model.specs.Objects.{object_numbered, with_object_changed}
use Rattle.model.specs.Retyping.{job_is_done}
use Rattle.model.specs.Sound.{IsSound}
use Rattle.model.specs.SoundJob.{HasSoundJob, job_field}
use Rattle.model.specs.Tenant.{Field, Job, Object, Tenant}
use Rattle.store_abstraction.specs.Entries.{slot_field}
use Rattle.store_abstraction.specs.Plan.{FitsPlan, OrgPlan, has_field, is_clearing, slot_count, type_there}
use Rattle.store_abstraction.specs.Records.{is_free, is_other, with_slot}
use Rattle.store_abstraction.proofs.Free.{free_field}
use Rattle.store_abstraction.proofs.Lookups.{get_push}
use Rattle.store_abstraction.proofs.Placed.{get_changed, not_last, placed, there_same}
use Rattle.base_value.specs.Values.{valid}

-- an object has a field with this number
abbrev has_in : (field : ℕ) → Option Object → Bool
has_in f o = is_some (option_and_then (λ (x : Object). slice_get x.fields f) o)

-- what is left is of its type under another slot too
left_placed : (slots : ℕ → ℕ → ℕ) (p : OrgPlan) (t : Tenant) → FitsPlan p t → (j : Job) (i : List ℕ) (v : _) → t.job ≡ Some j → is_clearing j.phase ≡ true → p.left i ≡ Some v → IsTrue (valid (type_there (placed slots p) j) v)
left_placed slots p t fits j i v at clear left = subst (λ k. IsTrue (valid k v)) (sym (there_same slots p j j.phase j.outcome)) (fits.left j i v at clear left)

-- the field with this number
abbrev field_of : (field : ℕ) → Option Object → Option Field
field_of f o = option_and_then (λ (x : Object). slice_get x.fields f) o

-- ---- an object that is changed but for its fields

pub fits_changed : (p : OrgPlan) (t : Tenant) (n : ℕ) (change : Object → Object) → ((o : Object) → (change o).fields ≡ o.fields) → FitsPlan p t → FitsPlan p (with_object_changed n change t)
fits_changed p t n change same fits = record {
  below = λ m f has. fits.below m f (kept m f has);
  differ = λ m f g hf hg e. fits.differ m f g (kept m f hf) (kept m g hg) e;
  other = fits.other;
  apart = λ j at busy f has e. fits.apart j at busy f (kept j.object f has) e;
  was = fits.was;
  switched = λ j f at clear done is. fits.switched j f at clear done (sym (kept_field j) ∙ is);
  left = fits.left;
}
  where
    field_same : (m f : ℕ) (o : Option Object) → field_of f (option_map (λ (x : Object). cond (eqb m n) (change x) x) o) ≡ field_of f o
    field_same m f None = refl
    field_same m f (Some o) = pick (eqb m n) (λ b. slice_get (cond b (change o) o).fields f ≡ slice_get o.fields f) (λ _. ap (λ (fs : List Field). slice_get fs f) (same o)) (λ _. refl)

    kept_field : (j : Job) → job_field (with_object_changed n change t).objects j ≡ job_field t.objects j
    kept_field j = ap (field_of j.field) (get_changed n change t.objects j.object) ∙ field_same j.object j.field (slice_get t.objects j.object)

    has_same : (m f : ℕ) (o : Option Object) → has_in f (option_map (λ (x : Object). cond (eqb m n) (change x) x) o) ≡ has_in f o
    has_same m f None = refl
    has_same m f (Some o) = pick (eqb m n) (λ b. is_some (slice_get (cond b (change o) o).fields f) ≡ is_some (slice_get o.fields f)) (λ _. ap (λ (fs : List Field). is_some (slice_get fs f)) (same o)) (λ _. refl)

    kept : (m f : ℕ) → IsTrue (has_field (with_object_changed n change t) m f) → IsTrue (has_field t m f)
    kept m f has = sym (has_same m f (object_numbered t m)) ∙ sym (ap (has_in f) (get_changed n change t.objects m)) ∙ has

-- ---- one more object

module _ (p : OrgPlan) (t : Tenant) (o : Object) (s : ℕ) (sound : IsSound t) (below : s < slot_count) (few : length o.fields ≤ 1) (fits : FitsPlan p t) where
  abbrev next : Tenant
  next = record t { objects = t.objects ++ o ∷ [] }

  abbrev plan : OrgPlan
  plan = with_slot (length t.objects) 0 s p

  -- a field of before, or the first of the new object
  old_or_new : (m f : ℕ) → IsTrue (has_field next m f) → IsTrue (has_field t m f) ⊎ ((m ≡ length t.objects) × (f ≡ 0))
  old_or_new m f has =
      pick (eqb m (length t.objects)) (λ b. has_in f (cond b (Some o) (slice_get t.objects m)) ≡ true → IsTrue (has_field t m f) ⊎ ((m ≡ length t.objects) × (f ≡ 0)))
      (λ is there.
      let (x, at) = there_is (slice_get o.fields f) there in
      inr (eqb-true m (length t.objects) is, omega (arith, few, get_below o.fields f x at)))
      (λ _ there. inl there)
      (sym (ap (has_in f) (get_push t.objects o m)) ∙ has)

  old_apart : (m f : ℕ) → IsTrue (has_field t m f) → eqb m (length t.objects) ≡ false
  old_apart m f has = by (object_numbered t m) refl
    where
      by : (x : Option Object) → object_numbered t m ≡ x → eqb m (length t.objects) ≡ false
      by None gone = absurd (no_field (sym (ap (has_in f) gone) ∙ has))
        where
          no_field : false ≡ true → ⊥
          no_field e = cc
      by (Some x) at = not_last t m x at

  old_slot : (m f : ℕ) → IsTrue (has_field t m f) → plan.slot m f ≡ p.slot m f
  old_slot m f has = rw (old_apart m f has) refl

  new_slot : (m f : ℕ) → (m ≡ length t.objects) × (f ≡ 0) → plan.slot m f ≡ s
  new_slot m f (e, z) = rw (e, z, eqb_same (length t.objects)) refl

  mixed : (m f : ℕ) → IsTrue (has_field t m f) → m ≡ length t.objects → ⊥
  mixed m f has e = clash (sym (old_apart m f has) ∙ ap (λ (x : ℕ). eqb x (length t.objects)) e ∙ eqb_same (length t.objects))
    where
      clash : false ≡ true → ⊥
      clash e = cc

  pub fits_object : FitsPlan plan next
  fits_object = record {
    below = λ m f has. below_by m f (old_or_new m f has);
    differ = λ m f g hf hg e. differ_by m f g (old_or_new m f hf) (old_or_new m g hg) e;
    other = fits.other;
    apart = λ j at busy f has e. apart_by j at busy f (old_or_new j.object f has) e;
    was = fits.was;
    switched = λ j f at clear done is. fits.switched j f at clear done (sym (kept_field j at) ∙ is);
    left = λ j i v at clear left. left_placed plan.slot p t fits j i v at clear left;
  }
    where
      below_by : (m f : ℕ) → IsTrue (has_field t m f) ⊎ ((m ≡ length t.objects) × (f ≡ 0)) → plan.slot m f < slot_count
      below_by m f (inl has) = subst (λ (x : ℕ). x < slot_count) (sym (old_slot m f has)) (fits.below m f has)
      below_by m f (inr new) = subst (λ (x : ℕ). x < slot_count) (sym (new_slot m f new)) below

      differ_by : (m f g : ℕ) → IsTrue (has_field t m f) ⊎ ((m ≡ length t.objects) × (f ≡ 0)) → IsTrue (has_field t m g) ⊎ ((m ≡ length t.objects) × (g ≡ 0)) → plan.slot m f ≡ plan.slot m g → f ≡ g
      differ_by m f g (inl hf) (inl hg) e = fits.differ m f g hf hg (sym (old_slot m f hf) ∙ e ∙ old_slot m g hg)
      differ_by m f g (inl hf) (inr new) e = absurd (mixed m f hf new.0)
      differ_by m f g (inr new) (inl hg) e = absurd (mixed m g hg new.0)
      differ_by m f g (inr a) (inr b) e = a.1 ∙ sym b.1

      -- a change is of an object of before
      job_there : (j : Job) → t.job ≡ Some j → j.object ≡ length t.objects → ⊥
      job_there j at e = by (object_numbered t j.object) refl
        where
          sj : HasSoundJob t.counter t.objects t.records (Some j)
          sj = subst (λ (x : Option Job). HasSoundJob t.counter t.objects t.records x) at sound.job

          by : (x : Option Object) → object_numbered t j.object ≡ x → ⊥
          by None gone = none_is sj.field (sym (ap (option_and_then (λ (x : Object). slice_get x.fields j.field)) gone) ∙ sj.there)
          by (Some x) there = none_is x (sym (get_past t.objects) ∙ sym (ap (slice_get t.objects) e) ∙ there)

      kept_field : (j : Job) → t.job ≡ Some j → job_field next.objects j ≡ job_field t.objects j
      kept_field j at =
          ap (field_of j.field) (get_push t.objects o j.object)
          ∙ pick (eqb j.object (length t.objects)) (λ b. field_of j.field (cond b (Some o) (slice_get t.objects j.object)) ≡ job_field t.objects j)
          (λ is. absurd (job_there j at (eqb-true j.object (length t.objects) is)))
          (λ _. refl)

      apart_by : (j : Job) → t.job ≡ Some j → job_is_done j.phase ≡ false → (f : ℕ) → IsTrue (has_field t j.object f) ⊎ ((j.object ≡ length t.objects) × (f ≡ 0)) → plan.slot j.object f ≡ p.other → ⊥
      apart_by j at busy f (inl has) e = fits.apart j at busy f has (sym (old_slot j.object f has) ∙ e)
      apart_by j at busy f (inr new) e = job_there j at new.0

-- ---- one more field

module _ (p : OrgPlan) (t : Tenant) (n : ℕ) (o : Object) (f : Field) (s : ℕ) (sound : IsSound t) (here : object_numbered t n ≡ Some o) (below : s < slot_count) (vacant : IsTrue (is_free p t.job n o s)) (fits : FitsPlan p t) where
  abbrev wide : Tenant
  wide = with_field n f t

  abbrev wide_plan : OrgPlan
  wide_plan = with_slot n (length o.fields) s p

  abbrev IsNew : ℕ → ℕ → Type 0
  IsNew m g = (m ≡ n) × (g ≡ length o.fields)

  one_of : (m g : ℕ) (x : Option Object) → object_numbered t m ≡ x → has_in g (option_map (λ (y : Object). cond (eqb m n) (record y { fields = y.fields ++ f ∷ [] }) y) x) ≡ true → IsTrue (has_in g x) ⊎ IsNew m g
  one_of m g None at has = absurd cc
  one_of m g (Some x) at has =
      pick (eqb m n) (λ b. is_some (slice_get (cond b (record x { fields = x.fields ++ f ∷ [] }) x).fields g) ≡ true → IsTrue (has_in g (Some x)) ⊎ IsNew m g)
      (λ is there.
      let same : m ≡ n = eqb-true m n is in
      let object : x ≡ o = some_is x o (sym at ∙ ap (slice_get t.objects) same ∙ here) in
      pick (eqb g (length x.fields)) (λ b. is_some (cond b (Some f) (slice_get x.fields g)) ≡ true → IsTrue (has_in g (Some x)) ⊎ IsNew m g)
      (λ end _. inr (same, eqb-true g (length x.fields) end ∙ ap (λ (y : Object). length y.fields) object))
      (λ _ old. inl old)
      (sym (ap is_some (get_push x.fields f g)) ∙ there))
      (λ _ there. inl there)
      has

  each : (m g : ℕ) → IsTrue (has_field wide m g) → IsTrue (has_field t m g) ⊎ IsNew m g
  each m g has = one_of m g (object_numbered t m) refl (sym (ap (has_in g) (get_changed n (λ (y : Object). record y { fields = y.fields ++ f ∷ [] }) t.objects m)) ∙ has)

  -- a field of this object is one of its list
  listed : (g : ℕ) → IsTrue (has_field t n g) → (x : Field) × (slice_get o.fields g ≡ Some x)
  listed g has = there_is (slice_get o.fields g) (sym (ap (has_in g) here) ∙ has)

  same_slot : (m g : ℕ) → IsTrue (has_field t m g) → wide_plan.slot m g ≡ p.slot m g
  same_slot m g has =
      pick (eqb m n) (λ b. cond (b && eqb g (length o.fields)) s (p.slot m g) ≡ p.slot m g)
      (λ is.
      let (x, at) = listed g (subst (λ (i : ℕ). IsTrue (has_field t i g)) (eqb-true m n is) has) in
      rw (eqb_less g (length o.fields) (get_below o.fields g x at)) refl)
      (λ _. refl)

  last_slot : (m g : ℕ) → IsNew m g → wide_plan.slot m g ≡ s
  last_slot m g (e, l) = rw (e, l, eqb_same n, eqb_same (length o.fields)) refl

  -- no field of before has the free slot
  unnamed : (xs : List Field) (a g : ℕ) (x : Field) → find (λ (y : ℕ × Field). eqb (p.slot n y.0) s) (enumerate_from a xs) ≡ None → slice_get xs g ≡ Some x → (b : ℕ) → b ≡ a + g → eqb (p.slot n b) s ≡ false
  unnamed [] a g x none at b is = absurd cc
  unnamed (y ∷ xs) a zero x none at b is =
      subst (λ (c : ℕ). eqb (p.slot n c) s ≡ false) (first is)
      (pick (eqb (p.slot n a) s) (λ d. ◌≡◌ {A = Option (ℕ × Field)} (cond d (Some (a, y)) (find (λ (y : ℕ × Field). eqb (p.slot n y.0) s) (enumerate_from (a + 1) xs))) None → d ≡ false)
      (λ _ e. absurd (none_is (a, y) (sym e)))
      (λ _ _. refl)
      none)
    where
      first : b ≡ a + 0 → a ≡ b
      first is = omega (arith, is)
  unnamed (y ∷ xs) a (suc g) x none at b is =
      unnamed xs (a + 1) g x
      (pick (eqb (p.slot n a) s) (λ d. ◌≡◌ {A = Option (ℕ × Field)} (cond d (Some (a, y)) (find (λ (y : ℕ × Field). eqb (p.slot n y.0) s) (enumerate_from (a + 1) xs))) None → find (λ (y : ℕ × Field). eqb (p.slot n y.0) s) (enumerate_from (a + 1) xs) ≡ None)
      (λ _ e. absurd (none_is (a, y) (sym e)))
      (λ _ e. e)
      none)
      at b (omega (arith, is))

  clash : {b : Bool} → b ≡ false → b ≡ true → ⊥
  clash f t = differ (sym f ∙ t)
    where
      differ : false ≡ true → ⊥
      differ e = cc

  vacant_slot : (g : ℕ) → IsTrue (has_field t n g) → p.slot n g ≡ s → ⊥
  vacant_slot g has e =
      let (x, at) = listed g has in
      clash (unnamed o.fields 0 g x (free_field p t.job n o s vacant) at g (omega arith)) (ap (λ (c : ℕ). eqb c s) e ∙ eqb_same s)

  pub fits_field : FitsPlan wide_plan wide
  fits_field = record {
    below = λ m g has. below_by m g (each m g has);
    differ = λ m g h hg hh e. differ_by m g h (each m g hg) (each m h hh) e;
    other = fits.other;
    apart = λ j at busy g has e. apart_by j at busy g (each j.object g has) e;
    was = fits.was;
    switched = λ j g at clear done is. fits.switched j g at clear done (sym (kept_field j at) ∙ is);
    left = λ j i v at clear left. left_placed wide_plan.slot p t fits j i v at clear left;
  }
    where
      -- a change is of a field of before
      kept_field : (j : Job) → t.job ≡ Some j → job_field wide.objects j ≡ job_field t.objects j
      kept_field j at = ap (field_of j.field) (get_changed n (λ (y : Object). record y { fields = y.fields ++ f ∷ [] }) t.objects j.object) ∙ by (object_numbered t j.object) refl
        where
          sj : HasSoundJob t.counter t.objects t.records (Some j)
          sj = subst (λ (x : Option Job). HasSoundJob t.counter t.objects t.records x) at sound.job

          by : (x : Option Object) → object_numbered t j.object ≡ x → field_of j.field (option_map (λ (y : Object). cond (eqb j.object n) (record y { fields = y.fields ++ f ∷ [] }) y) x) ≡ field_of j.field x
          by None e = refl
          by (Some x) e =
              let there : slice_get x.fields j.field ≡ Some sj.field = sym (ap (field_of j.field) e) ∙ sj.there in
              pick (eqb j.object n) (λ b. slice_get (cond b (record x { fields = x.fields ++ f ∷ [] }) x).fields j.field ≡ slice_get x.fields j.field)
              (λ _. get_push x.fields f j.field ∙ rw (eqb_less j.field (length x.fields) (get_below x.fields j.field sj.field there)) refl)
              (λ _. refl)

      below_by : (m g : ℕ) → IsTrue (has_field t m g) ⊎ IsNew m g → wide_plan.slot m g < slot_count
      below_by m g (inl has) = subst (λ (x : ℕ). x < slot_count) (sym (same_slot m g has)) (fits.below m g has)
      below_by m g (inr new) = subst (λ (x : ℕ). x < slot_count) (sym (last_slot m g new)) below

      -- a field of before and the new one have two slots
      two : (m g h : ℕ) → IsTrue (has_field t m g) → IsNew m h → wide_plan.slot m g ≡ wide_plan.slot m h → ⊥
      two m g h has new e =
          vacant_slot g (subst (λ (i : ℕ). IsTrue (has_field t i g)) new.0 has)
          (ap (λ (i : ℕ). p.slot i g) (sym new.0) ∙ sym (same_slot m g has) ∙ e ∙ last_slot m h new)

      differ_by : (m g h : ℕ) → IsTrue (has_field t m g) ⊎ IsNew m g → IsTrue (has_field t m h) ⊎ IsNew m h → wide_plan.slot m g ≡ wide_plan.slot m h → g ≡ h
      differ_by m g h (inl hg) (inl hh) e = fits.differ m g h hg hh (sym (same_slot m g hg) ∙ e ∙ same_slot m h hh)
      differ_by m g h (inl hg) (inr new) e = absurd (two m g h hg new e)
      differ_by m g h (inr new) (inl hh) e = absurd (two m h g hh new (sym e))
      differ_by m g h (inr a) (inr b) e = a.1 ∙ sym b.1

      apart_by : (j : Job) → t.job ≡ Some j → job_is_done j.phase ≡ false → (g : ℕ) → IsTrue (has_field t j.object g) ⊎ IsNew j.object g → wide_plan.slot j.object g ≡ p.other → ⊥
      apart_by j at busy g (inl has) e = fits.apart j at busy g has (sym (same_slot j.object g has) ∙ e)
      apart_by j at busy g (inr new) e =
          let its : p.other ≡ s = sym e ∙ last_slot j.object g new in
          clash
          (subst (λ (x : Option Job). is_other p x n s ≡ false) at (not_true (is_other p t.job n s) (and_right (is_none (slot_field p n o.fields s)) (not (is_other p t.job n s)) vacant)))
          (other_is j busy new.0 its)
        where
          other_is : (j : Job) → job_is_done j.phase ≡ false → j.object ≡ n → p.other ≡ s → is_other p (Some j) n s ≡ true
          other_is j busy o e = rw (busy, o, e, eqb_same n, eqb_same s) refl
