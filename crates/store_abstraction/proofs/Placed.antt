-- Entries where fields have other slots, and objects of which another is known.
use Rattle.std.proofs.Common.{◌≡◌, ℕ, zero, suc, Bool, true, false, ◌&&◌, cond, eqb, List, [], ◌∷◌, ◌++◌, length, Option, Some, None, refl, sym, ap, ◌∙◌, subst, map-id, inl, inr}
use Rattle.std.specs.Prelude.{slice_get}
use Rattle.std.specs.List.{AllByRecursion, enumerate_from, find}
use Rattle.std.specs.Option.{option_and_then, option_map}
use Rattle.std.proofs.lemmas.Bool.{eqb-true}
use Rattle.std.proofs.Math.Dec.{eqb-suc-zero, eqb-zero-suc, eqb-suc-suc}
use Rattle.base_lemmas.proofs.Lists.{slice_get-length as get_past}
use Rattle.std.proofs.lemmas.Option.{none-some as none_is}
use Rattle.base_lemmas.proofs.Bools.{by_answer as pick}
use Rattle.store_rows.specs.Keys.{Key}
use Rattle.model.specs.declared.record.Record.{Record}
use Rattle.model.specs.Known.{Known, known}
use Rattle.model.specs.Membership.{Has}
use Rattle.model.specs.Objects.{change_at, is_of, object_number, object_numbered, with_object_changed}
use Rattle.model.specs.Sound.{IsSound}
use Rattle.model.specs.SoundRecords.{IsSoundRecord}
use Rattle.model.specs.Tenant.{Field, Job, Object, Tenant}
use Rattle.store_abstraction.specs.Entries.{Entry, job_entry, job_value, other_entry, slot_entry}
use Rattle.store_abstraction.specs.Plan.{OrgPlan, slot_type}
use Rattle.store_abstraction.specs.Records.{Alike, KeptAlike, object_of_records, with_slot}
use Rattle.store_abstraction.specs.Stands.{row_in}
use Rattle.store_abstraction.proofs.Kept.{kept, none}
use Rattle.store_abstraction.proofs.Lookups.{get_push}
use Rattle.base_value.specs.declared.job.Outcome.{Outcome}
use Rattle.base_value.specs.declared.job.Outcome.TheVariants as outcome
use Rattle.base_value.specs.declared.job.Phase.{Phase}
use Rattle.base_value.specs.declared.job.Phase.TheVariants as phase

-- ---- another slot for a field

find_same : {X : Type 0} (f g : X → Bool) → ((x : X) → f x ≡ g x) → (xs : List X) → find f xs ≡ find g xs
find_same f g h [] = refl
find_same f g h (x ∷ xs) = rw (h x, find_same f g h xs) refl

-- the plan with other slots of fields
abbrev pub placed : (ℕ → ℕ → ℕ) → OrgPlan → OrgPlan
placed slots p = record p { slot = slots }

pub there_same : (slots : ℕ → ℕ → ℕ) (p : OrgPlan) (j : Job) (f : Phase) (o : Outcome) → slot_type (placed slots p) j f o ≡ slot_type p j f o
there_same slots p j phase.Copy o = refl
there_same slots p j phase.Clear outcome.Open = refl
there_same slots p j phase.Clear outcome.Switched = refl
there_same slots p j phase.Clear outcome.Failed = refl
there_same slots p j phase.Clear outcome.Cancelled = refl
there_same slots p j phase.Done o = refl

value_same : (slots : ℕ → ℕ → ℕ) (p : OrgPlan) (j : Job) (f : Phase) (r : Record) → job_value (placed slots p) j f r ≡ job_value p j f r
value_same slots p j phase.Copy r = refl
value_same slots p j phase.Clear r = refl
value_same slots p j phase.Done r = refl

job_same : (slots : ℕ → ℕ → ℕ) (p : OrgPlan) (j : Job) (r : Record) (x : Option Field) → option_and_then (job_entry (placed slots p) j r) x ≡ option_and_then (job_entry p j r) x
job_same slots p j r None = refl
job_same slots p j r (Some f) = rw (there_same slots p j j.phase j.outcome, value_same slots p j j.phase r) refl

pub other_same : (slots : ℕ → ℕ → ℕ) (p : OrgPlan) (job : Option Job) (n : ℕ) (o : Object) (r : Record) (s : ℕ) → other_entry (placed slots p) job n o r s ≡ other_entry p job n o r s
other_same slots p None n o r s = refl
other_same slots p (Some j) n o r s = ap (λ (x : Option Entry). cond (eqb j.object n && eqb p.other s) x None) (job_same slots p j r (slice_get o.fields j.field))

-- where the fields of an object have the slots that they had, the entries are the same
pub entry_same : (slots : ℕ → ℕ → ℕ) (p : OrgPlan) (job : Option Job) (n : ℕ) (o : Object) (r : Record) (s : ℕ) → ((f : ℕ) → slots n f ≡ p.slot n f) → slot_entry (placed slots p) job n o r s ≡ slot_entry p job n o r s
unfolding slot_entry
entry_same slots p job n o r s h =
    rw (find_same (λ (f : ℕ × Field). eqb (slots n f.0) s) (λ (f : ℕ × Field). eqb (p.slot n f.0) s) (λ f. ap (λ (x : ℕ). eqb x s) (h f.0)) (enumerate_from 0 o.fields), other_same slots p job n o r s) refl

pub alike_same : (e f : Option Entry) → e ≡ f → Alike e f
alike_same e f h = subst (λ (x : Option Entry). Alike e x) h (record { text = refl; indexed = λ key. refl; unique = λ key. refl; reference = λ target. refl })

-- a record that is itself the same, and so are its entries
pub kept_alike : (r : Record) (e f : ℕ → Option Entry) → ((s : ℕ) → e s ≡ f s) → KeptAlike (record { item = r; entries = e }) (record { item = r; entries = f })
kept_alike r e f h = record { id = refl; name = refl; owner = refl; created = refl; modified = refl; entries = λ s. alike_same (e s) (f s) (h s) }

-- ---- objects

pub get_changed : {X : Type 0} (n : ℕ) (change : X → X) (xs : List X) (m : ℕ) → slice_get (change_at n change xs) m ≡ option_map (λ (x : X). cond (eqb m n) (change x) x) (slice_get xs m)
get_changed n change [] m = refl
get_changed zero change (x ∷ xs) zero = refl
get_changed zero change (x ∷ xs) (suc m) = rw (eqb-suc-zero m) (same (slice_get xs m))
  where
    same : {X : Type 0} (o : Option X) → o ≡ option_map (λ (x : X). x) o
    same None = refl
    same (Some x) = refl
get_changed (suc n) change (x ∷ xs) zero = rw (eqb-zero-suc n) refl
get_changed (suc n) change (x ∷ xs) (suc m) = rw (eqb-suc-suc m n) (get_changed n change xs m)

-- ---- records of objects that aren't there

missing_of : (k : Known) (os : List Object) (n : ℕ) → slice_get os n ≡ None → (rs : List Record) → AllByRecursion (IsSoundRecord k os) rs → (r : Record) → Has rs r → is_of n r ≡ false
missing_of k os n gone [] all r h = absurd h
missing_of k os n gone (x ∷ rs) all r (inl e) = subst (λ (y : Record). is_of n y ≡ false) (sym e) (pick (is_of n x) (λ b. b ≡ false) (λ here. absurd (nowhere here)) (λ _. refl))
  where
    nowhere : is_of n x ≡ true → ⊥
    nowhere here = differs (subst (λ (m : ℕ). slice_get os m ≡ Some (all.0).object) (eqb-true (object_number x.id) n here) (all.0).there)
      where
        differs : {o : Object} → slice_get os n ≡ Some o → ⊥
        differs {o} e = none_is o (sym gone ∙ e)
missing_of k os n gone (x ∷ rs) all r (inr h) = missing_of k os n gone rs all.1 r h

pub no_records : (t : Tenant) (n : ℕ) → IsSound t → object_numbered t n ≡ None → (r : Record) → Has t.records r → is_of n r ≡ false
no_records t n s gone = missing_of (known t) t.objects n gone t.records s.records.each

-- ---- another access, and one more object

-- records that stay as they are keep their rows where the objects that were there have the same entries
pub rows_stay : (p q : OrgPlan) (t u : Tenant) (n : ℕ) → IsSound t → u.records ≡ t.records
    → ((o : Object) → object_numbered t n ≡ Some o → (v : Object) × (object_numbered u n ≡ Some v) × ((r : Record) (s : ℕ) → slot_entry q u.job n v r s ≡ slot_entry p t.job n o r s))
    → (k : Key) → object_of_records k ≡ Some n → row_in q u k ≡ row_in p t k
rows_stay p q t u n sound same entries k e = by (object_numbered t n) refl
  where
    by : (o : Option Object) → object_numbered t n ≡ o → row_in q u k ≡ row_in p t k
    by None gone =
        let idle = no_records t n sound gone in
        none q u n (subst (λ (rs : List Record). (r : Record) → Has rs r → is_of n r ≡ false) (sym same) idle) k e ∙ sym (none p t n idle k e)
    by (Some o) here =
        let (v, there, alike) = entries o here in
        kept p q t u n o v (λ r. r) (λ r. refl) here there (same ∙ sym (map-id t.records)) (λ r h of. kept_alike r (slot_entry q u.job n v r) (slot_entry p t.job n o r) (alike r)) k e

-- an entry is of the fields alone
entry_fields : (p : OrgPlan) (job : Option Job) (n : ℕ) (o v : Object) (r : Record) (s : ℕ) → v.fields ≡ o.fields → slot_entry p job n v r s ≡ slot_entry p job n o r s
unfolding slot_entry
entry_fields p job n o v r s h = ap (λ (fs : List Field). slot_entry p job n (record o { fields = fs }) r s) h

-- an object that is changed but for its fields
pub changed_rows : (p : OrgPlan) (t : Tenant) (n : ℕ) (change : Object → Object) (m : ℕ) → IsSound t → ((o : Object) → (change o).fields ≡ o.fields) → (k : Key) → object_of_records k ≡ Some m → row_in p (with_object_changed n change t) k ≡ row_in p t k
changed_rows p t n change m sound same k e = rows_stay p p t (with_object_changed n change t) m sound refl entries k e
  where
    entries : (o : Object) → object_numbered t m ≡ Some o → (v : Object) × (object_numbered (with_object_changed n change t) m ≡ Some v) × ((r : Record) (s : ℕ) → slot_entry p t.job m v r s ≡ slot_entry p t.job m o r s)
    entries o here = (
      cond (eqb m n) (change o) o,
      get_changed n change t.objects m ∙ ap (option_map (λ (x : Object). cond (eqb m n) (change x) x)) here,
      λ r s. entry_fields p t.job m o (cond (eqb m n) (change o) o) r s (pick (eqb m n) (λ b. (cond b (change o) o).fields ≡ o.fields) (λ _. same o) (λ _. refl)),
    )

pub not_last : (t : Tenant) (m : ℕ) (o : Object) → object_numbered t m ≡ Some o → eqb m (length t.objects) ≡ false
not_last t m o here = pick (eqb m (length t.objects)) (λ b. b ≡ false) (λ e. absurd (none_is o (sym (get_past t.objects) ∙ subst (λ (x : ℕ). slice_get t.objects x ≡ Some o) (eqb-true m (length t.objects) e) here))) (λ _. refl)

-- one more object, whose field may have a slot
pub object_rows : (p : OrgPlan) (t : Tenant) (o : Object) (f s m : ℕ) → IsSound t → (k : Key) → object_of_records k ≡ Some m → row_in (with_slot (length t.objects) f s p) (record t { objects = t.objects ++ o ∷ [] }) k ≡ row_in p t k
object_rows p t o f s m sound k e = rows_stay p (with_slot (length t.objects) f s p) t (record t { objects = t.objects ++ o ∷ [] }) m sound refl entries k e
  where
    entries : (x : Object) → object_numbered t m ≡ Some x → (v : Object) × (slice_get (t.objects ++ o ∷ []) m ≡ Some v) × ((r : Record) (y : ℕ) → slot_entry (with_slot (length t.objects) f s p) t.job m v r y ≡ slot_entry p t.job m x r y)
    entries x here = (
      x,
      get_push t.objects o m ∙ rw (not_last t m x here) here,
      λ r y. entry_same (λ m g. cond (eqb m (length t.objects) && eqb g f) s (p.slot m g)) p t.job m x r y (λ g. rw (not_last t m x here) refl),
    )
