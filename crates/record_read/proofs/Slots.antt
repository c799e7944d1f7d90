-- What is in the slot of a field.
use Rattle.std.proofs.Common.{◌≡◌, ℕ, ◌<◌, ◌≤◌, false, eqb, IsTrue, Option, Some, refl, arith}
use Rattle.std.specs.Prelude.{slice_get}
use Rattle.std.proofs.lemmas.Bool.{eqb-true}
use Rattle.base_lemmas.proofs.Bools.{by_answer as pick}
use Rattle.model.specs.declared.record.Record.{Record}
use Rattle.model.specs.Objects.{object_numbered}
use Rattle.model.specs.Tenant.{Field, Object, Tenant}
use Rattle.store_abstraction.specs.Entries.{Entry, entry_text, field_entry, slot_entry, slots_of}
use Rattle.store_abstraction.specs.Plan.{FitsPlan, OrgPlan, has_field, slot_count}
use Rattle.record_read.proofs.Lists.{first_with, get_range, is_there}

pub slot_at : (entries : ℕ → Option Entry) (s : ℕ) → s < slot_count → slice_get (slots_of entries) s ≡ Some (entry_text (entries s))
unfolding slots_of
slot_at entries s lt = get_range (λ i. entry_text (entries i)) 0 slot_count s s (omega arith) lt

-- an object has each field up to one that it has
there : (t : Tenant) (n : ℕ) (o : Object) (i j : ℕ) (f : Field) → object_numbered t n ≡ Some o → slice_get o.fields i ≡ Some f → j ≤ i → IsTrue (has_field t n j)
there t n o i j f is at le = rw is (is_there o.fields i j f at le)

pub entry_at : (p : OrgPlan) (t : Tenant) (n : ℕ) (o : Object) (r : Record) (i : ℕ) (f : Field)
    → FitsPlan p t → object_numbered t n ≡ Some o → slice_get o.fields i ≡ Some f → slot_entry p t.job n o r (p.slot n i) ≡ Some (field_entry r (i, f))
unfolding slot_entry
entry_at p t n o r i f fits is at = rw (first_with (p.slot n) o.fields 0 i i f (omega arith) at apart) refl
  where
    apart : (j : ℕ) → 0 ≤ j → j < i → eqb (p.slot n j) (p.slot n i) ≡ false
    apart j le lt =
        pick (eqb (p.slot n j) (p.slot n i)) (λ b. b ≡ false)
        (λ e. absurd (differ (fits.differ n j i (there t n o i j f is at (omega (arith, lt))) (there t n o i i f is at (omega arith)) (eqb-true (p.slot n j) (p.slot n i) e))))
        (λ _. refl)
      where
        differ : j ≡ i → ⊥
        differ e = omega (arith, e, lt)

pub slot_below : (p : OrgPlan) (t : Tenant) (n : ℕ) (o : Object) (i : ℕ) (f : Field) → FitsPlan p t → object_numbered t n ≡ Some o → slice_get o.fields i ≡ Some f → p.slot n i < slot_count
slot_below p t n o i f fits is at = fits.below n i (there t n o i i f is at (omega arith))
