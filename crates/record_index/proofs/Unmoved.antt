-- Where no record changes, though a change of a type goes on, none takes a unique value from another.
use Rattle.std.proofs.Common.{◌≡◌, ℕ, true, false, cond, List, Option, Some, None, refl, sym, ap, ap₂, ◌∙◌}
use Rattle.std.specs.Prelude.{slice_get}
use Rattle.std.specs.Option.{option_and_then, option_map}
use Rattle.std.proofs.lemmas.Bool.{true≢false as clash}
use Rattle.base_lemmas.proofs.Bools.{by_answer as pick}
use Rattle.model.specs.declared.record.Record.{Record}
use Rattle.model.specs.Cases.{in_case}
use Rattle.model.specs.Objects.{is_of, object_numbered, record_at}
use Rattle.model.specs.Sound.{IsSound}
use Rattle.model.specs.Tenant.{Field, Object, Tenant}
use Rattle.model.specs.World.{having_id}
use Rattle.record_index.specs.Changed.{kept_entry}
use Rattle.store_abstraction.specs.Entries.{field_entry, is_unique, other_entry, slot_entry, slot_field}
use Rattle.store_abstraction.specs.Plan.{OrgPlan}
use Rattle.store_abstraction.specs.Stands.{Kept, kept_at, kept_in}
use Rattle.record_index.proofs.Keeping.{FitValues, SameKeys, other_not_unique}
use Rattle.record_index.specs.diff.Touched.{NoneTakes}

module _ (fit_values : FitValues) (same_keys : SameKeys) (p : OrgPlan) (t u : Tenant) (sound_t : IsSound t) (sound_u : IsSound u) (objects : u.objects ≡ t.objects) (records : u.records ≡ t.records) (n s : ℕ) (key i : List ℕ) where
  abbrev kept_by : Tenant → List Record → List Object → Option Kept
  kept_by v rs os = option_and_then (λ (r : Record). cond (is_of n r) (option_map (λ o. kept_in p v n o r) (slice_get os n)) None) (having_id (λ r. r.id) rs i)

  entry_same : (y : Record) (o : Object) → object_numbered t n ≡ Some o → is_unique key (slot_entry p t.job n o y s) ≡ is_unique key (slot_entry p u.job n o y s)
  unfolding slot_entry
  entry_same y o here = by (slot_field p n o.fields s)
    where
      there : object_numbered u n ≡ Some o
      there = ap (λ (os : List Object). slice_get os n) objects ∙ here

      by : (x : Option (ℕ × Field)) → is_unique key (in_case x (other_entry p t.job n o y s) (λ f. Some (field_entry y f))) ≡ is_unique key (in_case x (other_entry p u.job n o y s) (λ f. Some (field_entry y f)))
      by None =
          other_not_unique fit_values same_keys p t sound_t n o here s key y t.job refl
          ∙ sym (other_not_unique fit_values same_keys p u sound_u n o there s key y u.job refl)
      by (Some f) = refl

  unique_same : is_unique key (kept_entry (kept_at p t n i) s) ≡ is_unique key (kept_entry (kept_at p u n i) s)
  unfolding kept_at
  unique_same = by (record_at t i) ∙ sym (ap₂ (λ (rs : List Record) (os : List Object). is_unique key (kept_entry (kept_by u rs os) s)) records objects)
    where
      in_object : (y : Record) (x : Option Object) → object_numbered t n ≡ x → is_unique key (kept_entry (option_map (λ o. kept_in p t n o y) x) s) ≡ is_unique key (kept_entry (option_map (λ o. kept_in p u n o y) x) s)
      in_object y None here = refl
      in_object y (Some o) here = entry_same y o here

      by : (z : Option Record)
          → is_unique key (kept_entry (option_and_then (λ (r : Record). cond (is_of n r) (option_map (λ o. kept_in p t n o r) (object_numbered t n)) None) z) s)
          ≡ is_unique key (kept_entry (option_and_then (λ (r : Record). cond (is_of n r) (option_map (λ o. kept_in p u n o r) (object_numbered t n)) None) z) s)
      by None = refl
      by (Some y) =
          pick (is_of n y)
          (λ b. is_unique key (kept_entry (cond b (option_map (λ o. kept_in p t n o y) (object_numbered t n)) None) s) ≡ is_unique key (kept_entry (cond b (option_map (λ o. kept_in p u n o y) (object_numbered t n)) None) s))
          (λ _. in_object y (object_numbered t n) refl)
          (λ _. refl)

pub unmoved : FitValues → SameKeys → (p : OrgPlan) (t u : Tenant) (ids : List (List ℕ)) → IsSound t → IsSound u → u.objects ≡ t.objects → u.records ≡ t.records → NoneTakes p p t u ids
unmoved fit_values same_keys p t u ids sound_t sound_u objects records n s key i j touched had lost =
    absurd (clash (sym had ∙ unique_same fit_values same_keys p t u sound_t sound_u objects records n s key i ∙ lost))
