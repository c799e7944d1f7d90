-- Whether there is a row of a record's key is whether the organisation has the record.
use Rattle.std.proofs.Common.{◌≡◌, ℕ, Bool, cond, List, Option, Some, None, refl, sym, ap, ◌∙◌, eqb-true}
use Rattle.std.specs.Prelude.{IfOk, IfSome, IsErrOf, Result, Ok, Err, is_some, slice_get}
use Rattle.std.specs.FinMap as map
use Rattle.std.specs.FinMap.{IsAntisymmetric}
use Rattle.std.specs.Option.{option_and_then, option_map}
use Rattle.base_lemmas.proofs.Numbers.{eqb-self as eqb_same}
use Rattle.base_lemmas.proofs.Bools.{by_answer as pick}
use Rattle.store_kv.specs.Tables.{Tables, place_cmp}
use Rattle.store_rows.specs.declared.fail.StoreFail.{StoreFail}
use Rattle.store_rows.specs.declared.fail.StoreFail.TheVariants.{Keeper, Memory, Damaged}
use Rattle.store_rows.specs.Forms.{row_bytes}
use Rattle.store_rows.specs.Keys.{Data, record_key, spell}
use Rattle.store_rows.specs.Rows.{data_form}
use Rattle.store_codec.specs.Shapes.{FitsIn}
use Rattle.model.specs.declared.record.Record.{Record}
use Rattle.model.specs.Objects.{is_of, object_number, object_numbered, record_at}
use Rattle.model.specs.Rights.{record_of_object}
use Rattle.model.specs.Sound.{IsSound}
use Rattle.model.specs.Tenant.{Tenant}
use Rattle.store_abstraction.specs.Entries.{data_of}
use Rattle.store_abstraction.specs.Local.{FindsIn, rows_alone}
use Rattle.store_abstraction.specs.Plan.{OrgPlan}
use Rattle.store_abstraction.specs.Stands.{Kept, kept_at, kept_in, row_in}
use Rattle.record_read.proofs.Sound.{sound_record}
use Rattle.record_read.proofs.Standing.{OwnPlaces, at_place, found_id}

-- a sound tenant's record has an object, so it has a row
row_there : (org n : ℕ) (q : OrgPlan) (t : Tenant) (id : List ℕ) → IsSound t → is_some (row_in q t (Data org n id)) ≡ is_some (record_of_object t n id)
unfolding row_in kept_at
row_there org n q t id sound = by (record_at t id) refl
  where
    by : (x : Option Record) → record_at t id ≡ x
        → is_some (option_map (λ (k : Kept). row_bytes data_form (data_of org n k.item k.entries)) (option_and_then (λ r. cond (is_of n r) (option_map (λ o. kept_in q t n o r) (object_numbered t n)) None) x))
        ≡ is_some (option_and_then (λ r. cond (is_of n r) (Some r) None) x)
    by None e = refl
    by (Some r) e =
        pick (is_of n r)
        (λ b. is_of n r ≡ b
        → is_some (option_map (λ (k : Kept). row_bytes data_form (data_of org n k.item k.entries)) (cond b (option_map (λ o. kept_in q t n o r) (object_numbered t n)) None))
        ≡ is_some (cond b (Some r) None))
        (λ _ of.
        let one = sound_record t r sound (found_id t.records id r e).1 in
        let there : object_numbered t n ≡ Some one.object = sym (ap (slice_get t.objects) (eqb-true (object_number r.id) n of)) ∙ one.there in
        rw there refl)
        (λ _ _. refl)
        refl

own_there : (org n : ℕ) (q : OrgPlan) (t : Option Tenant) (id : List ℕ) → IfSome t IsSound
    → is_some (rows_alone org q t (Data org n id)) ≡ is_some (option_and_then (λ (u : Tenant). record_of_object u n id) t)
own_there org n q None id sound = ap (λ b. is_some (cond {A = Option (List ℕ)} b None None)) (eqb_same org)
own_there org n q (Some t) id sound = ap (λ b. is_some (cond b (row_in q t (Data org n id)) None)) (eqb_same org) ∙ row_there org n q t id sound

pub record_had : IsAntisymmetric place_cmp → OwnPlaces → (m : Tables) (org n : ℕ) (id : List ℕ) → FitsIn record_key (org, (n, id)) → (result : Result Bool StoreFail)
    → IfOk result (λ there. there ≡ is_some (map.get m (spell (Data org n id)))) → (IsErrOf result Damaged → ⊥)
    → FindsIn org (λ (q : OrgPlan) (t : Option Tenant). is_some (option_and_then (λ (u : Tenant). record_of_object u n id) t)) m result
record_had exact own m org n id fits (Ok b) there whole = λ q t s. there ∙ ap is_some (at_place exact own org n q t m id fits.0 fits s) ∙ own_there org n q t id s.sound
record_had exact own m org n id fits (Err Keeper) there whole = tt
record_had exact own m org n id fits (Err Memory) there whole = tt
record_had exact own m org n id fits (Err Damaged) there whole = λ q t s. whole refl
