-- What is read at a record's key is that record and its row.
use Rattle.std.proofs.Common.{◌≡◌, ◌∙◌, ℕ, List, Option, Some, None, refl, sym, ap, subst, inl, inr}
use Rattle.std.specs.Prelude.{IfSome, Result, Ok, Err}
use Rattle.std.specs.FinMap as map
use Rattle.std.specs.FinMap.{IsAntisymmetric}
use Rattle.std.specs.Option.{option_map}
use Rattle.record_read.specs.Decoding.{record_from}
use Rattle.record_read.proofs.Ended.{IsMadeOf}
use Rattle.record_read.proofs.Loading.{FindsData}
use Rattle.record_read.proofs.Standing.{IsOf, Laws, OwnPlaces, at_place, found_of, layout_is, of_object, own_row, row_in_plan, row_kept}
use Rattle.store_kv.specs.Tables.{Tables, place_cmp}
use Rattle.store_rows.specs.declared.data.DataRow.{DataRow}
use Rattle.store_rows.specs.declared.fail.StoreFail.{StoreFail}
use Rattle.store_rows.specs.declared.fail.StoreFail.TheVariants.{Damaged, Keeper, Memory}
use Rattle.store_rows.specs.Keys.{Data, record_key, spell}
use Rattle.store_rows.specs.Reads.{FoundAs, MayStandAt, ReadsAs}
use Rattle.store_rows.specs.Rows.{data_form}
use Rattle.model.specs.Cases.{in_case}
use Rattle.model.specs.declared.record.Record.{Record}
use Rattle.model.specs.Objects.{record_at}
use Rattle.model.specs.Tenant.{Tenant}
use Rattle.store_codec.specs.Shapes.{FitsIn}
use Rattle.record_target.specs.declared.kept.KeptRecord.{KeptRecord}
use Rattle.record_target.specs.Kept.{Keeps, kept_from}
use Rattle.store_abstraction.specs.Layouts.{IsLayout}
use Rattle.store_abstraction.specs.Local.{StandsIn}
use Rattle.store_abstraction.specs.Plan.{OrgPlan}
use Rattle.store_abstraction.specs.declared.layout.Layout.{Layout}
use Rattle.base_value.specs.Causes.{GivesOr}

-- ---- what was read

abbrev Kept : Type 0
Kept = Option KeptRecord

-- what isn't the keeper's failure isn't made so
pub kept_is_made : (l : Layout) (row : Result (Option DataRow) StoreFail) → IsMadeOf row (kept_from l row)
kept_is_made l (Ok None) = λ e. absurd cc
kept_is_made l (Ok (Some row)) = by (record_from l row)
  where
    by : (x : Option Record) → ◌≡◌ {A = Result Kept StoreFail} (in_case x (Err Damaged) (λ r. Ok (Some (record { row = row; item = r })))) (Err Keeper) → ⊥
    by None e = absurd cc
    by (Some r) e = absurd cc
kept_is_made l (Err e) = tt

ok_is : (x y : Kept) → ◌≡◌ {A = Result Kept StoreFail} (Ok x) (Ok y) → x ≡ y
ok_is x y e = cc

-- ---- what is there

module _ (q : OrgPlan) (t : Tenant) (l : Layout) (one : IsOf q t l) (id : List ℕ) where
  abbrev row_of : Record → DataRow
  row_of = row_in_plan l.org q t l.object one.object

  abbrev with_row : Record → KeptRecord
  with_row r = record { row = row_of r; item = r }

  given : (found : Option Record) (d : Option DataRow) → IfSome found (λ r. record_from l (row_of r) ≡ Some r) → d ≡ option_map row_of found → kept_from l (Ok d) ≡ Ok (option_map with_row found)
  given None d reads e = rw e refl
  given (Some r) d reads e = rw (e, reads) refl

  there : (found : Option Record) → of_object l.object (record_at t id) ≡ found → Keeps q t l id (Ok (option_map with_row found))
  there None e = e
  there (Some r) e = record { is = e; object = one.object; there = one.there; row = refl }

  by : (found : Option Record) → of_object l.object (record_at t id) ≡ found → IfSome found (λ r. record_from l (row_of r) ≡ Some r)
      → (row : Result (Option DataRow) StoreFail) → FoundAs data_form (option_map row_of found) row → (r : Result Kept StoreFail) → GivesOr Memory (kept_from l row) r → Keeps q t l id r
  by found e reads row f (Err Keeper) g = λ x. absurd cc
  by found e reads row f (Err Memory) g = λ x. absurd cc
  by found e reads (Ok d) f (Ok k) g =
      subst (λ (x : Kept). Keeps q t l id (Ok x)) (ok_is (option_map with_row found) k (sym (given found d reads f) ∙ g)) (there found e)
  by found e reads (Err fail) f (Ok k) g = absurd cc
  by found e reads (Ok d) f (Err Damaged) (inl wrong) = absurd cc
  by found e reads (Ok d) f (Err Damaged) (inr g) = let wrong = sym (given found d reads f) ∙ g in absurd cc
  by found e reads (Err Damaged) f (Err Damaged) g = absurd f
  by found e reads (Err Keeper) f (Err Damaged) (inl wrong) = absurd cc
  by found e reads (Err Keeper) f (Err Damaged) (inr wrong) = absurd cc
  by found e reads (Err Memory) f (Err Damaged) (inl wrong) = absurd cc
  by found e reads (Err Memory) f (Err Damaged) (inr wrong) = absurd cc

module _ (finds : FindsData) (exact : IsAntisymmetric place_cmp) (own : OwnPlaces) (laws : Laws) (m : Tables) (l : Layout) (id : List ℕ) (fits : FitsIn record_key (l.org, (l.object, id))) (row : Result (Option DataRow) StoreFail) (result : Result Kept StoreFail) where
  pub keeps : ReadsAs data_form (l.org, (l.object, id)) (map.get m (spell (Data l.org l.object id))) row → GivesOr Memory (kept_from l row) result
      → (q : OrgPlan) (t : Tenant) → StandsIn l.org q m (Some t) → IsLayout q t l → Keeps q t l id result
  keeps reads gives q t s h =
      let one = layout_is q t l h in
      let found = of_object l.object (record_at t id) in
      let kept = at_place exact own l.org l.object q (Some t) m id fits.0 fits s ∙ own_row l.org l.object q t id ∙ row_kept l.org l.object q t one.object id one.there in
      by q t l one id found refl (read_be q t one s found refl) row
      (finds (l.org, (l.object, id)) (map.get m (spell (Data l.org l.object id))) (option_map (row_of q t l one id) found) row reads kept (may_be q t one s found refl))
      result gives
    where
      may_be : (q : OrgPlan) (t : Tenant) (one : IsOf q t l) → StandsIn l.org q m (Some t) → (x : Option Record) → of_object l.object (record_at t id) ≡ x → MayStandAt data_form (l.org, (l.object, id)) (option_map (row_of q t l one id) x)
      may_be q t one s None e = tt
      may_be q t one s (Some r) e =
          let f = found_of t l.object id r (record_at t id) refl e in
          (ap (λ (i : List ℕ). (l.org, (l.object, i))) f.same, laws.fits l.org l.object q t one.object r fits.0 s.sound s.plan one.there f.has f.of)

      read_be : (q : OrgPlan) (t : Tenant) (one : IsOf q t l) → StandsIn l.org q m (Some t) → (x : Option Record) → of_object l.object (record_at t id) ≡ x → IfSome x (λ r. record_from l (row_of q t l one id r) ≡ Some r)
      read_be q t one s None e = tt
      read_be q t one s (Some r) e =
          let f = found_of t l.object id r (record_at t id) refl e in
          subst (λ (k : Layout). record_from k (row_of q t l one id r) ≡ Some r) one.made (laws.read l.org l.object q t one.object r s.sound s.plan one.there f.has f.of)
