-- What is read at a record's key is that record.
use Rattle.std.proofs.Common.{◌≡◌, ℕ, List, Option, Some, None, refl, sym, ◌∙◌, inl, inr}
use Rattle.std.specs.Prelude.{Result, Ok, Err, IfSome}
use Rattle.std.specs.FinMap as map
use Rattle.std.specs.FinMap.{IsAntisymmetric}
use Rattle.std.specs.Option.{option_map}
use Rattle.base_value.specs.Causes.{GivesOr}
use Rattle.store_kv.specs.Tables.{Tables, place_cmp}
use Rattle.store_rows.specs.declared.data.DataRow.{DataRow}
use Rattle.store_rows.specs.declared.fail.StoreFail.{StoreFail}
use Rattle.store_rows.specs.declared.fail.StoreFail.TheVariants.{Keeper, Memory, Damaged}
use Rattle.store_rows.specs.Forms.{row_bytes}
use Rattle.store_rows.specs.Keys.{Data, record_key, spell}
use Rattle.store_codec.specs.Shapes.{FitsIn}
use Rattle.store_rows.specs.Reads.{FoundAs, MayStandAt, ReadsAs}
use Rattle.store_rows.specs.Rows.{data_form}
use Rattle.model.specs.declared.record.Record.{Record}
use Rattle.model.specs.Rights.{record_of_object}
use Rattle.model.specs.Tenant.{Tenant}
use Rattle.store_abstraction.specs.declared.layout.Layout.{Layout}
use Rattle.store_abstraction.specs.Layouts.{FindsOf, IsLayout}
use Rattle.store_abstraction.specs.Local.{StandsIn}
use Rattle.store_abstraction.specs.Plan.{OrgPlan}
use Rattle.record_read.specs.Decoding.{record_from}
use Rattle.record_read.specs.inner.Found.{found_from}
use Rattle.record_read.proofs.Standing.{Laws, OwnPlaces, Standing, stands_there}

-- what is read is what stands there, as `store_rows` says
abbrev pub FindsData : Type 0
FindsData = (k : ℕ × (ℕ × List ℕ)) (kept : Option (List ℕ)) (there : Option DataRow) (result : Result (Option DataRow) StoreFail) → ReadsAs data_form k kept result → kept ≡ option_map (row_bytes data_form) there → MayStandAt data_form k there → FoundAs data_form there result

-- a row that is that of the record, or none, gives the record, or none
given : (l : Layout) (row : Record → DataRow) (found : Option Record) (d : Option DataRow) → IfSome found (λ r. record_from l (row r) ≡ Some r) → d ≡ option_map row found → found_from l (Ok d) ≡ Ok found
given l row None d reads e = rw e refl
given l row (Some r) d reads e = rw (e, reads) refl

pub ok_is : {X : Type 0} (x y : X) → ◌≡◌ {A = Result X StoreFail} (Ok x) (Ok y) → x ≡ y
ok_is x y e = cc

pub no_ok : {X : Type 0} (x : X) (e : StoreFail) → ◌≡◌ {A = Result X StoreFail} (Err e) (Ok x) → ⊥
no_ok x e h = cc

pub err_is : {X : Type 0} (e f : StoreFail) → ◌≡◌ {A = Result X StoreFail} (Err e) (Err f) → e ≡ f
err_is e f h = cc

module _ (m : Tables) (t : Tenant) (l : Layout) (id : List ℕ) (st : Standing m t l id) where
  found_ok : (row : Result (Option DataRow) StoreFail) (x : Option Record) → FoundAs data_form (option_map st.row st.found) row → found_from l row ≡ Ok x → x ≡ record_of_object t l.object id
  found_ok (Ok d) x f g = ok_is x st.found (sym g ∙ given l st.row st.found d st.reads f) ∙ sym st.is
  found_ok (Err e) x f g = absurd (no_ok x e g)

  found_damaged : (row : Result (Option DataRow) StoreFail) → FoundAs data_form (option_map st.row st.found) row → found_from l row ≡ Err Damaged → ⊥
  found_damaged (Ok d) f g = no_ok st.found Damaged (sym g ∙ given l st.row st.found d st.reads f)
  found_damaged (Err Damaged) f g = f
  found_damaged (Err Keeper) f g = absurd (cc (err_is Keeper Damaged g))
  found_damaged (Err Memory) f g = absurd (cc (err_is Memory Damaged g))

pub record_finds : FindsData → IsAntisymmetric place_cmp → OwnPlaces → Laws → (m : Tables) (l : Layout) (id : List ℕ) → FitsIn record_key (l.org, (l.object, id)) → (row : Result (Option DataRow) StoreFail) (result : Result (Option Record) StoreFail)
    → ReadsAs data_form (l.org, (l.object, id)) (map.get m (spell (Data l.org l.object id))) row → GivesOr Memory (found_from l row) result
    → FindsOf l (λ (t : Tenant). record_of_object t l.object id) m result
record_finds finds exact own laws m l id fits row result reads gives = by result gives
  where
    there : (q : OrgPlan) (t : Tenant) → StandsIn l.org q m (Some t) → IsLayout q t l → (st : Standing m t l id) × FoundAs data_form (option_map st.row st.found) row
    there q t s h =
        let st = stands_there exact own laws q t m l id fits s h in
        (st, finds (l.org, (l.object, id)) (map.get m (spell (Data l.org l.object id))) (option_map st.row st.found) row reads st.kept st.may)

    by : (r : Result (Option Record) StoreFail) → GivesOr Memory (found_from l row) r → FindsOf l (λ (t : Tenant). record_of_object t l.object id) m r
    by (Ok x) g = λ q t s h. let (st, f) = there q t s h in found_ok m t l id st row x f g
    by (Err Keeper) g = tt
    by (Err Memory) g = tt
    by (Err Damaged) (inl e) = absurd cc
    by (Err Damaged) (inr g) = λ q t s h. let (st, f) = there q t s h in found_damaged m t l id st row f g
