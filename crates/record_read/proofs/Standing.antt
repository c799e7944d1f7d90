-- What tables have at a record's key, where the organisation's rows stand for a tenant.
use Rattle.std.proofs.Common.{◌≡◌, ℕ, ◌<◌, ◌^◌, cond, IsTrue, List, [], ◌∷◌, Option, Some, None, refl, sym, ap, subst, ◌∙◌, inl, inr}
use Rattle.std.specs.Prelude.{IfSome}
use Rattle.std.specs.FinMap as map
use Rattle.std.specs.FinMap.{IsAntisymmetric}
use Rattle.std.specs.Option.{option_and_then, option_map}
use Rattle.std.specs.Str.{bytes_eq}
use Rattle.std.proofs.lemmas.Slice.Eq.{bytes_eq-Decides}
use Rattle.base_lemmas.proofs.Numbers.{eqb-self as eqb_same}
use Rattle.base_lemmas.proofs.Bools.{by_answer as pick}
use Rattle.std.proofs.lemmas.Option.{same_Some as some_is}
use Rattle.store_kv.specs.Tables.{Tables, place_cmp}
use Rattle.store_rows.specs.declared.data.DataRow.{DataRow}
use Rattle.store_rows.specs.Forms.{FitsForm, row_bytes}
use Rattle.store_rows.specs.Keys.{Data, FitsKey, Key, record_key, spell}
use Rattle.store_codec.specs.Shapes.{FitsIn}
use Rattle.store_rows.specs.Reads.{MayStandAt}
use Rattle.store_rows.specs.Rows.{data_form}
use Rattle.model.specs.declared.record.Record.{Record}
use Rattle.model.specs.Membership.{Has}
use Rattle.model.specs.Objects.{is_of, object_numbered, record_at}
use Rattle.model.specs.Rights.{record_of_object}
use Rattle.model.specs.Sound.{IsSound}
use Rattle.model.specs.Tenant as model
use Rattle.model.specs.Tenant.{Tenant}
use Rattle.model.specs.World.{having_id}
use Rattle.store_abstraction.specs.declared.layout.Layout.{Layout}
use Rattle.store_abstraction.specs.Entries.{data_of, slot_entry}
use Rattle.store_abstraction.specs.Layouts.{IsLayout, layout_of, own_layout}
use Rattle.store_abstraction.specs.Local.{StandsIn, is_own, is_place_of, rows_alone}
use Rattle.store_abstraction.specs.Plan.{FitsPlan, OrgPlan}
use Rattle.store_abstraction.specs.Stands.{Kept, kept_at, kept_in, row_in}
use Rattle.store_abstraction.proofs.Places.{part_at}
use Rattle.record_read.specs.Decoding.{record_from}

-- ---- laws that other functions have

-- a key is at a place of the organisation whose key it is, as `local_laws` says
abbrev pub OwnPlaces : Type 0
OwnPlaces = (n : ℕ) (k : Key) → n < 2 ^ 32 → FitsKey k → is_place_of n (spell k) ≡ is_own n k

-- the row of a sound record reads as it, and has a spelling, as `data_laws` says
abbrev pub RowsRead : Type 0
RowsRead = (org n : ℕ) (p : OrgPlan) (t : Tenant) (o : model.Object) (r : Record)
    → IsSound t → FitsPlan p t → object_numbered t n ≡ Some o → Has t.records r → IsTrue (is_of n r)
    → record_from (layout_of org p t (record { number = n; object = o })) (data_of org n r (slot_entry p t.job n o r)) ≡ Some r

abbrev pub RowsFit : Type 0
RowsFit = (org n : ℕ) (p : OrgPlan) (t : Tenant) (o : model.Object) (r : Record)
    → org < 2 ^ 32 → IsSound t → FitsPlan p t → object_numbered t n ≡ Some o → Has t.records r → IsTrue (is_of n r)
    → FitsForm data_form (data_of org n r (slot_entry p t.job n o r))

pub record Laws : Type 0 where
  pub read : RowsRead
  pub fits : RowsFit

-- ---- a layout's object

pub record IsOf (q : OrgPlan) (t : Tenant) (l : Layout) : Type 0 where
  pub object : model.Object
  pub there : object_numbered t l.object ≡ Some object
  pub made : layout_of l.org q t (record { number = l.object; object = object }) ≡ l

pub layout_is : (q : OrgPlan) (t : Tenant) (l : Layout) → IsLayout q t l → IsOf q t l
unfolding own_layout
layout_is q t l h = by (object_numbered t l.object) refl h
  where
    by : (o : Option model.Object) → object_numbered t l.object ≡ o
        → option_map (layout_of l.org q t) (option_map (λ x. record { number = l.object; object = x }) o) ≡ Some l → IsOf q t l
    by None there h = absurd cc
    by (Some o) there h = record {
      object = o;
      there = there;
      made = some_is (layout_of l.org q t (record { number = l.object; object = o })) l h;
    }

-- ---- a record's row

-- the record, if it is of this object
abbrev pub of_object : ℕ → Option Record → Option Record
of_object n x = option_and_then (λ r. cond (is_of n r) (Some r) None) x

abbrev pub row_in_plan : ℕ → OrgPlan → Tenant → ℕ → model.Object → Record → DataRow
row_in_plan org p t n o r = data_of org n r (slot_entry p t.job n o r)

pub row_kept : (org n : ℕ) (p : OrgPlan) (t : Tenant) (o : model.Object) (id : List ℕ) → object_numbered t n ≡ Some o
    → row_in p t (Data org n id) ≡ option_map (row_bytes data_form) (option_map (row_in_plan org p t n o) (of_object n (record_at t id)))
unfolding row_in kept_at
row_kept org n p t o id is = by (record_at t id)
  where
    by : (x : Option Record)
        → option_map (λ (k : Kept). row_bytes data_form (data_of org n k.item k.entries)) (option_and_then (λ r. cond (is_of n r) (option_map (λ o. kept_in p t n o r) (object_numbered t n)) None) x)
        ≡ option_map (row_bytes data_form) (option_map (row_in_plan org p t n o) (of_object n x))
    by None = refl
    by (Some r) =
        rw is
        (pick (is_of n r)
        (λ b. option_map (λ (k : Kept). row_bytes data_form (data_of org n k.item k.entries)) (cond b (Some (kept_in p t n o r)) None) ≡ option_map (row_bytes data_form) (option_map (row_in_plan org p t n o) (cond b (Some r) None)))
        (λ _. refl)
        (λ _. refl))

pub found_id : (rs : List Record) (id : List ℕ) (r : Record) → having_id (λ r. r.id) rs id ≡ Some r → (r.id ≡ id) × Has rs r
found_id [] id r e = absurd cc
found_id (x ∷ rs) id r e =
    pick (bytes_eq id x.id) (λ b. bytes_eq id x.id ≡ b → cond b (Some x) (having_id (λ r. r.id) rs id) ≡ Some r → (r.id ≡ id) × Has (x ∷ rs) r)
    (λ _ same here. let is : x ≡ r = some_is x r here in (ap (λ (y : Record). y.id) (sym is) ∙ sym ((bytes_eq-Decides id x.id).0 same), inl (sym is)))
    (λ _ _ rest. let (same, has) = found_id rs id r rest in (same, inr has))
    refl e

pub record Found (t : Tenant) (n : ℕ) (id : List ℕ) (r : Record) : Type 0 where
  pub same : r.id ≡ id
  pub has : Has t.records r
  pub of : IsTrue (is_of n r)

pub found_of : (t : Tenant) (n : ℕ) (id : List ℕ) (r : Record) (x : Option Record) → record_at t id ≡ x → of_object n x ≡ Some r → Found t n id r
found_of t n id r None e h = absurd cc
found_of t n id r (Some s) e h =
    pick (is_of n s) (λ b. is_of n s ≡ b → cond b (Some s) None ≡ Some r → Found t n id r)
    (λ _ of here.
    let is : s ≡ r = some_is s r here in
    let (same, has) = found_id t.records id r (e ∙ ap Some is) in
    record { same = same; has = has; of = subst (λ (x : Record). IsTrue (is_of n x)) is of })
    (λ _ _ none. absurd cc)
    refl h

-- ---- the tables at keys of the organisation

-- its rows alone are its tenant's
pub own_row : (org n : ℕ) (q : OrgPlan) (t : Tenant) (id : List ℕ) → rows_alone org q (Some t) (Data org n id) ≡ row_in q t (Data org n id)
own_row org n q t id = ap (λ b. cond b (row_in q t (Data org n id)) None) (eqb_same org)

-- whether they are a tenant's, or none
pub at_place : IsAntisymmetric place_cmp → OwnPlaces → (org n : ℕ) (q : OrgPlan) (t : Option Tenant) (m : Tables) (id : List ℕ) → org < 2 ^ 32 → FitsKey (Data org n id) → StandsIn org q m t
    → map.get m (spell (Data org n id)) ≡ rows_alone org q t (Data org n id)
at_place exact own org n q t m id lo key s =
    let k = Data org n id in
    sym (part_at exact org m (spell k) ∙ ap (λ b. cond b (map.get m (spell k)) None) (own org k lo key ∙ eqb_same org)) ∙ s.rows.at k key

at_key : IsAntisymmetric place_cmp → OwnPlaces → (org n : ℕ) (q : OrgPlan) (t : Tenant) (m : Tables) (id : List ℕ) → org < 2 ^ 32 → FitsKey (Data org n id) → StandsIn org q m (Some t)
    → map.get m (spell (Data org n id)) ≡ row_in q t (Data org n id)
at_key exact own org n q t m id lo key s = at_place exact own org n q (Some t) m id lo key s ∙ own_row org n q t id

-- ---- what is there

pub record Standing (m : Tables) (t : Tenant) (l : Layout) (id : List ℕ) : Type 0 where
  pub found : Option Record
  pub is : record_of_object t l.object id ≡ found
  pub row : Record → DataRow
  pub kept : map.get m (spell (Data l.org l.object id)) ≡ option_map (row_bytes data_form) (option_map row found)
  pub may : MayStandAt data_form (l.org, (l.object, id)) (option_map row found)
  pub reads : IfSome found (λ r. record_from l (row r) ≡ Some r)

record_is : (n : ℕ) (id : List ℕ) (t : Tenant) → record_of_object t n id ≡ of_object n (record_at t id)
record_is n id t = refl

module _ (laws : Laws) (q : OrgPlan) (t : Tenant) (l : Layout) (one : IsOf q t l) (sound : IsSound t) (plan : FitsPlan q t) (id : List ℕ) where
  abbrev row : Record → DataRow
  row = row_in_plan l.org q t l.object one.object

  may_be : l.org < 2 ^ 32 → (x : Option Record) → of_object l.object (record_at t id) ≡ x → MayStandAt data_form (l.org, (l.object, id)) (option_map row x)
  may_be lo None e = tt
  may_be lo (Some r) e =
      let f = found_of t l.object id r (record_at t id) refl e in
      (ap (λ (i : List ℕ). (l.org, (l.object, i))) f.same, laws.fits l.org l.object q t one.object r lo sound plan one.there f.has f.of)

  read_be : (x : Option Record) → of_object l.object (record_at t id) ≡ x → IfSome x (λ r. record_from l (row r) ≡ Some r)
  read_be None e = tt
  read_be (Some r) e =
      let f = found_of t l.object id r (record_at t id) refl e in
      subst (λ (k : Layout). record_from k (row r) ≡ Some r) one.made (laws.read l.org l.object q t one.object r sound plan one.there f.has f.of)

pub stands_there : IsAntisymmetric place_cmp → OwnPlaces → Laws → (q : OrgPlan) (t : Tenant) (m : Tables) (l : Layout) (id : List ℕ) → FitsIn record_key (l.org, (l.object, id)) → StandsIn l.org q m (Some t) → IsLayout q t l
    → Standing m t l id
stands_there exact own laws q t m l id key s h =
    let one = layout_is q t l h in
    record {
      found = of_object l.object (record_at t id);
      is = record_is l.object id t;
      row = row_in_plan l.org q t l.object one.object;
      kept = at_key exact own l.org l.object q t m id key.0 key s ∙ row_kept l.org l.object q t one.object id one.there;
      may = may_be laws q t l one s.sound s.plan id key.0 (of_object l.object (record_at t id)) refl;
      reads = read_be laws q t l one s.sound s.plan id (of_object l.object (record_at t id)) refl;
    }
