-- What is known of the change of a sound tenant: its object, its field, and the records of its next step.
use Rattle.std.proofs.Common.{◌≡◌, ◌∙◌, ℕ, zero, suc, ◌+◌, true, IsTrue, List, [], ◌∷◌, map, filter, Some, refl, sym, ap, subst, arith, inl, inr}
use Rattle.std.specs.Prelude.{slice_get}
use Rattle.std.specs.List.{enumerate_from}
use Rattle.base_lemmas.proofs.Bools.{and_second as and_right}
use Rattle.std.proofs.lemmas.Option.{same_Some as some_is}
use Rattle.record_read.proofs.Rising.{has_filter, has_take}
use Rattle.record_read.proofs.RowFits.{typed_at, valid_at}
use Rattle.record_read.specs.Decoding.{each_from, has_types, kinds_in, record_from}
use Rattle.formula.specs.Meaning.{value_at}
use Rattle.store_rows.specs.declared.data.DataRow.{DataRow}
use Rattle.model.specs.declared.record.Record.{Record}
use Rattle.model.specs.Jobs.{is_past, last_id, next_hundred}
use Rattle.model.specs.Limits.{step_records}
use Rattle.model.specs.Membership.{Has}
use Rattle.model.specs.Objects.{is_of, object_numbered, records_of}
use Rattle.model.specs.Sound.{IsSound}
use Rattle.model.specs.SoundJob.{HasSoundJob, IsSoundChange}
use Rattle.model.specs.SoundRecords.{all_valid}
use Rattle.model.specs.Tenant.{Field, Job, Object, Tenant}
use Rattle.store_abstraction.proofs.MetadataRows.{and_then_some}
use Rattle.store_abstraction.specs.declared.layout.FieldPlace.{FieldPlace}
use Rattle.store_abstraction.specs.declared.layout.Layout.{Layout}
use Rattle.store_abstraction.specs.Entries.{data_of, slot_entry}
use Rattle.store_abstraction.specs.Layouts.{layout_of, place_of}
use Rattle.store_abstraction.specs.Plan.{FitsPlan, OrgPlan}
use Rattle.base_value.specs.Types.{is_type}
use Rattle.base_value.specs.Values.{valid}
use Rattle.base_value.specs.declared.value.FieldType.TheVariants as type
use Rattle.base_value.specs.declared.value.Value.{Value}

-- ---- the object and the field of a change

-- the field of a change, in its object
pub record FieldOf (t : Tenant) (j : Job) (o : Object) : Type 0 where
  pub field : Field
  pub at : slice_get o.fields j.field ≡ Some field
  pub change : IsSoundChange j field

pub field_there : (t : Tenant) (j : Job) (o : Object) → IsSound t → t.job ≡ Some j → object_numbered t j.object ≡ Some o → FieldOf t j o
field_there t j o sound is there =
    let job = subst (HasSoundJob t.counter t.objects t.records) is sound.job in
    let found = and_then_some (λ (o : Object). slice_get o.fields j.field) (object_numbered t j.object) job.field job.there in
    let same : found.0 ≡ o = some_is found.0 o (sym found.1 ∙ there) in
    record { field = job.field; at = subst (λ (x : Object). slice_get x.fields j.field ≡ Some job.field) same found.2; change = job.change }

pub object_there : (t : Tenant) (j : Job) → IsSound t → t.job ≡ Some j → (o : Object) × (object_numbered t j.object ≡ Some o)
object_there t j sound is =
    let job = subst (HasSoundJob t.counter t.objects t.records) is sound.job in
    let found = and_then_some (λ (o : Object). slice_get o.fields j.field) (object_numbered t j.object) job.field job.there in
    (found.0, found.1)

place_at : (g : ℕ × Field → FieldPlace) (k : ℕ) (fs : List Field) (i n : ℕ) (f : Field) → n ≡ k + i → slice_get fs i ≡ Some f → slice_get (map g (enumerate_from k fs)) i ≡ Some (g (n, f))
place_at g k [] i n f e is = absurd cc
place_at g k (x ∷ fs) zero n f e is =
    let same : k ≡ n = omega (arith, e) in
    let its : x ≡ f = some_is x f is in
    ap (λ (m : ℕ). Some (g (m, x))) same ∙ ap (λ (y : Field). Some (g (n, y))) its
place_at g k (x ∷ fs) (suc i) n f e is = place_at g (k + 1) fs i n f (omega (arith, e)) is

-- the place of the field in the layout of its object
pub place_there : (org : ℕ) (q : OrgPlan) (t : Tenant) (j : Job) (o : Object) (f : Field) → slice_get o.fields j.field ≡ Some f
    → slice_get (layout_of org q t (record { number = j.object; object = o })).fields j.field ≡ Some (place_of q j.object (j.field, f))
place_there org q t j o f at = place_at (place_of q j.object) 0 o.fields j.field j.field f (omega arith) at

-- ---- the next records

-- the row of each sound record reads as that record, as `record_read` says
abbrev pub ReadsRecords : Type 0
ReadsRecords = (org n : ℕ) (p : OrgPlan) (t : Tenant) (o : Object) (r : Record) → IsSound t → FitsPlan p t → object_numbered t n ≡ Some o → Has t.records r → IsTrue (is_of n r)
    → record_from (layout_of org p t (record { number = n; object = o })) (data_of org n r (slot_entry p t.job n o r)) ≡ Some r

rows_read : (l : Layout) (row : Record → DataRow) (rs : List Record) → ((r : Record) → Has rs r → record_from l (row r) ≡ Some r) → each_from (record_from l) (map row rs) ≡ Some rs
rows_read l row [] h = refl
rows_read l row (r ∷ rs) h = rw (h r (inl refl), rows_read l row rs (λ x has. h x (inr has))) refl

pub next_read : ReadsRecords → (org : ℕ) (q : OrgPlan) (t : Tenant) (j : Job) (o : Object) → IsSound t → FitsPlan q t → object_numbered t j.object ≡ Some o
    → each_from (record_from (layout_of org q t (record { number = j.object; object = o }))) (map (λ r. data_of org j.object r (slot_entry q t.job j.object o r)) (next_hundred t j)) ≡ Some (next_hundred t j)
next_read reads org q t j o sound fits there =
    rows_read (layout_of org q t (record { number = j.object; object = o })) (λ r. data_of org j.object r (slot_entry q t.job j.object o r)) (next_hundred t j) (λ r has.
    let past = has_filter (λ (r : Record). is_past j.cursor r.id) (records_of t j.object) r (has_take step_records (filter (λ (r : Record). is_past j.cursor r.id) (records_of t j.object)) r has) in
    let its = has_filter (is_of j.object) t.records r past.0 in
    reads org j.object q t o r sound fits there its.0 its.1)

-- ---- the last of some

pub last_some : (r : Record) (rs : List Record) → (c : List ℕ) × (last_id (r ∷ rs) ≡ Some c)
last_some r [] = (r.id, refl)
last_some r (x ∷ rs) = last_some x rs

-- ---- a field of a layout

pub field_typed : (l : Layout) (i : ℕ) (f : FieldPlace) → has_types l ≡ true → slice_get l.fields i ≡ Some f → is_type f.kind ≡ true
field_typed l i f types at = typed_at (λ (x : FieldPlace). x.kind) l.fields i f types at

pub field_valid : (l : Layout) (values : List Value) (i : ℕ) (f : FieldPlace) → all_valid (kinds_in l.fields) values ≡ true → slice_get l.fields i ≡ Some f → valid f.kind (value_at values (suc i)) ≡ true
field_valid l [] i f valids at = absurd cc
field_valid l (v ∷ vs) i f valids at =
    valid_at (λ (x : FieldPlace). x.kind) l.fields vs i f (and_right (valid (type.Text 80) v) (all_valid (map (λ f. f.kind) l.fields) vs) valids) at
