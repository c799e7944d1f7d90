-- The changes of a page are at most two for each record, and remove none.
use Rattle.std.proofs.Common.{◌≡◌, ◌⊎◌, inl, inr, ℕ, suc, ◌+◌, ◌*◌, ◌≤◌, true, false, not, ◌&&◌, cond, IsTrue, List, [], ◌∷◌, ◌++◌, length, map, Option, Some, None, refl, sym, ap, ap₂, subst, ◌∙◌, arith, length-append}
use Rattle.std.specs.Prelude.{slice_get}
use Rattle.std.specs.Option.{option_and_then, option_map}
use Rattle.std.proofs.lemmas.Bool.{not-true as is_false}
use Rattle.std.proofs.lemmas.Option.{none-some as no_value}
use Rattle.base_lemmas.proofs.Bools.{and_second as and_right}
use Rattle.record_read.proofs.RowFits.{typed_at, valid_at}
use Rattle.record_read.proofs.Sound.{fields_typed, values_valid}
use Rattle.store_edit.specs.Rows.{gone_of, spelled}
use Rattle.formula.specs.Meaning.{value_at}
use Rattle.store_rows.specs.declared.data.DataRow.{DataRow}
use Rattle.store_rows.specs.Keys.{Index, Key, Relation, Unique}
use Rattle.model.specs.declared.record.Record.{Record}
use Rattle.model.specs.Cases.{in_case}
use Rattle.model.specs.Fields.{is_null, ref_of}
use Rattle.model.specs.Jobs.{is_past}
use Rattle.model.specs.Membership.{Has}
use Rattle.model.specs.Objects.{is_of, object_numbered}
use Rattle.model.specs.Retyping.{job_is_done}
use Rattle.model.specs.Sound.{IsSound}
use Rattle.model.specs.SoundJob.{HasSoundJob, IsSoundJob}
use Rattle.model.specs.SoundRecords.{all_valid, kinds_of}
use Rattle.model.specs.Tenant.{Field, Job, Object, Tenant}
use Rattle.record_index.specs.Changed.{index_key, reference_key, row_turned, slot_changes, unique_key}
use Rattle.record_index.specs.Removed.{beside_entry}
use Rattle.record_index.proofs.Converting.{the_field}
use Rattle.retype_step.specs.backfill.Progress.{record_moves, records_move, twin_changes}
use Rattle.retype_step.proofs.Entries.{in_other}
use Rattle.store_abstraction.specs.Changes.{Change}
use Rattle.store_abstraction.specs.Entries.{Entry, job_entry, job_value, slot_entry, slot_field}
use Rattle.store_abstraction.specs.Plan.{FitsPlan, OrgPlan, is_clearing, slot_type, type_there}
use Rattle.store_abstraction.specs.declared.layout.JobPlace.{JobPlace}
use Rattle.store_abstraction.specs.declared.layout.Layout.{Layout}
use Rattle.base_value.specs.Conversion.{convert}
use Rattle.base_value.specs.OrderKeys.{order_key}
use Rattle.base_value.specs.Types.{is_reference, is_type}
use Rattle.base_value.specs.Values.{valid}
use Rattle.base_value.specs.declared.job.Outcome.{Outcome}
use Rattle.base_value.specs.declared.job.Outcome.TheVariants as outcome
use Rattle.base_value.specs.declared.job.Phase.{Phase}
use Rattle.base_value.specs.declared.job.Phase.TheVariants as phase
use Rattle.base_value.specs.declared.value.FieldType.{FieldType}
use Rattle.base_value.specs.declared.value.FieldType.TheVariants as type
use Rattle.base_value.specs.declared.value.Value.{Value}

-- what `base_value` says
abbrev pub ConvertsValid : Type 0
ConvertsValid = (from to : FieldType) (v w : Value) → IsTrue (is_type from) → IsTrue (valid from v) → convert to v ≡ Some w → IsTrue (valid to w)

abbrev pub ArePlain : Type 0
ArePlain = (kind : FieldType) (v : Value) → is_reference kind ≡ false → IsTrue (valid kind v) → ref_of v ≡ None

-- ---- one slot

index_few : (make : List ℕ → Key) (a b : Option (List ℕ)) → (a ≡ None) ⊎ (b ≡ None) → length (row_turned make [] a b) ≤ 1
index_few make None None h = omega arith
index_few make (Some a) None h = omega arith
index_few make None (Some b) h = omega arith
index_few make (Some a) (Some b) (inl e) = absurd cc
index_few make (Some a) (Some b) (inr e) = absurd cc

-- what has neither a unique key nor a reference
record IsPlain (e : Option Entry) : Type 0 where
  no_unique : unique_key e ≡ None
  no_reference : reference_key e ≡ None

slot_few : (org n : ℕ) (id : List ℕ) (e f : Option Entry) (s : ℕ) → IsPlain e → IsPlain f → (index_key e ≡ None) ⊎ (index_key f ≡ None) → length (slot_changes org n id e f s) ≤ 1
slot_few org n id e f s a b one =
    let index = row_turned (λ k. Index org n s k id) [] (index_key e) (index_key f) in
    let none : row_turned (λ k. Unique org n s k) id (unique_key e) (unique_key f) ++ row_turned (λ k. Relation org n s k id) [] (reference_key e) (reference_key f) ≡ []
    = ap₂ (λ (x y : List Change). x ++ y)
    (ap₂ (row_turned (λ k. Unique org n s k) id) a.no_unique b.no_unique)
    (ap₂ (row_turned (λ k. Relation org n s k id) []) a.no_reference b.no_reference) in
    let few = index_few (λ k. Index org n s k id) (index_key e) (index_key f) one in
    let both = length-append index [] in
    subst (λ (x : List Change). length (index ++ x) ≤ 1) (sym none) (omega (arith, few, both))

-- ---- what a change has in its slot

abbrev RefersNot : Option Value → Type 0
RefersNot x = (v : Value) → x ≡ Some v → ref_of v ≡ None

module _ (kind : FieldType) (f : Field) (unique : f.unique ≡ false) where
  abbrev mapped : Option Value → Option Entry
  mapped x = option_map {U = Entry} (λ v. record { kind = kind; value = v; indexed = f.indexed; unique = f.unique }) x

  mapped_plain : (x : Option Value) → RefersNot x → IsPlain (mapped x)
  mapped_plain None h = record { no_unique = refl; no_reference = refl }
  mapped_plain (Some v) h = record { no_unique = ap (λ b. cond (b && not (is_null v)) (Some (order_key v)) None) unique; no_reference = h v refl }

  mapped_none : (x : Option Value) → x ≡ None → index_key (mapped x) ≡ None
  mapped_none x e = ap (λ y. index_key (mapped y)) e

module _ (valids : ConvertsValid) (plain : ArePlain) (q : OrgPlan) (t : Tenant) (j : Job) (o : Object) (c : Option (List ℕ)) (sound : IsSound t) (fits : FitsPlan q t) (is : t.job ≡ Some j) (busy : job_is_done j.phase ≡ false)
    (here : object_numbered t j.object ≡ Some o) (vacant : slot_field q j.object o.fields q.other ≡ None) where
  abbrev n : ℕ
  n = j.object

  abbrev after : Job
  after = record j { cursor = c }

  its : IsSoundJob t.counter t.objects t.records j
  its = subst (HasSoundJob t.counter t.objects t.records) is sound.job

  abbrev f : Field
  f = its.field

  there : slice_get o.fields j.field ≡ Some f
  there = sym (the_field t n o j here refl) ∙ its.there

  new_plain : is_reference j.to ≡ false
  new_plain = is_false (is_reference j.to) (and_right (is_type j.to) (not (is_reference j.to)) its.change.to)

  there_plain : (ph : Phase) (out : Outcome) → is_reference (slot_type q j ph out) ≡ false
  there_plain phase.Copy out = new_plain
  there_plain phase.Done out = new_plain
  there_plain phase.Clear outcome.Open = new_plain
  there_plain phase.Clear outcome.Switched = is_false (is_reference q.was) (and_right (is_type q.was) (not (is_reference q.was)) fits.was)
  there_plain phase.Clear outcome.Failed = new_plain
  there_plain phase.Clear outcome.Cancelled = new_plain

  module _ (r : Record) (in_all : Has t.records r) (of : is_of n r ≡ true) (past : is_past j.cursor r.id ≡ true) (come : is_past c r.id ≡ false) where
    field_valid : (values : List Value) → all_valid (kinds_of o) values ≡ true → valid f.kind (value_at values (suc j.field)) ≡ true
    field_valid [] h = absurd cc
    field_valid (v ∷ vs) h = valid_at (λ (x : Field). x.kind) o.fields vs j.field f (and_right (valid (type.Text 80) v) (all_valid (map (λ x. x.kind) o.fields) vs) h) there

    converts : (v : Value) → convert j.to (value_at r.values (suc j.field)) ≡ Some v → ref_of v ≡ None
    converts v e =
        plain j.to v new_plain
        (valids f.kind j.to (value_at r.values (suc j.field)) v (typed_at (λ (x : Field). x.kind) o.fields j.field f (fields_typed t n o sound here) there)
        (field_valid r.values (values_valid t n o r sound here in_all of)) e)

    -- before, or after
    record Sides (v w : Option Value) : Type 0 where
      one : (v ≡ None) ⊎ (w ≡ None)
      before : RefersNot v
      behind : RefersNot w

    sides : Sides (job_value q j j.phase r) (job_value q after j.phase r)
    sides = by j.phase refl busy
      where
        left : j.phase ≡ phase.Clear → (v : Value) → q.left r.id ≡ Some v → ref_of v ≡ None
        left e v at = plain (type_there q j) v (there_plain j.phase j.outcome) (fits.left j r.id v is (ap is_clearing e) at)

        by : (ph : Phase) → j.phase ≡ ph → job_is_done ph ≡ false → Sides (job_value q j ph r) (job_value q after ph r)
        by phase.Copy e b =
            let none : job_value q j phase.Copy r ≡ None = ap (λ b. cond b None (convert j.to (value_at r.values (suc j.field)))) past in
            let some : job_value q after phase.Copy r ≡ convert j.to (value_at r.values (suc j.field)) = ap (λ b. cond b None (convert j.to (value_at r.values (suc j.field)))) come in
            record { one = inl none; before = λ v at. absurd (no_value v (sym none ∙ at)); behind = λ v at. converts v (sym some ∙ at) }
        by phase.Clear e b =
            let some : job_value q j phase.Clear r ≡ q.left r.id = ap (λ b. cond b (q.left r.id) None) past in
            let none : job_value q after phase.Clear r ≡ None = ap (λ b. cond b (q.left r.id) None) come in
            record { one = inr none; before = λ v at. left e v (sym some ∙ at); behind = λ v at. absurd (no_value v (sym none ∙ at)) }
        by phase.Done e b = absurd cc

    abbrev old : Option Value
    old = job_value q j j.phase r

    abbrev new : Option Value
    new = job_value q after j.phase r

    before_is : slot_entry q t.job n o r q.other ≡ mapped (type_there q j) f its.change.unique old
    before_is = ap (λ (job : Option Job). slot_entry q job n o r q.other) is ∙ in_other q j o r vacant ∙ ap (option_and_then (job_entry q j r)) there

    after_is : slot_entry q (Some after) n o r q.other ≡ mapped (type_there q after) f its.change.unique new
    after_is = in_other q after o r vacant ∙ ap (option_and_then (job_entry q after r)) there

    pub twin_few : (org : ℕ) → length (slot_changes org n r.id (slot_entry q t.job n o r q.other) (slot_entry q (Some after) n o r q.other) q.other) ≤ 1
    twin_few org =
        subst (λ (e : Option Entry). length (slot_changes org n r.id e (slot_entry q (Some after) n o r q.other) q.other) ≤ 1) (sym before_is)
        (subst (λ (e : Option Entry). length (slot_changes org n r.id (mapped (type_there q j) f its.change.unique old) e q.other) ≤ 1) (sym after_is)
        (slot_few org n r.id (mapped (type_there q j) f its.change.unique old) (mapped (type_there q after) f its.change.unique new) q.other
        (mapped_plain (type_there q j) f its.change.unique old sides.before)
        (mapped_plain (type_there q after) f its.change.unique new sides.behind)
        (elim sides.one [
          | inl e ↦ inl (mapped_none (type_there q j) f its.change.unique old e)
          | inr e ↦ inr (mapped_none (type_there q after) f its.change.unique new e)
        ])))

-- ---- all records

pub page_few : (l m : Layout) (row : Record → DataRow) (rs : List Record) → ((r : Record) → Has rs r → length (record_moves l m (row r) r) ≤ 2) → length (records_move l m (map row rs) rs) ≤ 2 * length rs
unfolding records_move
page_few l m row [] each = omega arith
page_few l m row (r ∷ rs) each =
    let first = each r (inl refl) in
    let more = page_few l m row rs (λ x has. each x (inr has)) in
    let both = length-append (record_moves l m (row r) r) (records_move l m (map row rs) rs) in
    omega (arith, first, more, both)

-- ---- none goes

abbrev pub SlotGone : Type 0
SlotGone = (org n : ℕ) (id : List ℕ) (e f : Option Entry) (s : ℕ) → gone_of (map spelled (slot_changes org n id e f s)) ≡ 0

gone_both : (xs ys : List Change) → gone_of (map spelled (xs ++ ys)) ≡ gone_of (map spelled xs) + gone_of (map spelled ys)
gone_both [] ys = omega arith
gone_both (x ∷ xs) ys = let e = gone_both xs ys in omega (arith, e)

twin_gone : SlotGone → (l m : Layout) (kept : DataRow) (r : Record) → gone_of (map spelled (twin_changes l m kept r)) ≡ 0
twin_gone gone l m kept r = by l.job
  where
    by : (x : Option JobPlace) → gone_of (map spelled (in_case x [] (λ j. slot_changes l.org l.object r.id (beside_entry l kept r j.twin) (beside_entry m kept r j.twin) j.twin))) ≡ 0
    by None = refl
    by (Some j) = gone l.org l.object r.id (beside_entry l kept r j.twin) (beside_entry m kept r j.twin) j.twin

pub page_gone : SlotGone → (l m : Layout) (rows : List DataRow) (rs : List Record) → gone_of (map spelled (records_move l m rows rs)) ≡ 0
unfolding records_move
page_gone gone l m [] rs = refl
page_gone gone l m (kept ∷ rows) [] = refl
page_gone gone l m (kept ∷ rows) (r ∷ rs) =
    let first = twin_gone gone l m kept r in
    let more = page_gone gone l m rows rs in
    let both = gone_both (record_moves l m kept r) (records_move l m rows rs) in
    omega (arith, first, more, both)
