-- The changes of a create that is accepted take the organisation's rows to those of the tenant that it leaves.
use Rattle.std.proofs.Common.{◌≡◌, ◌∙◌, ℕ, ◌<◌, ◌^◌, true, false, IsTrue, List, [], ◌∷◌, Option, Some, None, refl, sym, ap, subst, bytes_eq}
use Rattle.std.specs.Prelude.{Err, IfErr, IfOk, IsErrAnd, Ok, OnOk, Result, slice_get}
use Rattle.std.specs.List.{AllByRecursion, list_all}
use Rattle.std.proofs.lemmas.Bool.{and_parts as and_both}
use Rattle.record_read.specs.Decoding.{kinds_in}
use Rattle.store_edit.specs.declared.decided.Decided.{Decided}
use Rattle.store_edit.specs.Edits.{ChangesIn, DecidesTo, FailsBy, Planned, Takes}
use Rattle.store_edit.specs.Naming.{NamesLayout}
use Rattle.store_edit.specs.Rows.{AreSpelled, change_to}
use Rattle.store_rows.specs.declared.fail.StoreFail.TheVariants.{Damaged, Memory}
use Rattle.store_rows.specs.declared.object.ObjectRow.{ObjectRow}
use Rattle.store_rows.specs.declared.org.OrgRow.{OrgRow}
use Rattle.store_rows.specs.Keys.{FitsKey}
use Rattle.store_rows.specs.Rows.{object_form, org_form}
use Rattle.model.specs.Creates.{create, create_on, create_rules, with_record}
use Rattle.model.specs.declared.record.Record.{Record}
use Rattle.model.specs.declared.record_bodies.Assignment.{Assignment}
use Rattle.model.specs.Keys.{Key, with_key}
use Rattle.model.specs.Membership.{Has}
use Rattle.model.specs.Objects.{Numbered, is_of, object_named, object_numbered, record_prefix}
use Rattle.model.specs.Paths.{Asked}
use Rattle.model.specs.Rules.{first_refusal}
use Rattle.model.specs.Sound.{IsSound}
use Rattle.model.specs.SoundJob.{HasSoundJob}
use Rattle.model.specs.SoundRecords.{all_valid}
use Rattle.model.specs.SoundSharing.{IsCursor}
use Rattle.model.specs.Tenant.{Job, Object, Tenant}
use Rattle.model.specs.Verdict.{Done, Verdict}
use Rattle.record_index.specs.Made.{made_changes}
use Rattle.store_abstraction.specs.Changes.{Change}
use Rattle.store_abstraction.specs.declared.fail.EditFail.{EditFail}
use Rattle.store_abstraction.specs.declared.fail.EditFail.TheVariants.{Refused, Store}
use Rattle.store_abstraction.specs.declared.layout.Layout.{Layout}
use Rattle.store_abstraction.specs.Entries.{job_value}
use Rattle.store_abstraction.specs.Fails.{of_store}
use Rattle.store_abstraction.specs.Layouts.{layout_of}
use Rattle.store_abstraction.specs.Local.{IsIn}
use Rattle.store_abstraction.specs.Metadata.{org_of, row_of_object}
use Rattle.store_abstraction.specs.Plan.{FitsPlan, OrgPlan}
use Rattle.record_index.specs.diff.Touched.{fresh_plan, touched_changes}
use Rattle.base_value.specs.declared.value.FieldType.{FieldType}
use Rattle.base_value.specs.declared.value.Value.{Value}
use Rattle.base_value.specs.Id.{made}
use Rattle.base_value.specs.Printing.{is_printable}
use Rattle.base_value.specs.Values.{valid}
use Rattle.record_save.specs.Creating.{IsObject, PlansNew, answered_new, created_changes, new_record}
use Rattle.record_save.specs.declared.creating.Accepted.{Accepted}
use Rattle.record_save.specs.inner.Judged.{HaveKeys, IsAccepted, changes_of}
use Rattle.record_save.specs.inner.Object.{object_with, row_with}
use Rattle.record_save.proofs.Judging.{small_number}
use Rattle.record_save.proofs.Numbers.{IdOrder, named, new_is_of, no_value, object_counted, past, row_counted, unnamed}
use Rattle.record_save.proofs.Rows.{RowsMade, touched_is}

-- ---- an edit that is decided, where its changes are right if there are any

module _ {X : Type 0} (org : ℕ) (changes : List Change) where
  pub decided_in : (result : Result (Decided X) EditFail) → IfOk result (λ x. AreSpelled changes x.changes.items) → OnOk result (AllByRecursion (IsIn org) changes) → ChangesIn org result
  decided_in (Ok x) written are = (changes, written, are)
  decided_in (Err e) written are = tt

  pub decided_to : (answered : X → Done) (q : OrgPlan) (t : Tenant) (v : Verdict) (planned : Planned) (answer : X) (result : Result (Decided X) EditFail) → IfOk result (λ x. x.answer ≡ answer)
      → IfOk result (λ x. AreSpelled changes x.changes.items) → IfErr result (λ e. e ≡ of_store Memory) → OnOk result (Takes org q t v (answered answer) planned changes) → DecidesTo org q t v answered planned result
  decided_to answered q t v planned answer (Ok x) same written cause takes = (changes, written, subst (λ (y : X). Takes org q t v (answered y) planned changes) (sym same) takes)
  decided_to answered q t v planned answer (Err e) same written cause takes = subst (FailsBy v) (sym cause) (λ d. absurd (apart d))
    where
      apart : Memory ≡ Damaged → ⊥
      apart d = cc

-- one that isn't decided
module _ {X : Type 0} (org : ℕ) (e : EditFail) where
  pub failed_in : (result : Result (Decided X) EditFail) → IsErrAnd result (λ y. y ≡ e) → ChangesIn org result
  failed_in (Ok x) is = absurd is
  failed_in (Err y) is = tt

  pub failed_to : (answered : X → Done) (q : OrgPlan) (t : Tenant) (v : Verdict) (planned : Planned) (result : Result (Decided X) EditFail) → IsErrAnd result (λ y. y ≡ e) → FailsBy v e → DecidesTo org q t v answered planned result
  failed_to answered q t v planned (Ok x) is h = absurd is
  failed_to answered q t v planned (Err y) is h = subst (FailsBy v) (sym is) h

-- what is decided is as the verdict of a request that is the same
pub decides_same : {X : Type 0} (answered : X → Done) (org n : ℕ) (q : OrgPlan) (t : Tenant) (v w : Verdict) (planned : Planned) (result : Result (Decided X) EditFail) → n ≡ org → w ≡ v
    → DecidesTo n q t v answered planned result → DecidesTo org q t w answered planned result
decides_same answered org n q t v w planned result here same h =
    subst (λ (m : ℕ). DecidesTo m q t w answered planned result) here (subst (λ (x : Verdict). DecidesTo n q t x answered planned result) (sym same) h)

pub on_ok : {X : Type 0} (P Q : Type 0) (result : Result X EditFail) → OnOk result P → (P → Q) → OnOk result Q
on_ok P Q (Ok x) h f = f h
on_ok P Q (Err e) h f = tt

-- ---- valid values can be printed

abbrev pub Printable : Type 0
Printable = (kind : FieldType) (v : Value) → IsTrue (valid kind v) → IsTrue (is_printable v)

pub all_printable : Printable → (kinds : List FieldType) (vs : List Value) → IsTrue (all_valid kinds vs) → IsTrue (list_all is_printable vs)
all_printable print [] [] h = refl
all_printable print [] (v ∷ vs) h = absurd cc
all_printable print (k ∷ kinds) [] h = absurd cc
all_printable print (k ∷ kinds) (v ∷ vs) h =
    let p = and_both (valid k v) (all_valid kinds vs) h in rw (print k v p.0) (all_printable print kinds vs p.1)

-- ---- the changes

-- what the laws of other crates say
pub record CreateLaws : Type 0 where
  pub takes : (org : ℕ) (q : OrgPlan) (a : Asked) (o : Numbered) (key : Option Key) (given : List Assignment)
      → org < 2 ^ 32 → IsSound a.tenant → FitsPlan q a.tenant → IsSound (create_on a o key given).tenant
      → object_numbered a.tenant o.number ≡ Some o.object → is_of o.number (new_record a o (with_key key given)) ≡ true
      → None ≡ first_refusal (create_rules a o key given (new_record a o (with_key key given)))
      → AllByRecursion (λ (c : Change). FitsKey c.0) (touched_changes org q (fresh_plan (new_record a o (with_key key given)).id q) a.tenant (with_record (new_record a o (with_key key given)) a.tenant) ((new_record a o (with_key key given)).id ∷ []))
      → Takes org q a.tenant (create_on a o key given) (answered_new key (new_record a o (with_key key given)).id) PlansNew (created_changes org q a.tenant o (new_record a o (with_key key given)))
  pub rows : RowsMade
  pub fresh : (t : Tenant) (n : ℕ) (o : Object) → IsSound t → slice_get t.objects n ≡ Some o → (y : Record) → Has t.records y → bytes_eq y.id (made (record_prefix n) t.counter) ≡ false
  pub order : IdOrder
  pub printable : Printable

module _ (laws : CreateLaws) (org : ℕ) (q : OrgPlan) (a : Asked) (o : Numbered) (l : Layout) (key : Option Key) (given : List Assignment) (sound : IsSound a.tenant) (at : IsObject org q a.tenant o l) (x : Accepted) (is : IsAccepted org a o key given x) where
  abbrev t : Tenant
  t = a.tenant

  abbrev r : Record
  r = new_record a o (with_key key given)

  of : is_of o.number r ≡ true
  of = new_is_of o.number t.counter r (small_number t o sound at.there) refl

  none : (j : Job) → t.job ≡ Some j → j.object ≡ o.number → job_value (fresh_plan r.id q) j j.phase r ≡ None
  none j has on =
      no_value q j r
      (past laws.order t.counter o.number j.cursor r.id sound.counter
      (subst (λ (n : ℕ). IsCursor t.counter n j.cursor) on (subst (HasSoundJob t.counter t.objects t.records) has sound.job).cursor) refl)

  module _ (values : IsTrue (all_valid (kinds_in l.fields) x.new.values)) where
    printable : IsTrue (list_all is_printable r.values)
    printable = subst (λ (z : Record). IsTrue (list_all is_printable z.values)) is.new (all_printable laws.printable (kinds_in l.fields) x.new.values values)

    changes_are : changes_of l x ≡ created_changes org q t o r
    changes_are =
        ap (λ (row : OrgRow). change_to org_form (row_with row) ∷ change_to object_form (object_with x.counts.object) ∷ made_changes l x.new) is.counts.row
        ∙ (ap (λ (object : ObjectRow). change_to org_form (row_with (org_of org t)) ∷ change_to object_form (object_with object) ∷ made_changes l x.new) is.counts.object
        ∙ (ap (λ (l : Layout). change_to org_form (row_with (org_of org t)) ∷ change_to object_form (object_with (row_of_object org t o.number o.object)) ∷ made_changes l x.new) at.layout
        ∙ (ap (λ (z : Record). change_to org_form (row_with (org_of org t)) ∷ change_to object_form (object_with (row_of_object org t o.number o.object)) ∷ made_changes (layout_of org q t o) z) is.new
        ∙ (ap (λ (row : OrgRow). change_to org_form row ∷ change_to object_form (object_with (row_of_object org t o.number o.object)) ∷ made_changes (layout_of org q t o) r) (row_counted org t r)
        ∙ (ap (λ (object : ObjectRow). change_to org_form (org_of org (with_record r t)) ∷ change_to object_form object ∷ made_changes (layout_of org q t o) r) (object_counted org o.number t o.object r of)
        ∙ ap (λ (more : List Change). change_to org_form (org_of org (with_record r t)) ∷ change_to object_form (row_of_object org (with_record r t) o.number o.object) ∷ more)
        (touched_is laws.rows org q t o r none printable of (unnamed t r (laws.fresh t o.number o.object sound at.there)) (named t r (laws.fresh t o.number o.object sound at.there)) at.there))))))

    pub create_taken : org < 2 ^ 32 → FitsPlan q t → IsSound (create_on a o key given).tenant → HaveKeys (changes_of l x)
        → Takes org q t (create_on a o key given) (answered_new key x.new.id) PlansNew (changes_of l x)
    create_taken low plan leaves keys =
        let free = subst (λ (z : Record). None ≡ first_refusal (create_rules a o key given z)) is.new is.free in
        let fit = subst HaveKeys changes_are keys in
        subst (λ (z : Record). Takes org q t (create_on a o key given) (answered_new key z.id) PlansNew (changes_of l x)) (sym is.new)
        (subst (λ (cs : List Change). Takes org q t (create_on a o key given) (answered_new key r.id) PlansNew cs) (sym changes_are)
        (laws.takes org q a o key given low sound plan leaves at.there of free fit.1.1))

-- ---- a request that names the object

pub create_named : (a : Asked) (name : List ℕ) (o : Numbered) (given : List Assignment) → object_named a.tenant name ≡ Some o → create a name given ≡ create_on a o None given
create_named a name o given there = rw there refl

pub create_unnamed : (org : ℕ) (q : OrgPlan) (a : Asked) (name : List ℕ) (given : List Assignment) (r : Result Layout EditFail) (e : EditFail) → NamesLayout org q a.tenant name r → r ≡ Err e → FailsBy (create a name given) e
create_unnamed org q a name given r e h was = by e (subst (NamesLayout org q a.tenant name) was h)
  where
    by : (e : EditFail) → NamesLayout org q a.tenant name (Err e) → FailsBy (create a name given) e
    by (Refused r) h = let none = h.0 in rw (none, h.1) refl
    by (Store f) h = h
