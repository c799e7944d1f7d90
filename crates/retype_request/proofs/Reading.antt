-- Reads that fail, and what they tell where they don't.
use Rattle.std.proofs.Common.{◌≡◌, ◌∙◌, ℕ, Bool, List, Option, None, Some, sym, ap, subst}
use Rattle.std.specs.Prelude.{Err, Ok, Result, Vec}
use Rattle.store_kv.specs.Tables.{Tables}
use Rattle.store_rows.specs.declared.fail.StoreFail.{StoreFail}
use Rattle.store_rows.specs.declared.fail.StoreFail.TheVariants.{Damaged, Keeper, Memory}
use Rattle.store_rows.specs.declared.job.JobRow.{JobRow}
use Rattle.model.specs.declared.refusal.Refusal.TheVariants.{InvalidField, JobBusy}
use Rattle.model.specs.Cases.{in_case}
use Rattle.model.specs.Retyping.{under_way}
use Rattle.model.specs.Rules.{Rule, first_of, refuse_if}
use Rattle.model.specs.Tenant.{Tenant}
use Rattle.retype_request.specs.declared.columns.NamedField.{NamedField}
use Rattle.retype_request.specs.inner.Beginning.{IsPlace, column_rule, field_rule, named_in, place_in}
use Rattle.store_edit.specs.Judging.{FailsRule, Passes}
use Rattle.retype_request.specs.inner.States.{busy_by}
use Rattle.retype_request.proofs.Busy.{busy_is}
use Rattle.people_rows.specs.Roster.{ListsIn}
use Rattle.store_abstraction.specs.declared.fail.EditFail.{EditFail}
use Rattle.store_abstraction.specs.declared.layout.Layout.{Layout}
use Rattle.store_abstraction.specs.Fails.{of_store}
use Rattle.store_abstraction.specs.Layouts.{FindsOf, IsLayout, own_change_row}
use Rattle.store_abstraction.specs.Local.{FindsIn, StandsIn}
use Rattle.store_abstraction.specs.Plan.{OrgPlan}
use Rattle.base_value.specs.declared.value.FieldType.{FieldType}

-- ---- reads that fail

module _ (rule : Rule) (m : Tables) (q : OrgPlan) (t : Tenant) where
  pub unread_in : {X : Type 0} (org : ℕ) (value : OrgPlan → Option Tenant → X) (r : Result X StoreFail) (e : StoreFail) → FindsIn org value m r → r ≡ Err e → StandsIn org q m (Some t) → FailsRule rule (of_store e)
  unread_in org value r e h was s = by e (subst (FindsIn org value m) was h)
    where
      by : (e : StoreFail) → FindsIn org value m (Err e) → e ≡ Damaged → ⊥
      by Damaged h d = h q (Some t) s
      by Keeper h d = absurd cc
      by Memory h d = absurd cc

  pub unread_of : {X : Type 0} (l : Layout) (value : Tenant → X) (r : Result X StoreFail) (e : StoreFail) → FindsOf l value m r → r ≡ Err e → StandsIn l.org q m (Some t) → IsLayout q t l → FailsRule rule (of_store e)
  unread_of l value r e h was s is = by e (subst (FindsOf l value m) was h)
    where
      by : (e : StoreFail) → FindsOf l value m (Err e) → e ≡ Damaged → ⊥
      by Damaged h d = h q t s is
      by Keeper h d = absurd cc
      by Memory h d = absurd cc

  pub unlisted : {U A : Type 0} (org : ℕ) (value : OrgPlan → Option Tenant → List U) (r : Result (Vec U A) StoreFail) (e : StoreFail) → ListsIn org value m r → r ≡ Err e → StandsIn org q m (Some t) → FailsRule rule (of_store e)
  unlisted {U} {A} org value r e h was s = by e (subst (ListsIn org value m) was h)
    where
      by : (e : StoreFail) → ListsIn {A = A} org value m (Err e) → e ≡ Damaged → ⊥
      by Damaged h d = h q (Some t) s
      by Keeper h d = absurd cc
      by Memory h d = absurd cc

-- ---- reads that don't

pub busy_read : (org : ℕ) (q : OrgPlan) (m : Tables) (t : Tenant) (r : Result (Option JobRow) StoreFail) (found : Option JobRow) (b : Bool) → FindsIn org (own_change_row org) m r → r ≡ Ok found → StandsIn org q m (Some t) → b ≡ busy_by found
    → under_way t ≡ refuse_if b JobBusy
busy_read org q m t r found b h was s is =
    busy_is org q t ∙ ap (λ (b : Bool). refuse_if b JobBusy) (ap busy_by (sym (subst (FindsIn org (own_change_row org) m) was h q (Some t) s)) ∙ sym is)

-- ---- the field with a name

module _ (l : Layout) (t : Tenant) (to : FieldType) (name : List ℕ) where
  abbrev by_field : Option NamedField → Rule
  by_field f = in_case f (Some (InvalidField name)) (column_rule l t to)

  pub no_field : named_in l name ≡ None → field_rule l t to name ≡ Some (InvalidField name)
  no_field e = ap by_field e

  pub its_field : (f : NamedField) (r : Result ℕ EditFail) → named_in l name ≡ Some f → Passes (column_rule l t to f) (λ place. place_in l.fields to f.custom ≡ Some place) r → Passes (field_rule l t to name) (IsPlace l to name) r
  its_field f (Ok place) e h = (ap by_field e ∙ h.0, (f, e, h.1))
  its_field f (Err x) e h = subst (λ (rule : Rule). FailsRule rule x) (sym (ap by_field e)) h

-- ---- the first rule that names a field

module _ {U : Type 0} (m : Tables) (q : OrgPlan) (t : Tenant) (rule : U → Rule) (refusal : Rule) where
  pub first_of_rows : (l : Layout) (value : Tenant → List U) (r : Result (List U) StoreFail) (rows given : List U) → FindsOf l value m r → r ≡ Ok rows → StandsIn l.org q m (Some t) → IsLayout q t l → given ≡ rows → refusal ≡ first_of rule given
      → first_of rule (value t) ≡ refusal
  first_of_rows l value r rows given h was s is same e = sym (e ∙ ap (first_of rule) (same ∙ subst (FindsOf l value m) was h q t s is))

  pub first_of_list : {A : Type 0} (org : ℕ) (value : OrgPlan → Option Tenant → List U) (r : Result (Vec U A) StoreFail) (rows : Vec U A) (given : List U) → ListsIn org value m r → r ≡ Ok rows → StandsIn org q m (Some t) → given ≡ rows.items → refusal ≡ first_of rule given
      → first_of rule (value q (Some t)) ≡ refusal
  first_of_list org value r rows given h was s same e = sym (e ∙ ap (first_of rule) (same ∙ subst (ListsIn org value m) was h q (Some t) s))
