-- What is in the slots of records once a change of a field's type has come further: in all slots but its own the same, and in its own too
-- for records that it hasn't reached or had passed.
use Rattle.std.proofs.Common.{◌≡◌, ℕ, suc, Bool, true, false, ◌&&◌, cond, eqb, List, Option, Some, None, refl, sym, ap, ap₂, ◌∙◌}
use Rattle.std.specs.Prelude.{slice_get}
use Rattle.std.specs.Option.{option_and_then, option_map}
use Rattle.std.proofs.lemmas.Bool.{eq-eqb}
use Rattle.formula.specs.Meaning.{value_at}
use Rattle.model.specs.declared.record.Record.{Record}
use Rattle.model.specs.Cases.{in_case}
use Rattle.model.specs.Jobs.{is_past}
use Rattle.model.specs.Tenant.{Field, Job, Object}
use Rattle.store_abstraction.specs.Entries.{Entry, field_entry, job_entry, job_value, other_entry, slot_entry, slot_field}
use Rattle.store_abstraction.specs.Plan.{OrgPlan, slot_type}
use Rattle.base_value.specs.Conversion.{convert}
use Rattle.base_value.specs.declared.job.Outcome.{Outcome}
use Rattle.base_value.specs.declared.job.Outcome.TheVariants as outcome
use Rattle.base_value.specs.declared.job.Phase.{Phase}
use Rattle.base_value.specs.declared.job.Phase.TheVariants as phase

module _ (q : OrgPlan) (j : Job) (c : Option (List ℕ)) where
  abbrev after : Job
  after = record j { cursor = c }

  pub type_same : (ph : Phase) (out : Outcome) → slot_type q after ph out ≡ slot_type q j ph out
  type_same phase.Copy out = refl
  type_same phase.Done out = refl
  type_same phase.Clear outcome.Open = refl
  type_same phase.Clear outcome.Switched = refl
  type_same phase.Clear outcome.Failed = refl
  type_same phase.Clear outcome.Cancelled = refl

  value_same : (ph : Phase) (r : Record) → is_past c r.id ≡ is_past j.cursor r.id → job_value q after ph r ≡ job_value q j ph r
  value_same phase.Copy r e = ap (λ b. cond b None (convert j.to (value_at r.values (suc j.field)))) e
  value_same phase.Clear r e = ap (λ b. cond b (q.left r.id) None) e
  value_same phase.Done r e = refl

  there_same : (r : Record) (f : Option Field) → is_past c r.id ≡ is_past j.cursor r.id → option_and_then (job_entry q after r) f ≡ option_and_then (job_entry q j r) f
  there_same r None e = refl
  there_same r (Some f) e =
      ap₂ (λ k v. option_map {U = Entry} (λ x. record { kind = k; value = x; indexed = f.indexed; unique = f.unique }) v) (type_same j.phase j.outcome) (value_same j.phase r e)

  module _ (m : ℕ) (o : Object) (r : Record) (s : ℕ) where
    abbrev other_in : Bool → Job → Option Entry
    other_in b k = cond b (option_and_then (job_entry q k r) (slice_get o.fields k.field)) None

    abbrev with_other : Option Entry → Option Entry
    with_other x = in_case (slot_field q m o.fields s) x (λ f. Some (field_entry r f))

    -- a record that the step doesn't come to
    pub entry_stays : is_past c r.id ≡ is_past j.cursor r.id → slot_entry q (Some after) m o r s ≡ slot_entry q (Some j) m o r s
    unfolding slot_entry
    entry_stays e = ap (λ x. with_other (cond (eqb j.object m && eqb q.other s) x None)) (there_same r (slice_get o.fields j.field) e)

    nowhere : (eqb j.object m && eqb q.other s) ≡ false → slot_entry q (Some after) m o r s ≡ slot_entry q (Some j) m o r s
    unfolding slot_entry
    nowhere e = ap (λ b. with_other (other_in b after)) e ∙ sym (ap (λ b. with_other (other_in b j)) e)

    -- another slot, and another object
    pub slot_apart : eqb q.other s ≡ false → slot_entry q (Some after) m o r s ≡ slot_entry q (Some j) m o r s
    slot_apart e = nowhere (ap (λ b. eqb j.object m && b) e ∙ no_and (eqb j.object m))
      where
        no_and : (b : Bool) → (b && false) ≡ false
        no_and true = refl
        no_and false = refl

    pub object_apart : eqb j.object m ≡ false → slot_entry q (Some after) m o r s ≡ slot_entry q (Some j) m o r s
    object_apart e = nowhere (ap (λ b. b && eqb q.other s) e)

-- in the slot of a change
pub in_other : (q : OrgPlan) (k : Job) (o : Object) (r : Record) → slot_field q k.object o.fields q.other ≡ None → slot_entry q (Some k) k.object o r q.other ≡ option_and_then (job_entry q k r) (slice_get o.fields k.field)
unfolding slot_entry
in_other q k o r vacant =
    ap (λ (x : Option (ℕ × Field)). in_case x (other_entry q (Some k) k.object o r q.other) (λ f. Some (field_entry r f))) vacant
    ∙ ap (λ b. cond (b && eqb q.other q.other) (option_and_then (job_entry q k r) (slice_get o.fields k.field)) None) (eq-eqb k.object k.object refl)
    ∙ ap (λ b. cond b (option_and_then (job_entry q k r) (slice_get o.fields k.field)) None) (eq-eqb q.other q.other refl)
