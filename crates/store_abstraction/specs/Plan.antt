-- What a world leaves open of its tables: where the values of fields are kept, and what a change of a field's type has left.
-- Source: C. D. Weissman and S. Bobrowski, "The Design of the Force.com Multitenant Internet Application Development Platform"
-- (SIGMOD 2009): the values of all fields are in the flex columns of one table, here called slots; metadata say which is whose.
use Rattle.std.specs.Prelude.{◌≡◌, ℕ, ◌<◌, Bool, true, false, not, ◌&&◌, ◌||◌, ◌==◌, if◌then◌else◌, List, Option, Some, None, is_some, slice_get, IsTrue}
use Rattle.std.specs.Option.{option_and_then}
use Rattle.base_value.specs.Conversion.{convertible}
use Rattle.base_value.specs.Types.{is_reference, is_type, suits_indexed}
use Rattle.base_value.specs.Values.{valid}
use Rattle.base_value.specs.declared.job.Outcome.{Outcome}
use Rattle.base_value.specs.declared.job.Outcome.TheVariants as outcome
use Rattle.base_value.specs.declared.job.Phase.{Phase}
use Rattle.base_value.specs.declared.job.Phase.TheVariants as phase
use Rattle.base_value.specs.declared.value.FieldType.{FieldType}
use Rattle.base_value.specs.declared.value.FieldType.TheVariants as type
use Rattle.base_value.specs.declared.value.Value.{Value}
pub use Rattle.store_codec.specs.Composed.{slot_count}
use Rattle.model.specs.Objects.{object_numbered}
use Rattle.model.specs.Retyping.{job_is_done}
use Rattle.model.specs.SoundJob.{is_switched, job_field}
use Rattle.model.specs.Tenant.{Field, Job, Tenant}

-- what is left open in one organisation
pub record OrgPlan : Type 0 where
  -- the slot of a field, by the number of its object and its own
  pub slot : (object field : ℕ) → ℕ
  -- the slot of the change of a type: the one that is filled, and once nothing more is copied the one that is left
  pub other : ℕ
  -- the type that a field had before it was switched
  pub was : FieldType
  -- what a record has in the slot that is left, if anything, by its id
  pub left : List ℕ → Option Value

-- without fields and changes nothing is kept anywhere
abbrev pub no_slots : OrgPlan
no_slots = record { slot = λ object field. 0; other = 0; was = type.Checkbox; left = λ id. None }

pub record Plan : Type 0 where
  -- the version's row is there, which it needn't be where no organisation is
  pub opened : Bool
  -- by the organisation's number
  pub org : ℕ → OrgPlan

-- the plan with the version's row, and with another plan of the organisation with this number
abbrev pub opened : Plan → Plan
opened p = record p { opened = true }

abbrev pub with_plan : ℕ → OrgPlan → Plan → Plan
with_plan n q p = record p { org = λ k. if k == n then q else p.org k }

-- ---- a plan that fits

-- the object with this number has a field with this one
abbrev pub has_field : Tenant → (object field : ℕ) → Bool
has_field t n f = is_some (option_and_then (λ o. slice_get o.fields f) (object_numbered t n))

-- the type of what is in the slot of a change: once it is switched, the values of the old type are left
abbrev pub slot_type : OrgPlan → Job → Phase → Outcome → FieldType
slot_type p j phase.Clear outcome.Switched = p.was
slot_type p j _ _ = j.to

abbrev pub type_there : OrgPlan → Job → FieldType
type_there p j = slot_type p j j.phase j.outcome

-- values are being cleared
abbrev pub is_clearing : Phase → Bool
is_clearing phase.Clear = true
is_clearing _ = false

-- each field of an object has a slot of its own, and so has a change that isn't done; what is left is of its type
pub record FitsPlan (p : OrgPlan) (t : Tenant) : Type 0 where
  pub below : (n f : ℕ) → IsTrue (has_field t n f) → p.slot n f < slot_count
  pub differ : (n f g : ℕ) → IsTrue (has_field t n f) → IsTrue (has_field t n g) → p.slot n f ≡ p.slot n g → f ≡ g
  pub other : p.other < slot_count
  pub apart : (j : Job) → t.job ≡ Some j → job_is_done j.phase ≡ false
      → (f : ℕ) → IsTrue (has_field t j.object f) → p.slot j.object f ≡ p.other → ⊥
  pub was : IsTrue (is_type p.was && not (is_reference p.was))
  -- the type before a switch suited the field, and converts to the new one
  pub switched : (j : Job) (f : Field) → t.job ≡ Some j → is_clearing j.phase ≡ true → is_switched j.outcome ≡ true → job_field t.objects j ≡ Some f
      → IsTrue ((not f.indexed || suits_indexed p.was) && convertible p.was j.to)
  pub left : (j : Job) (i : List ℕ) (v : Value) → t.job ≡ Some j → is_clearing j.phase ≡ true → p.left i ≡ Some v → IsTrue (valid (type_there p j) v)
