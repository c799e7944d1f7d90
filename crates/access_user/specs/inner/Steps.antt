-- The steps from an object's records to their masters. No public contract reaches these words.
use Rattle.std.specs.Prelude.{◌≡◌, ℕ, ◌+◌, List, [], ◌∷◌, Option, Some, None, Result, Ok, Err}
use Rattle.store_kv.specs.Tables.{Tables}
use Rattle.store_rows.specs.declared.fail.StoreFail.{StoreFail}
use Rattle.store_rows.specs.declared.fail.StoreFail.TheVariants.{Damaged, Keeper, Memory}
use Rattle.model.specs.Cases.{in_case}
use Rattle.model.specs.Relationships.{Reference, master_of_object}
use Rattle.model.specs.Tenant.{Tenant, User}
use Rattle.store_abstraction.specs.declared.layout.FieldPlace.{FieldPlace}
use Rattle.store_abstraction.specs.declared.layout.Layout.{Layout}
use Rattle.store_abstraction.specs.Layouts.{IsLayout}
use Rattle.store_abstraction.specs.Local.{StandsIn}
use Rattle.store_abstraction.specs.Plan.{OrgPlan}
use Rattle.base_value.specs.declared.value.FieldType.{FieldType}
use Rattle.base_value.specs.declared.value.FieldType.TheVariants as type
use Rattle.access_user.specs.declared.steps.MasterField.{MasterField}
use Rattle.access_user.specs.declared.steps.Step.{Step}

-- ---- the first Master field

-- the object of the masters to which a type refers
abbrev pub master_target : FieldType → Option ℕ
master_target (type.Master object) = Some object
master_target _ = None

-- the first of these fields that is a Master, where the first of all is at this position
abbrev pub master_from : ℕ → List FieldPlace → Option MasterField
master_from k [] = None
master_from k (f ∷ fields) =
    in_case (master_target f.kind) (master_from (k + 1) fields) (λ target. Some (record { position = k; target = target }))

-- the most masters above a record of this object, one above another, where there may be so many: none where no field is a Master
abbrev pub most_above : ℕ → Layout → ℕ
most_above most l = in_case (master_from 1 l.fields) 0 (λ f. most)

-- ---- what is read of one organisation

-- what is so of a tenant by a plan, and of one of its users
abbrev pub Fact : Type 1
Fact = OrgPlan → Tenant → User → Type 0

-- what is read is so of each user of each tenant for which the organisation's rows stand and of which something else is so, and such
-- rows are never damaged
abbrev pub TellsWhere : {X : Type 0} → (org : ℕ) → Fact → (X → Fact) → Tables → Result X StoreFail → Type 0
TellsWhere org Given Is m (Ok x) = (q : OrgPlan) (t : Tenant) (u : User) → StandsIn org q m (Some t) → Given q t u → Is x q t u
TellsWhere org Given Is m (Err Damaged) = (q : OrgPlan) (t : Tenant) (u : User) → StandsIn org q m (Some t) → Given q t u → ⊥
TellsWhere org Given Is m (Err Keeper) = Unit {0}
TellsWhere org Given Is m (Err Memory) = Unit {0}

-- ---- steps

-- the step that a layout was read for, which has to be there
abbrev pub step_to : (position : ℕ) → Result (Option Layout) StoreFail → Result (Option Step) StoreFail
step_to p (Ok (Some l)) = Ok (Some (record { position = p; layout = l }))
step_to p (Ok None) = Err Damaged
step_to p (Err e) = Err e

-- the step leads from the records of the object with this number to their masters
pub record LeadsTo (q : OrgPlan) (t : Tenant) (org n : ℕ) (s : Step) : Type 0 where
  pub reference : Reference
  pub first : master_of_object t.objects n ≡ Some reference
  pub position : s.position ≡ reference.position
  pub target : s.layout.object ≡ reference.target
  pub own : s.layout.org ≡ org
  pub layout : IsLayout q t s.layout

-- the same, or that the records have no masters
abbrev pub LeadsIfAny : OrgPlan → Tenant → (org n : ℕ) → Option Step → Type 0
LeadsIfAny q t org n None = master_of_object t.objects n ≡ None
LeadsIfAny q t org n (Some s) = LeadsTo q t org n s

-- one after another, the steps lead to records that have no masters
abbrev pub Leads : OrgPlan → Tenant → (org n : ℕ) → List Step → Type 0
Leads q t org n [] = master_of_object t.objects n ≡ None
Leads q t org n (s ∷ steps) = LeadsTo q t org n s × Leads q t org s.layout.object steps

-- the object to which they lead
abbrev pub end_of : (object : ℕ) → List Step → ℕ
end_of n [] = n
end_of n (s ∷ steps) = end_of s.layout.object steps
