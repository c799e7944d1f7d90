-- What an upsert is given, and how the rows are kept after it.
use Rattle.std.specs.Prelude.{◌≡◌, ◌⊎◌, ℕ, List, None, Option, Some}
use Rattle.record_input.specs.Given.{Finds}
use Rattle.record_input.specs.declared.found.Found.{Found}
use Rattle.model.specs.declared.record_bodies.Assignment.{Assignment}
use Rattle.model.specs.Objects.{Numbered, object_named}
use Rattle.model.specs.Paths.{Asked}
use Rattle.model.specs.Tenant.{Object, Tenant}
use Rattle.record_save.specs.Creating.{PlansNew}
use Rattle.record_save.specs.Updating.{PlansSame}
use Rattle.model_invariant.specs.Fit.{ReadsWellByKey}
use Rattle.store_abstraction.specs.Plan.{OrgPlan}

-- what is given reads well in an object, also with the key, and if it is the one with this name, what finds a record finds one that
-- is told
pub record ReadsFoundByKey (name key : List ℕ) (text : Option (List ℕ)) (found : List Found) (given : List Assignment) (a : Asked)
    (o : Object) : Type 0 where
  pub reads : ReadsWellByKey a key text o given
  pub finds : (x : Numbered) → object_named a.tenant name ≡ Some x → x.object ≡ o → Finds a.tenant o None found given

-- as before; or, where a record was made, with nothing left of the new id
abbrev pub PlansEither : OrgPlan → Tenant → OrgPlan → Type 0
PlansEither q t next = PlansNew q t next ⊎ PlansSame q t next
