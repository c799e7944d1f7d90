-- Sound formulas: what holds at every moment of the texts of validation rules and of criteria rules.
-- Source: Salesforce, "Validation Rules" and "Criteria-Based Sharing Rules". That a field whose type is being changed is named
-- by no rule is this product's own.
use Rattle.std.specs.Prelude.{Bool, true, false, not, ◌&&◌, ◌||◌, ◌==◌, List, Option, is_ok, slice_get, IsTrue, IfSome}
use Rattle.std.specs.List.{list_all}
use Rattle.model.specs.Cases.{in_case}
use Rattle.model.specs.Retyping.{source_uses, uses}
use Rattle.model.specs.RuleFormulas.{formula_of, is_copy}
use Rattle.model.specs.Tenant.{Job, Object, SharingRule, Source, owned, meets, Tenant}

-- ---- every text spells a formula

-- an object's validation rules do
abbrev pub validations_read : Object → Bool
validations_read o = list_all (λ r. is_ok (formula_of o false r.formula)) o.validation_rules

-- the source of a sharing rule on the object does, if it is a text
abbrev pub source_reads : Source → Object → Bool
source_reads (owned p) o = true
source_reads (meets text) o = is_ok (formula_of o true text)

-- that of a sharing rule does
abbrev pub criteria_read : List Object → SharingRule → Bool
criteria_read os r = in_case (slice_get os r.object) false (source_reads r.source)

-- ---- what rules name

-- no validation rule of the object names the job's field, and no sharing rule
abbrev pub is_unnamed : List SharingRule → Job → Object → Bool
is_unnamed rules j o =
    list_all (λ r. not (uses o false j.field r.formula)) o.validation_rules
    && list_all (λ r. not ((r.object == j.object) && source_uses o j.field r.source)) rules

-- all rules of an organisation; the field of a job is named by none while its values are copied
pub record HasSoundFormulas (os : List Object) (rules : List SharingRule) (job : Option Job) : Type 0 where
  pub validations : IsTrue (list_all validations_read os)
  pub criteria : IsTrue (list_all (criteria_read os) rules)
  pub unnamed : IfSome job (λ j. IsTrue (not (is_copy j.phase) || in_case (slice_get os j.object) true (is_unnamed rules j)))

-- those of a tenant
abbrev pub AreFormulasSound : Tenant → Type 0
AreFormulasSound t = HasSoundFormulas t.objects t.sharing_rules t.job
