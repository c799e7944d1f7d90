-- Validation rules: new ones, and their end.
-- Source: Salesforce, "Validation Rules". The order in which one is judged is this product's own.
use Rattle.std.specs.Prelude.{ℕ, ◌+◌, false, not, List, [], ◌∷◌, map, filter, length}
use Rattle.std.specs.List.{list_any}
use Rattle.model.specs.declared.limit.Limit.TheVariants as limit
use Rattle.model.specs.declared.refusal.Refusal.TheVariants.{NotFound}
pub use Rattle.model.specs.declared.metadata_bodies.NewValidationRule.{NewValidationRule}
use Rattle.model.specs.Fields.{same_name}
use Rattle.model.specs.Names.{bad_name, is_stem, taken}
use Rattle.model.specs.Objects.{Numbered, with_object_changed}
use Rattle.model.specs.Ordered.{put_in}
use Rattle.model.specs.RuleFormulas.{busy, formula_of, malformed, name_cmp}
use Rattle.model.specs.Rules.{Rule, over_limit, refuse_if}
use Rattle.model.specs.Tenant.{Object, Tenant, ValidationRule}
use Rattle.model.specs.Verdict.{Verdict, accept, done, judged, on_object}

-- the rule that a body says
abbrev pub validation_of : NewValidationRule → ValidationRule
validation_of b = record { name = b.name; formula = b.formula; message = b.message }

abbrev pub new_validation_rule_rules : Tenant → Numbered → NewValidationRule → List Rule
new_validation_rule_rules t o b =
    let formula = formula_of o.object false b.formula in
    bad_name is_stem b.name
    ∷ taken (map (λ r. r.name) o.object.validation_rules) b.name
    ∷ malformed formula
    ∷ busy t o.number formula
    ∷ over_limit ((limit.ValidationRulesPerObject, length o.object.validation_rules + 1) ∷ [])
    ∷ []

-- the object with one rule more
abbrev pub with_validation_rule : ValidationRule → Object → Object
with_validation_rule r o = record o { validation_rules = put_in (λ a b. name_cmp a.name b.name) r o.validation_rules }

-- a new validation rule
abbrev pub add_validation_rule : Tenant → NewValidationRule → Verdict
add_validation_rule t b =
    on_object t b.object (λ o.
    judged t (new_validation_rule_rules t o b) (accept done (with_object_changed o.number (with_validation_rule (validation_of b)) t)))

-- the object without the rule that has this name
abbrev pub without_validation_rule : (name : List ℕ) → Object → Object
without_validation_rule name o = record o { validation_rules = filter (λ r. not (same_name r.name name)) o.validation_rules }

-- a validation rule that is removed is gone; NOT_FOUND where its object has none with this name
abbrev pub remove_validation_rule : Tenant → (object name : List ℕ) → Verdict
remove_validation_rule t object name =
    on_object t object (λ o.
    judged t (refuse_if (not (list_any (λ r. same_name r.name name) o.object.validation_rules)) NotFound ∷ [])
    (accept done (with_object_changed o.number (without_validation_rule name) t)))
