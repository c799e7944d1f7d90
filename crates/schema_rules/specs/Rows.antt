-- The rows of an object's validation rules.
use Rattle.std.specs.Prelude.{ℕ, List, [], map}
use Rattle.store_rows.specs.declared.validation.ValidationRow.{ValidationRow}
use Rattle.model.specs.Cases.{in_case}
use Rattle.model.specs.Objects.{object_numbered}
use Rattle.model.specs.Tenant.{Tenant}
use Rattle.store_abstraction.specs.Metadata.{validation_of}

-- in the order of their lower-case names, as the object has its rules; none where there is no such object
abbrev pub rule_rows : (org object : ℕ) → Tenant → List ValidationRow
rule_rows org n t = in_case (object_numbered t n) [] (λ o. map (validation_of org n) o.validation_rules)
