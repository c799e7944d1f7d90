-- FIELD_IN_USE, by the rows of rules and the layout of their object. No public contract reaches these words.
-- It is this product's own.
use Rattle.std.specs.Prelude.{ℕ, Bool, true, false, ◌&&◌, ◌==◌, List, [], ◌∷◌, Some}
use Rattle.people_rows.specs.sharing.SharingRules.{sharing_rows}
use Rattle.store_rows.specs.declared.sharing.SharingRow.{SharingRow}
use Rattle.store_rows.specs.declared.validation.ValidationRow.{ValidationRow}
use Rattle.model.specs.declared.refusal.Refusal.TheVariants.{FieldInUse}
use Rattle.model.specs.Retyping.{uses}
use Rattle.model.specs.Rules.{Rule, first_of, first_refusal, refuse_if}
use Rattle.model.specs.Tenant.{Object, Tenant}
use Rattle.schema_rules.specs.Objects.{object_of_layout}
use Rattle.schema_rules.specs.Rows.{rule_rows}
use Rattle.store_abstraction.specs.declared.layout.Layout.{Layout}
use Rattle.base_value.specs.declared.sharing.RuleSource.{RuleSource}
use Rattle.base_value.specs.declared.sharing.RuleSource.TheVariants.{Owner, Criteria}

-- a validation rule with this row names the field
abbrev pub row_use : Object → (place : ℕ) → (field : List ℕ) → ValidationRow → Rule
row_use o place field row = refuse_if (uses o false place row.formula) (FieldInUse field row.name)

-- a criteria rule with this source names it
abbrev pub part_uses : Object → (place : ℕ) → RuleSource → Bool
part_uses o place (Owner p) = false
part_uses o place (Criteria text) = uses o true place text

-- a sharing rule with this row is on the object, and names it
abbrev pub sharing_use : Layout → (place : ℕ) → (field : List ℕ) → SharingRow → Rule
sharing_use l place field row =
    refuse_if ((row.object == l.object) && part_uses (object_of_layout l) place row.source) (FieldInUse field row.name)

-- the first validation rule that names it, and else the first sharing rule
abbrev pub use_rule : Layout → Tenant → (place : ℕ) → (field : List ℕ) → Rule
use_rule l t place field =
    first_refusal
    (first_of (row_use (object_of_layout l) place field) (rule_rows l.org l.object t)
    ∷ first_of (sharing_use l place field) (sharing_rows l.org (Some t))
    ∷ [])
