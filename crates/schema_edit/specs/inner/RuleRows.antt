-- When a new validation rule is busy, and the rows that it changes: that of its object, and its own. No public contract reaches
-- these words.
-- Source: C. D. Weissman and S. Bobrowski, "The Design of the Force.com Multitenant Internet Application Development
-- Platform" (SIGMOD 2009): rules are rows of tables too.
use Rattle.std.specs.Prelude.{◌&&◌, ℕ, ◌+◌, suc, List, [], ◌∷◌, Option, None, Result}
use Rattle.store_edit.specs.Rows.{change_to}
use Rattle.formula.specs.declared.formula.Formula.{Formula}
use Rattle.store_rows.specs.declared.object.ObjectRow.{ObjectRow}
use Rattle.store_rows.specs.Forms.{FitsForm}
use Rattle.store_rows.specs.Rows.{object_form, validation_form}
use Rattle.model.specs.declared.refusal.Refusal.TheVariants.{JobBusy}
use Rattle.model.specs.Cases.{in_case}
use Rattle.model.specs.RuleFormulas.{is_copy, names_field}
use Rattle.model.specs.Rules.{Rule, refuse_if}
use Rattle.model.specs.declared.metadata_bodies.NewValidationRule.{NewValidationRule}
use Rattle.model.specs.ValidationRules as model
use Rattle.store_codec.specs.Plain.{FitsText}
use Rattle.store_abstraction.specs.Changes.{Change}
use Rattle.store_abstraction.specs.declared.layout.JobPlace.{JobPlace}
use Rattle.store_abstraction.specs.Metadata.{validation_of}
use Rattle.schema_edit.specs.declared.edits.validation.NewRuleRows.{NewRuleRows}

-- ---- judging

-- JOB_BUSY: a formula names the field of a change of its object that copies
abbrev pub busy_by : Option JobPlace → Result Formula ℕ → Rule
busy_by job formula = in_case job None (λ j. refuse_if (is_copy j.phase && names_field (suc j.field) formula) JobBusy)

-- ---- the rows

-- by the row of the object: with one rule more, and that of the rule
abbrev pub rows_by : ObjectRow → NewValidationRule → NewRuleRows
rows_by object b =
    record {
      object = record object { validation_rules = object.validation_rules + 1 };
      rule = validation_of object.org object.object (model.validation_of b);
    }

-- a row can have the texts of the rule
pub record IsSpelledRule (b : NewValidationRule) : Type 0 where
  pub name : FitsText b.name
  pub formula : FitsText b.formula
  pub message : FitsText b.message

-- they have spellings
pub record FitRuleRows (r : NewRuleRows) : Type 0 where
  pub object : FitsForm object_form r.object
  pub rule : FitsForm validation_form r.rule

abbrev pub changes_of : NewRuleRows → List Change
changes_of r = change_to object_form r.object ∷ change_to validation_form r.rule ∷ []
