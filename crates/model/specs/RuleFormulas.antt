-- The formulas of validation rules and criteria rules, and the order of rules.
-- Source: Salesforce, "Validation Rules", of formulas over a record's fields. The most characters of one, and that rules are in
-- the order of their names, is this product's own.
use Rattle.std.specs.Prelude.{ℕ, suc, Bool, true, false, ◌&&◌, ◌==◌, nat_le, nat_lt, if◌then◌else◌, List, length, None, Some, Result, Ok, Err}
use Rattle.std.specs.List.{list_any}
use Rattle.std.specs.declared.cmp.Ordering.{Ordering}
use Rattle.std.specs.Ordering.{nat_cmp}
use Rattle.std.specs.Cmp.Lexicographic.{slice_cmp}
use Rattle.std.specs.Str.{all_scalars}
use Rattle.base_value.specs.Texts.{lower}
use Rattle.base_value.specs.declared.job.Phase.{Phase}
use Rattle.base_value.specs.declared.job.Phase.TheVariants as phase
use Rattle.formula.specs.Naming.{names}
use Rattle.formula.specs.declared.formula.Formula.{Formula}
use Rattle.model.specs.declared.refusal.Refusal.TheVariants.{MalformedFormula, JobBusy}
use Rattle.model.specs.Cases.{in_case}
use Rattle.model.specs.FormulaTexts.{reads_text}
use Rattle.model.specs.Limits.{formula_limit}
use Rattle.model.specs.Rules.{Rule, refuse_if}
use Rattle.model.specs.Tenant.{Object, Tenant}

-- rules are in the order of their lower-case names
abbrev pub name_cmp : List ℕ → List ℕ → Ordering
name_cmp a b = slice_cmp nat_cmp (lower a) (lower b)

-- the text of a rule is of characters, and not too long
abbrev pub is_rule_text : List ℕ → Bool
is_rule_text text = all_scalars text && nat_le (length text) formula_limit

-- what the text of a rule reads as: one that is too long spells no formula
unfoldable pub formula_of : Object → (criteria : Bool) → List ℕ → Result Formula ℕ
formula_of o criteria text = if nat_lt formula_limit (length text) then Err 0 else reads_text o criteria text

-- MALFORMED_FORMULA, with the place
abbrev pub malformed : Result Formula ℕ → Rule
malformed (Ok formula) = None
malformed (Err place) = Some (MalformedFormula place)

-- a formula names the field at this position of a record's values
abbrev pub names_field : ℕ → Result Formula ℕ → Bool
names_field position (Ok formula) = list_any (λ p. p == position) (names formula)
names_field position (Err place) = false

-- values are being copied
abbrev pub is_copy : Phase → Bool
is_copy phase.Copy = true
is_copy _ = false

-- JOB_BUSY: a formula of the object with this number names the field of a job that copies
abbrev pub busy : Tenant → ℕ → Result Formula ℕ → Rule
busy t n formula =
    in_case t.job None (λ j. refuse_if (is_copy j.phase && ((j.object == n) && names_field (suc j.field) formula)) JobBusy)
