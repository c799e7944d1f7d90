use Rattle.std.proofs.Common.{◌≡◌, map, take}
use Rattle.schema_rules.specs.Objects.{field_of_place}
use Rattle.model.specs.FormulaTexts.{formula_fields}
use Rattle.schema_rules.proofs.formulas.formula_fields.Given as goal

abbrev pub invariant-loop-field : goal.invariant-loop-field
invariant-loop-field l = l.items ≡ formula_fields (map field_of_place (take l.field-index l.fields))
