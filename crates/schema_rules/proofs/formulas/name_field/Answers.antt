use Rattle.std.proofs.Common.{ℕ, List, ap}
use Rattle.base_value.specs.declared.value.FieldType.TheVariants as type
use Rattle.schema_rules.proofs.formulas.name_field.Goals as goal

pub returns : goal.returns
unfolding Rattle.std.specs.Str.chars
returns c = ap (λ (name : List ℕ). record { name = name; kind = type.Text 80 }) c.in_ok-from_str.ensures
