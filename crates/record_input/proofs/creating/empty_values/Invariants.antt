use Rattle.std.proofs.Common.{◌≡◌, ◌∷◌, ◌++◌, length, map}
use Rattle.base_value.specs.Reading.{empty_value}
use Rattle.base_value.specs.declared.value.Value.TheVariants.{Null}
use Rattle.schema_rules.specs.Objects.{field_of_place}
use Rattle.record_input.proofs.creating.empty_values.Given as goal

abbrev pub invariant-fields : goal.invariant-fields
invariant-fields l =
    l.values.items ++ map (λ f. empty_value f.kind) (map field_of_place l.rest) ≡ Null ∷ map (λ f. empty_value f.kind) (map field_of_place l.fields)

abbrev pub decreases-fields : goal.decreases-fields
decreases-fields l = length l.rest
