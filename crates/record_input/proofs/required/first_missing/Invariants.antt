use Rattle.std.proofs.Common.{◌≡◌, ◌+◌, length, map}
use Rattle.std.specs.List.{enumerate_from}
use Rattle.model.specs.Rules.{first_of}
use Rattle.schema_rules.specs.Objects.{field_of_place}
use Rattle.record_input.specs.inner.Fields.{missing_at}
use Rattle.record_input.proofs.required.first_missing.Given as goal

abbrev pub invariant-fields : goal.invariant-fields
invariant-fields l =
    (l.position + length l.rest ≡ 1 + length l.fields)
    × (first_of (missing_at l.values) (enumerate_from 1 (map field_of_place l.fields)) ≡ first_of (missing_at l.values) (enumerate_from l.position (map field_of_place l.rest)))

abbrev pub decreases-fields : goal.decreases-fields
decreases-fields l = length l.rest
