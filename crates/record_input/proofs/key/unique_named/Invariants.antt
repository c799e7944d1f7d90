use Rattle.std.proofs.Common.{◌≡◌, ◌+◌, length, drop}
use Rattle.std.specs.Str.{chars}
use Rattle.schema_rules.specs.Objects.{object_of_layout}
use Rattle.model.specs.Upserts.{unique_named}
use Rattle.record_input.proofs.Uniques.{unique_from}
use Rattle.record_input.proofs.key.unique_named.Given as goal

abbrev pub invariant-fields : goal.invariant-fields
invariant-fields l = record {
  count : l.number + length l.rest ≡ length l.layout.fields;
  rest : l.rest ≡ drop l.number l.layout.fields;
  same : unique_named (object_of_layout l.layout) (chars l.fn.name) ≡ unique_from (chars l.fn.name) (1 + l.number) l.rest;
}

abbrev pub decreases-fields : goal.decreases-fields
decreases-fields l = length l.rest
