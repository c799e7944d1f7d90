use Rattle.std.proofs.Common.{◌≡◌, ◌++◌, drop, map}
use Rattle.model_reads.specs.DescribeJson.{picklist_json}
use Rattle.api_read.proofs.describe.fields.picklist_values.Given as goal

abbrev pub invariant-loop-value : goal.invariant-loop-value
invariant-loop-value l = l.all ++ map picklist_json (drop l.value-index l.values) ≡ map picklist_json l.values
