use Rattle.std.proofs.Common.{◌≡◌, ◌++◌, drop, map}
use Rattle.api_read.specs.inner.DescribedLayouts.{field_by}
use Rattle.api_read.proofs.describe.fields.custom_fields.Given as goal

abbrev pub invariant-loop-field : goal.invariant-loop-field
invariant-loop-field l = l.all ++ map (field_by l.layouts) (drop l.field-index l.fields) ≡ map (field_by l.layouts) l.fields
