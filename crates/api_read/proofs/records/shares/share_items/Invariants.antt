use Rattle.std.proofs.Common.{◌≡◌, ◌++◌, drop, map}
use Rattle.api_read.specs.inner.RecordParts.{share_row_json}
use Rattle.api_read.proofs.records.shares.share_items.Given as goal

abbrev pub invariant-loop-row : goal.invariant-loop-row
invariant-loop-row l = l.items ++ map share_row_json (drop l.row-index l.rows) ≡ map share_row_json l.rows
