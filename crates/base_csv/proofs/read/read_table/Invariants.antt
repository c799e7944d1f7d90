use Rattle.std.proofs.Common.{◌≡◌, ◌-◌, length, map, take}
use Rattle.csv.specs.Records.{fields_of}
use Rattle.base_csv.specs.Table.{table_of}
use Rattle.base_csv.proofs.read.read_table.Given as goal

abbrev pub invariant-loop-record : goal.invariant-loop-record
invariant-loop-record l = record {
  source : l.records.source ≡ l.fn.source;
  kept : map fields_of l.rows.items ≡ take l.most (take l.records.read (table_of l.fn.source));
}

abbrev pub decreases-loop-record : goal.decreases-loop-record
decreases-loop-record l = length (table_of l.fn.source) - l.records.read
