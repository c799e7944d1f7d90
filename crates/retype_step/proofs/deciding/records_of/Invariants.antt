use Rattle.std.proofs.Common.{◌≡◌, IsTrue, drop}
use Rattle.std.specs.List.{list_all}
use Rattle.record_read.specs.Decoding.{each_from, kinds_in, record_from}
use Rattle.record_read.proofs.Loops.{onto}
use Rattle.model.specs.SoundRecords.{all_valid}
use Rattle.retype_step.proofs.deciding.records_of.Given as goal

abbrev pub invariant-loop-row : goal.invariant-loop-row
invariant-loop-row l = record {
  gives : onto l.records.items (each_from (record_from l.layout) (drop l.row-index l.rows)) ≡ each_from (record_from l.layout) l.rows;
  valid : IsTrue (list_all (λ r. all_valid (kinds_in l.layout.fields) r.values) l.records.items);
}
