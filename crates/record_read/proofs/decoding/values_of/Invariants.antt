use Rattle.std.proofs.Common.{◌≡◌, IsTrue, drop, take}
use Rattle.record_read.specs.Decoding.{all_from, each_from, kinds_in, value_from}
use Rattle.record_read.proofs.Loops.{onto}
use Rattle.model.specs.SoundRecords.{all_valid}
use Rattle.record_read.proofs.decoding.values_of.Given as goal

abbrev pub invariant-loop-field : goal.invariant-loop-field
invariant-loop-field l = record {
  gives : onto l.values.items (each_from (value_from l.row.slots) (drop l.field-index l.fields)) ≡ all_from l.row l.fields;
  valid : IsTrue (all_valid (kinds_in (take l.field-index l.fields)) l.values.items);
}
