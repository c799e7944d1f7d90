use Rattle.record_index.proofs.Cleared.{cleared_few}
use Rattle.record_index.proofs.Converting.{converting}
use Rattle.record_index.proofs.CopiedEntries.{stays}
use Rattle.record_index.proofs.Few.{changed_few, changed_gone, made_few, made_gone, removed_few, removed_gone, slot_few, slot_gone}
use Rattle.record_index.proofs.NewRecord.{made_is}
use Rattle.record_index.proofs.RemovedRecord.{removed_is}
use Rattle.record_index.proofs.Stepped.{beside, come_entry, come_row}
use Rattle.record_index.proofs.TurnedRecord.{turned_is}
use Rattle.record_index.proofs.laws.pivot_laws.Goals as goal

pub returns : goal.returns
returns c = record {
  made = made_is c.data_laws.ensures.made;
  turned = turned_is c.data_laws.ensures.rewritten;
  turned_few = changed_few;
  turned_gone = changed_gone;
  cleared_few = cleared_few;
  removed = removed_is c.value_laws.ensures.printed;
  removed_few = removed_few;
  removed_gone = removed_gone;
  converting = converting;
  few = made_few;
  gone = made_gone;
  slot_few = slot_few;
  slot_gone = slot_gone;
  slot_same = stays;
  beside = beside c.value_laws.ensures.printed;
  come_entry = come_entry;
  come_row = come_row c.data_laws.ensures.rewritten;
}
