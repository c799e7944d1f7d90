use Rattle.retype_step.proofs.BackfillFew.{page_gone}
use Rattle.retype_step.proofs.BackfillTakes.{Laws, few, takes}
use Rattle.retype_step.proofs.backfill.laws.progress_laws.Goals as goal
use Rattle.retype_step.specs.backfill.Progress.{come_to}

pub returns : goal.returns
returns c = record {
  moves = λ org q t j o rs lo page after keys. takes (laws) org q t j o rs page after lo keys;
  few = λ org q t j o rs page after. few (laws) org q t j o rs page after c.value_laws.ensures.converted c.value_laws.ensures.plain;
  gone = λ l cursor rows rs. page_gone c.pivot_laws.ensures.slot_gone l (come_to cursor l) rows rs;
}
  where
    laws : Laws
    laws = record {
      printable = c.data_laws.ensures.printable;
      equal = c.table_laws.ensures.equal;
      slot_same = c.pivot_laws.ensures.slot_same;
      beside = c.pivot_laws.ensures.beside;
      come_entry = c.pivot_laws.ensures.come_entry;
      come_row = c.pivot_laws.ensures.come_row;
      are = c.touched_laws.ensures.alike_are;
      rest = c.touched_laws.ensures.alike_rest;
      kept = c.touched_laws.ensures.kept;
      unmoved = c.touched_laws.ensures.unmoved;
    }
