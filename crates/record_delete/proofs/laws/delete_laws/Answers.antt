use Rattle.record_delete.proofs.Counted.{counted}
use Rattle.record_delete.proofs.Taking.{delete_takes}
use Rattle.record_delete.proofs.laws.delete_laws.Goals as goal

pub returns : goal.returns
returns c = record {
  counted = λ org q now t gone lo sound keys. counted c.principal_laws.ensures.same org q now t gone sound lo keys;
  takes = λ org q a name key r lo good fits caller at found free shares keys.
      let laws = c.touched_laws.ensures in
      delete_takes (record { are = laws.are; rest = laws.rest; taken = laws.taken; kept = laws.kept; deleted = laws.deleted; same = laws.same })
      c.deletes_sound.ensures.delete c.principal_laws.ensures.same org q a name key r lo good fits caller at found free shares keys;
}
