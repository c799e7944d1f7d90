use Rattle.record_save.proofs.Sharing.{counted}
use Rattle.record_save.proofs.Taking.{update_takes}
use Rattle.record_save.proofs.laws.update_laws.Goals as goal

pub returns : goal.returns
returns c = record {
  counted = λ org q t old new keys. counted c.principal_laws.ensures.same org q t old new keys;
  takes = λ org q a o key given old good fits sound free shares keys.
      let laws = c.touched_laws.ensures in
      update_takes (record { are = laws.are; rest = laws.rest; created = laws.created; changed = laws.changed; kept = laws.kept; single = laws.single; fresh = laws.fresh; same = laws.same })
      c.principal_laws.ensures.same org q a o key given old good fits sound free shares keys;
}
