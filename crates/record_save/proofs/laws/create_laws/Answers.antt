use Rattle.record_save.proofs.Counting.{counted}
use Rattle.record_save.proofs.Taking.{create_takes}
use Rattle.record_save.proofs.laws.create_laws.Goals as goal

pub returns : goal.returns
returns c = record {
  counted = λ org q t o r lo s there of. counted org q t o r of lo s there;
  takes = λ org q a o key given lo good fits sound there of free keys.
      let laws = c.touched_laws.ensures in
      create_takes (record { are = laws.are; rest = laws.rest; created = laws.created; changed = laws.changed; kept = laws.kept; single = laws.single; fresh = laws.fresh; same = laws.same })
      org q a o key given lo good fits sound there of free keys;
}
