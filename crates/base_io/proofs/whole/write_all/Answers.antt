use Rattle.std.proofs.Common.{rules}
use Rattle.std.proofs.lemmas.List.{take_rest}
use Rattle.base_io.proofs.Moved.{Appends-more}
use Rattle.base_io.proofs.whole.write_all.Goals as goal

pub loop-at-preserved : goal.loop-at-preserved
loop-at-preserved g c = record {
  within = search rules;
  wrote = Appends-more _ _ _ c.args.piece.now c.loop-at.at c.in_ok-at.field-0 c.loop-at.invariant.wrote (rw take_rest at c.in_ok-at.ensures.bytes);
  stays = g.met.W.Sink.stays_trans _ c.loop-at.sink _ c.loop-at.invariant.stays c.in_ok-at.ensures.stays;
  faults = search rules;
}
