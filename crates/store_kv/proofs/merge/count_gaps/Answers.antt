use Rattle.std.proofs.Common.{ap, arith}
use Rattle.store_kv.specs.Laid.{Entry, gap}
use Rattle.store_kv.proofs.Moves.{gaps_more, gap_most}
use Rattle.store_kv.proofs.merge.count_gaps.Goals as goal

pub loop-entry-preserved : goal.loop-entry-preserved
loop-entry-preserved c =
    let more = gaps_more c.args.held.now c.loop-entry.entry-index c.entry-item.result (omega arith) c.entry-item.is in
    let same = ap (λ (e : Entry). gap e.1) c.entry.view_is in
    (omega (arith, more, same, c.gap-count.ensures, c.loop-entry.invariant.0), omega (arith, same, c.gap-count.ensures, c.loop-entry.invariant.1, gap_most c.entry.inside.row.now))
