use Rattle.std.proofs.Common.{◌≡◌, subst, sym, take}
use Rattle.cli_notes.specs.Counts.{CountGoesOn, first_bytes, counted_lines, inner_sink}
use Rattle.cli_notes.specs.inner.CountLaws.{CountGoesOn-more}
use Rattle.cli_notes.proofs.counted_sink.CountedSinkSink.write.Goals as goal

pub returns-clause-stays : goal.returns-clause-stays
returns-clause-stays g c =
    let same : inner_sink c.count.new.self ≡ c.write.new.self = c.count.ensures.sink in
    let old = c.args.self.now in
    let new = c.count.new.self in
    let written = g.W.Sink.written in (
      subst (λ w. g.W.Sink.stays (inner_sink old) w) (sym same) c.in_ok-count.ensures.stays,
      subst (λ w. CountGoesOn (written (inner_sink old)) (written w) (counted_lines old) (counted_lines new) (first_bytes old) (first_bytes new)) (sym same)
          (CountGoesOn-more (written (inner_sink old)) (written c.write.new.self) (counted_lines old) (counted_lines new) (first_bytes old) (first_bytes new)
          (take c.in_ok-count.count c.args.piece.now) c.in_ok-count.ensures.bytes c.count.ensures.lines c.count.ensures.front),
    )
