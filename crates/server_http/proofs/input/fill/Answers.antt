use Rattle.std.proofs.Common.{arith}
use Rattle.std.proofs.KnownBytes.{Keeps-trans}
use Rattle.std.proofs.Transfers.{starts_with_trans}
use Rattle.server_http.proofs.Reading.{and_piece}
use Rattle.server_http.proofs.input.fill.Goals as goal

pub returns-in_err-read_more-clause-reads : goal.returns-in_err-read_more-clause-reads
returns-in_err-read_more-clause-reads g c =
    let known = c.loop-source.bytes.ok.0 in
    and_piece _ _ _ c.loop-source.bytes.items _ _ c.loop-source.source _ c.loop-source.invariant.reads (omega (arith, known)) c.read_more.ensures.step

pub returns-then-branch-eq0-clause-reads : goal.returns-then-branch-eq0-clause-reads
returns-then-branch-eq0-clause-reads g c =
    let known = c.loop-source.bytes.ok.0 in
    and_piece _ _ _ c.loop-source.bytes.items _ _ c.loop-source.source _ c.loop-source.invariant.reads (omega (arith, known)) c.read_more.ensures.step

pub loop-source-preserved : goal.loop-source-preserved
loop-source-preserved g c =
    let known = c.loop-source.bytes.ok.0 in
    record {
      kept = Keeps-trans _ _ _ c.loop-source.invariant.kept c.read_more.ensures.kept;
      front = starts_with_trans _ _ _ c.read_more.ensures.front c.loop-source.invariant.front;
      stays = g.met.S.Source.stays_trans _ _ _ c.loop-source.invariant.stays c.read_more.ensures.stays;
      reads = and_piece _ _ _ c.loop-source.bytes.items _ _ c.loop-source.source _ c.loop-source.invariant.reads (omega (arith, known)) c.read_more.ensures.step;
      later = (let a = c.loop-source.invariant.later in let b = c.read_more.ensures.cause.later in omega (arith, a, b));
    }
