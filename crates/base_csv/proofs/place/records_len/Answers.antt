use Rattle.std.proofs.Common.{◌≡◌, drop, sym, ◌∙◌, arith, []}
use Rattle.std.proofs.Math.Seq.{drop-length}
use Rattle.std.proofs.lemmas.List.{drop_all}
use Rattle.csv.specs.declared.parser.State.TheVariants as st
use Rattle.base_csv.specs.inner.Spots.{state_at}
use Rattle.base_csv.proofs.Scans.{at_end, at_zero, scan_is}
use Rattle.base_csv.proofs.place.records_len.Goals as goal

pub returns-then-left-eq0-clause-rest : goal.returns-then-left-eq0-clause-rest
returns-then-left-eq0-clause-rest c =
    at_zero c.loop-at.left (state_at c.loop-at.spot) (drop c.loop-at.at c.args.bytes.now) c.if-left-eq0.true ∙ c.loop-at.invariant ∙ scan_is c.args.rows st.StartRecord c.args.bytes.now

pub returns-clause-rest : goal.returns-clause-rest
returns-clause-rest c =
    let bytes = c.args.bytes.now in
    let gone : drop c.loop-at.at bytes ≡ [] = drop_all c.loop-at.at bytes (omega (arith, c.loop-at-test.false)) in
    drop-length bytes ∙ sym gone ∙ at_end c.loop-at.left (state_at c.loop-at.spot) (drop c.loop-at.at bytes) gone ∙ c.loop-at.invariant ∙ scan_is c.args.rows st.StartRecord bytes
