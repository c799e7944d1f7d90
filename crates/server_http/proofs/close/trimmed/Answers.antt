use Rattle.std.proofs.Common.{◌≡◌, ◌-◌, ℕ, List, reverse, length, slice_range, sym, ap, ◌∙◌, arith}
use Rattle.std.proofs.lemmas.List.{reverse-reverse, take_all}
use Rattle.httparse.specs.Grammar.{skip_ows, trim_ows}
use Rattle.httparse.proofs.TrimLemmas.{skip_ows_yes, skip_ows_no, slice_first, slice_last, slice_empty}
use Rattle.server_http.proofs.close.trimmed.Goals.{then-loop-start-test+else-is_blank, else-loop-start-test, then-loop-end-test+else-is_blank-2, else-loop-end-test}
use Rattle.server_http.proofs.close.trimmed.Goals as goal

pub loop-start-init : goal.loop-start-init
loop-start-init c = (omega arith, ap skip_ows (sym (take_all (length c.args.bytes.now - 0) c.args.bytes.now (omega arith))))

pub loop-start-preserved : goal.loop-start-preserved
loop-start-preserved c = (
  omega arith,
  c.loop-start.invariant.1 ∙ skip_ows_yes (slice_first c.args.bytes.now _ _ c.loop-start-test.true (omega arith)) c.if-is_blank.ensures,
)

pub loop-end-init : goal.loop-end-init
unfolding trim_ows
loop-end-init c =
    let here = slice_range c.args.bytes.now c.loop-start.start (length c.args.bytes.now) in
    let stays : skip_ows here ≡ here =
    elim c.loop-start-test.branch [
      | then-loop-start-test+else-is_blank w ↦ skip_ows_no (slice_first c.args.bytes.now _ _ w.loop-start-test.true (omega arith)) w.if-is_blank.ensures
      | else-loop-start-test w ↦
          let empty = slice_empty c.args.bytes.now c.loop-start.start (length c.args.bytes.now) (omega arith) (omega arith) in
          ap skip_ows empty ∙ sym empty
    ] in (
      omega arith,
      omega arith,
      ap (λ (t : List ℕ). reverse (skip_ows (reverse t))) (c.loop-start.invariant.1 ∙ stays),
    )

pub loop-end-preserved : goal.loop-end-preserved
loop-end-preserved c =
    let last = slice_last c.args.bytes.now _ _ c.loop-end-test.true (omega arith) in (
      omega arith,
      omega arith,
      c.loop-end.invariant.2 ∙ ap reverse (skip_ows_yes last c.if-is_blank-2.ensures),
    )

pub returns : goal.returns
returns c =
    let here = slice_range c.args.bytes.now c.loop-start.start c.loop-end.end in
    let stays : skip_ows (reverse here) ≡ reverse here =
    elim c.loop-end-test.branch [
      | then-loop-end-test+else-is_blank-2 w ↦ skip_ows_no (slice_last c.args.bytes.now _ _ w.loop-end-test.true (omega arith)) w.if-is_blank-2.ensures
      | else-loop-end-test w ↦
          let empty = slice_empty c.args.bytes.now c.loop-start.start c.loop-end.end (omega arith) (omega arith) in
          ap (λ (t : List ℕ). skip_ows (reverse t)) empty ∙ sym (ap reverse empty)
    ] in
    sym (c.loop-end.invariant.2 ∙ ap reverse stays ∙ reverse-reverse here)
