use Rattle.std.proofs.Common.{rules, arith, ap, sym, subst, Err, length, List, ℕ}
use Rattle.httparse.specs.Spans.{IsRequestWithin, IsRequestOf}
use Rattle.httparse.specs.Grammar.{HasNoRequest, NeverHasRequest, MayBecomeRequest}
use Rattle.server_http.specs.Item.{window}
use Rattle.server_http.proofs.Sizes.{never_too_many}
use Rattle.server_http.proofs.Windows.{window_at_hand, window_size}
use Rattle.std.proofs.KnownBytes.{Keeps-trans}
use Rattle.server_http.proofs.Items.{unfinished_head}
use Rattle.server_http.proofs.Reading.{and_piece}
use Rattle.server_http.proofs.head.read_head.Goals as goal

pub returns-in-Ok-Complete-clause-answer : goal.returns-in-Ok-Complete-clause-answer
returns-in-Ok-Complete-clause-answer g c =
    let w = window_at_hand c.loop-spans.bytes.items c.deref.result.now c.min-hand.result c.deref.ensures.value (search rules) in
    let within = rw c.in-Ok-Complete.field-0-is at c.in-Ok-Complete.ensures.within in
    let found = rw c.in-Ok-Complete.field-0-is at c.in-Ok-Complete.ensures.complete in
    let P : List ℕ → Type 0 = λ b. IsRequestWithin b c.parse_request.new.headers c.in-Ok-Complete.spans × IsRequestOf b c.parse_request.new.headers c.in-Ok-Complete.spans in
    subst P w (within, found)

pub returns-then-hand-eq-HEAD_LIMIT-clause-answer :
    goal.returns-then-hand-eq-HEAD_LIMIT-clause-answer
returns-then-hand-eq-HEAD_LIMIT-clause-answer g c =
    let w = window_at_hand c.loop-spans.bytes.items c.deref.result.now c.min-hand.result c.deref.ensures.value (search rules) in
    (search rules, subst HasNoRequest w (rw c.in-Ok-Partial.field-0-is at c.in-Ok-Partial.ensures.partial), subst MayBecomeRequest w (rw c.in-Ok-Partial.field-0-is at c.in-Ok-Partial.ensures.unfinished))

pub returns-then-branch-eq0-clause-answer : goal.returns-then-branch-eq0-clause-answer
returns-then-branch-eq0-clause-answer g c =
    let w = window_at_hand c.loop-spans.bytes.items c.deref.result.now c.min-hand.result c.deref.ensures.value (search rules) in
    let e = c.in_ok-read_more-in-Ok-Partial.ensures.end c.if-branch-eq0.true in
    let none = subst HasNoRequest w (rw c.in-Ok-Partial.field-0-is at c.in-Ok-Partial.ensures.partial) in
    let may = subst MayBecomeRequest w (rw c.in-Ok-Partial.field-0-is at c.in-Ok-Partial.ensures.unfinished) in
    let same = ap window (sym e.1) in
    (e.0, (let size = ap length e.1 in let known = c.loop-spans.bytes.ok.0 in omega (arith, size, known)), subst HasNoRequest same none, subst MayBecomeRequest same may)

pub returns-in-Err-clause-answer : goal.returns-in-Err-clause-answer
returns-in-Err-clause-answer g c =
    let w = window_at_hand c.loop-spans.bytes.items c.deref.result.now c.min-hand.result c.deref.ensures.value (search rules) in
    let v = c.in-Err.ensures.invalid in
    subst NeverHasRequest w (v (λ e. never_too_many _ _ (rw w (window_size _)) (let room = c.loop-spans.invariant.room in omega arith) (c.in-Err.ensures.too_many (ap Err e))))

pub returns-in_err-read_more-in-Ok-Partial-clause-reads :
    goal.returns-in_err-read_more-in-Ok-Partial-clause-reads
returns-in_err-read_more-in-Ok-Partial-clause-reads g c =
    let w = window_at_hand c.loop-spans.bytes.items c.deref.result.now c.min-hand.result c.deref.ensures.value (search rules) in
    let none = subst HasNoRequest w (rw c.in-Ok-Partial.field-0-is at c.in-Ok-Partial.ensures.partial) in
    let may = subst MayBecomeRequest w (rw c.in-Ok-Partial.field-0-is at c.in-Ok-Partial.ensures.unfinished) in
    let known = c.loop-spans.bytes.ok.0 in
    and_piece _ _ _ c.loop-spans.bytes.items _ _ c.loop-spans.source _ c.loop-spans.invariant.reads (unfinished_head c.loop-spans.bytes.items (omega (arith, known)) none may) c.read_more.ensures.step

pub returns-then-branch-eq0-clause-reads : goal.returns-then-branch-eq0-clause-reads
returns-then-branch-eq0-clause-reads g c =
    let w = window_at_hand c.loop-spans.bytes.items c.deref.result.now c.min-hand.result c.deref.ensures.value (search rules) in
    let none = subst HasNoRequest w (rw c.in-Ok-Partial.field-0-is at c.in-Ok-Partial.ensures.partial) in
    let may = subst MayBecomeRequest w (rw c.in-Ok-Partial.field-0-is at c.in-Ok-Partial.ensures.unfinished) in
    let known = c.loop-spans.bytes.ok.0 in
    and_piece _ _ _ c.loop-spans.bytes.items _ _ c.loop-spans.source _ c.loop-spans.invariant.reads (unfinished_head c.loop-spans.bytes.items (omega (arith, known)) none may) c.read_more.ensures.step

pub loop-spans-preserved : goal.loop-spans-preserved
loop-spans-preserved g c =
    let w = window_at_hand c.loop-spans.bytes.items c.deref.result.now c.min-hand.result c.deref.ensures.value (search rules) in
    let none = subst HasNoRequest w (rw c.in-Ok-Partial.field-0-is at c.in-Ok-Partial.ensures.partial) in
    let may = subst MayBecomeRequest w (rw c.in-Ok-Partial.field-0-is at c.in-Ok-Partial.ensures.unfinished) in
    let known = c.loop-spans.bytes.ok.0 in
    record {
      kept = Keeps-trans _ _ _ c.loop-spans.invariant.kept c.read_more.ensures.kept;
      room = search rules;
      stays = g.met.S.Source.stays_trans _ _ _ c.loop-spans.invariant.stays c.read_more.ensures.stays;
      reads = and_piece _ _ _ c.loop-spans.bytes.items _ _ c.loop-spans.source _ c.loop-spans.invariant.reads (unfinished_head c.loop-spans.bytes.items (omega (arith, known)) none may) c.read_more.ensures.step;
      later = (let a = c.loop-spans.invariant.later in let b = c.read_more.ensures.cause.later in omega (arith, a, b));
    }
