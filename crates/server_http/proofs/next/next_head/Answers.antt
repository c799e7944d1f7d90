use Rattle.std.proofs.Common.{rules}
use Rattle.std.proofs.lemmas.Result.{err_from_is_err_and}
use Rattle.server_http.specs.Item.{window}
use Rattle.server_http.proofs.Windows.{window_at_hand}
use Rattle.server_http.proofs.Heads.{found_head, refused_head, refused_size, target_is_text}
use Rattle.server_http.proofs.next.next_head.Goals as goal

pub returns-in_err-spans-clause-answer : goal.returns-in_err-spans-clause-answer
returns-in_err-spans-clause-answer g c =
    let p = err_from_is_err_and c.from_residual.result c.from_residual.ensures.1 in
    let a = c.in_err-spans.ensures.answer in
    rw (p.1, p.2) (refused_head c.read_head.new.bytes.items (g.S.Source.left c.read_head.new.source) c.read_head.new.lines _ a)

pub parts-requires : goal.parts-requires
parts-requires g c =
    let w = window_at_hand c.read_head.new.bytes.items c.deref.result.now c.min-hand.result c.deref.ensures.value (search rules) in
    let a = rw c.in-Some.is at c.in_ok-spans.ensures.answer in
    rw w record {
      within = a.0;
      target = target_is_text (window c.read_head.new.bytes.items) c.read_head.new.lines c.in-Some.spans a.1;
    }

pub returns-in_err-parts-clause-answer : goal.returns-in_err-parts-clause-answer
returns-in_err-parts-clause-answer g c =
    let w = window_at_hand c.read_head.new.bytes.items c.deref.result.now c.min-hand.result c.deref.ensures.value (search rules) in
    let p = err_from_is_err_and c.from_residual-in_err-parts.result c.from_residual-in_err-parts.ensures.1 in
    rw (p.1, p.2) (refused_size c.read_head.new.bytes.items (g.S.Source.left c.read_head.new.source) c.read_head.new.lines c.in-Some.spans _ (rw c.in-Some.is at c.in_ok-spans.ensures.answer) (rw w at c.in_err-parts.ensures.err))

pub returns-clause-answer : goal.returns-clause-answer
returns-clause-answer g c =
    let w = window_at_hand c.read_head.new.bytes.items c.deref.result.now c.min-hand.result c.deref.ensures.value (search rules) in
    found_head c.read_head.new.bytes.items (g.S.Source.left c.read_head.new.source) c.read_head.new.lines c.in-Some.spans _ (rw c.in-Some.is at c.in_ok-spans.ensures.answer) (rw w at c.in_ok-parts.ensures.ok)
