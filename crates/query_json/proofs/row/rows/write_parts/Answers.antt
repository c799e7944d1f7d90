use Rattle.std.proofs.Common.{◌+◌, ◌∷◌, ◌∙◌, ap, sym, drop, append-nil}
use Rattle.std.proofs.lemmas.List.{at_drop_all, at_drop_more}
use Rattle.query_plan.specs.Shown.{shown_text}
use Rattle.query_plan.specs.declared.plan.Shown.{Shown}
use Rattle.query_json.specs.row.Shows.{shows}
use Rattle.query_json.proofs.Pieces.{one_more, with_rest}
use Rattle.query_json.proofs.row.rows.write_parts.Goals as goal

pub shown-preserved : goal.shown-preserved
shown-preserved g c r is =
    let text = shown_text shows c.args.parents.now c.args.children.now r in
    let parts = c.args.shown.now in
    let part = c.part-item.result in
    let more = drop (c.shown.part-index + 1) parts in
    one_more text c.shown.writer c.write_part.new.writer part more (c.in_ok-write_part.ensures r is)
    ∙ ap (λ (p : Shown). with_rest text c.shown.writer (p ∷ more)) c.part-item.is
    ∙ sym (at_drop_more (with_rest text c.shown.writer) parts c.shown.part-index part c.shown-test.true)
    ∙ c.shown.invariant r is

pub returns : goal.returns
returns g c r is =
    let text = shown_text shows c.args.parents.now c.args.children.now r in
    sym (append-nil c.shown.writer) ∙ sym (at_drop_all (with_rest text c.shown.writer) c.args.shown.now c.shown.part-index c.shown-test.false)
    ∙ c.shown.invariant r is
