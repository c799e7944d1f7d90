use Rattle.std.proofs.Common.{◌+◌, [], ◌∷◌, ◌∙◌, ap, sym, drop, append-nil}
use Rattle.std.specs.Str.{chars}
use Rattle.std.proofs.lemmas.List.{at_drop_all, at_drop_more}
use Rattle.query_plan.specs.Shown.{child_text}
use Rattle.query_plan.specs.declared.plan.Child.{Child}
use Rattle.api_output.proofs.Written.{after}
use Rattle.query_json.specs.row.Shows.{shows}
use Rattle.query_json.proofs.Pieces.{one_more, with_rest}
use Rattle.query_json.proofs.row.children.write_more_children.Goals as goal

pub children-preserved : goal.children-preserved
children-preserved c =
    let text = child_text shows (chars c.args.object.now) c.args.members.now in
    let children = c.args.children.now in
    let child = c.child-item.result in
    let more = drop (c.children.child-index + 1) children in
    one_more text c.children.writer c.write_child.new.writer child more
    (after c.children.writer c.write_comma.new.writer c.write_child.new.writer (44 ∷ []) (text child) c.in_ok-write_comma.ensures c.in_ok-write_child.ensures)
    ∙ ap (λ (k : Child). with_rest text c.children.writer (k ∷ more)) c.child-item.is
    ∙ sym (at_drop_more (with_rest text c.children.writer) children c.children.child-index child c.children-test.true)
    ∙ c.children.invariant

pub returns : goal.returns
returns c =
    let text = child_text shows (chars c.args.object.now) c.args.members.now in
    sym (append-nil c.children.writer) ∙ sym (at_drop_all (with_rest text c.children.writer) c.args.children.now c.children.child-index c.children-test.false)
    ∙ c.children.invariant
