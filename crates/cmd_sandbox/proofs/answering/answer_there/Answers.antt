use Rattle.std.proofs.Common.{◌∙◌, refl, rules, sym, w64}
use Rattle.std.proofs.lemmas.Int.{to_z-of_z}
use Rattle.std.specs.Prelude.{FitsSigned}
use Rattle.cmd_sandbox.proofs.Asked.{is_asked, lines_are}
use Rattle.cmd_sandbox.proofs.Sure.{read_owned, read_same}
use Rattle.cmd_sandbox.proofs.answering.answer_there.Goals as goal

pub returns-clause-lines : goal.returns-clause-lines
returns-clause-lines c a made o named is reaches =
    let small : FitsSigned w64 c.moment.result = search rules in
    let at = made.moment ∙ sym c.moment.ensures ∙ sym (to_z-of_z w64 c.moment.result small) in
    lines_are a c.args.query.now c.answer_lines.result
    (c.answer_lines.ensures.what (tt, refl) made.plan a (is_asked c.args.layouts.now c.args.layout.now c.args.query.now c.args.now c.args.draft.now a made o named is reaches _ at))
    (c.answer_lines.ensures.calls.cause.never made.sure)

pub returns-clause-kept : goal.returns-clause-kept
returns-clause-kept c at a made = read_owned _ _ c.args.draft.now c.answer_lines.new.draft at a c.answer_lines.ensures.calls made

pub returns-clause-same : goal.returns-clause-same
returns-clause-same c = read_same _ _ c.args.draft.now c.answer_lines.new.draft c.answer_lines.ensures.calls
