use Rattle.std.proofs.Common.{◌∙◌, inl, inr, refl, sym}
use Rattle.store_abstraction.specs.Layouts.{own_layouts}
use Rattle.cmd_sandbox.proofs.Sure.{found_sound, only_memory, read_owned, read_same}
use Rattle.cmd_sandbox.proofs.answering.answer_over.Goals as goal

pub returns-then-is_flat-clause-lines : goal.returns-then-is_flat-clause-lines
returns-then-is_flat-clause-lines c a made o named is =
    c.answer_there.ensures.lines a made o named is (inl (sym c.is_flat.ensures ∙ c.if-is_flat.true))

pub returns-in-Ok-clause-lines : goal.returns-in-Ok-clause-lines
returns-in-Ok-clause-lines c a made o named is =
    let then = read_owned _ _ c.args.draft.now c.layouts.new.draft c.args.now a c.in-Ok.ensures.calls made in
    let own = c.in-Ok.ensures.finds (tt, refl) made.plan _ made.stands in
    c.answer_there-in-Ok.ensures.lines a then o named is (inr (made.stands.sound, c.as_slice.ensures ∙ own))

pub returns-in-Ok-clause-kept : goal.returns-in-Ok-clause-kept
returns-in-Ok-clause-kept c at a made =
    c.answer_there-in-Ok.ensures.kept at a (read_owned _ _ c.args.draft.now c.layouts.new.draft at a c.in-Ok.ensures.calls made)

pub returns-in-Err-clause-lines : goal.returns-in-Err-clause-lines
returns-in-Err-clause-lines c a made o named is =
    only_memory c.in-Err.fail (c.in-Err.ensures.calls.cause.never made.sure) (found_sound (own_layouts 1) 1 _ made.plan _ c.in-Err.fail (c.in-Err.ensures.finds (tt, refl)) made.stands)

pub returns-in-Err-clause-kept : goal.returns-in-Err-clause-kept
returns-in-Err-clause-kept c at a made = read_owned _ _ c.args.draft.now c.layouts.new.draft at a c.in-Err.ensures.calls made

pub returns-in-Ok-clause-same : goal.returns-in-Ok-clause-same
returns-in-Ok-clause-same c = c.answer_there-in-Ok.ensures.same ∙ read_same _ _ c.args.draft.now c.layouts.new.draft c.in-Ok.ensures.calls

pub returns-in-Err-clause-same : goal.returns-in-Err-clause-same
returns-in-Err-clause-same c = read_same _ _ c.args.draft.now c.layouts.new.draft c.in-Err.ensures.calls
