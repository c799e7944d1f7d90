use Rattle.std.proofs.Common.{◌≡◌, ◌∙◌, Err, List, Some, ap, refl, sym, ℕ}
use Rattle.std.specs.Option.{option_map}
use Rattle.std.specs.Str.{chars}
use Rattle.model.specs.Objects.{object_named}
use Rattle.model.specs.declared.refusal.Refusal.TheVariants.{InvalidType}
use Rattle.store_abstraction.specs.Layouts.{layout_of, own_layout_named}
use Rattle.cmd_sandbox.proofs.Asked.{found_at, none_at, nowhere}
use Rattle.cmd_sandbox.proofs.Sure.{found_sound, only_memory, read_owned, read_same}
use Rattle.cmd_sandbox.proofs.answering.answer.Goals as goal

pub returns-in-Ok-Some-clause-lines : goal.returns-in-Ok-Some-clause-lines
unfolding own_layout_named
returns-in-Ok-Some-clause-lines c a made =
    let name : chars c.as_str.result.now ≡ c.args.query.now.tail.from = c.as_str.ensures.characters in
    let read = c.in-Ok-Some.ensures.finds (tt, refl) made.plan (Some a.tenant) made.stands in
    let at = found_at made.plan a.tenant (object_named a.tenant c.args.query.now.tail.from) c.in-Ok-Some.layout
    (sym c.in-Ok-Some.field-0-is ∙ read ∙ ap (λ (n : List ℕ). option_map (layout_of 1 made.plan a.tenant) (object_named a.tenant n)) name) in
    c.answer_over.ensures.lines a (read_owned _ _ c.args.draft.now c.layout_named.new.draft c.args.now a c.in-Ok-Some.ensures.calls made) at.0 at.1 at.2

pub returns-in-Ok-clause-lines : goal.returns-in-Ok-clause-lines
unfolding own_layout_named
returns-in-Ok-clause-lines c a made =
    let name : chars c.as_str.result.now ≡ c.args.query.now.tail.from = c.as_str.ensures.characters in
    let read = c.in-Ok-None.ensures.finds (tt, refl) made.plan (Some a.tenant) made.stands in
    ap (λ (n : List ℕ). Err (InvalidType n)) c.in-Ok.ensures
    ∙ nowhere a c.args.query.now (none_at made.plan a.tenant (object_named a.tenant c.args.query.now.tail.from)
    (sym c.in-Ok-None.field-0-is ∙ read ∙ ap (λ (n : List ℕ). option_map (layout_of 1 made.plan a.tenant) (object_named a.tenant n)) name))

pub returns-in-Ok-Some-clause-kept : goal.returns-in-Ok-Some-clause-kept
returns-in-Ok-Some-clause-kept c at a made =
    c.answer_over.ensures.kept at a (read_owned _ _ c.args.draft.now c.layout_named.new.draft at a c.in-Ok-Some.ensures.calls made)

pub returns-in-Ok-clause-kept : goal.returns-in-Ok-clause-kept
returns-in-Ok-clause-kept c at a made = read_owned _ _ c.args.draft.now c.layout_named.new.draft at a c.in-Ok-None.ensures.calls made

pub returns-in-Err-clause-lines : goal.returns-in-Err-clause-lines
returns-in-Err-clause-lines c a made =
    only_memory c.in-Err.fail (c.in-Err.ensures.calls.cause.never made.sure) (found_sound (own_layout_named 1 (chars c.as_str.result.now)) 1 _ made.plan _ c.in-Err.fail (c.in-Err.ensures.finds (tt, refl)) made.stands)

pub returns-in-Err-clause-kept : goal.returns-in-Err-clause-kept
returns-in-Err-clause-kept c at a made = read_owned _ _ c.args.draft.now c.layout_named.new.draft at a c.in-Err.ensures.calls made

pub returns-in-Ok-Some-clause-same : goal.returns-in-Ok-Some-clause-same
returns-in-Ok-Some-clause-same c = c.answer_over.ensures.same ∙ read_same _ _ c.args.draft.now c.layout_named.new.draft c.in-Ok-Some.ensures.calls

pub returns-in-Ok-clause-same : goal.returns-in-Ok-clause-same
returns-in-Ok-clause-same c = read_same _ _ c.args.draft.now c.layout_named.new.draft c.in-Ok-None.ensures.calls

pub returns-in-Err-clause-same : goal.returns-in-Err-clause-same
returns-in-Err-clause-same c = read_same _ _ c.args.draft.now c.layout_named.new.draft c.in-Err.ensures.calls
