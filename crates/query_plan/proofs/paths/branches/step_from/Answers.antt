use Rattle.std.proofs.Common.{◌∙◌, [], Some, ap, refl, sym}
use Rattle.std.specs.Option.{option_copied}
use Rattle.std.specs.Str.{chars}
use Rattle.std.proofs.lemmas.Option.{slice_get_within}
use Rattle.query_plan.proofs.Spelling.{step_is, target_read}
use Rattle.query_plan.proofs.Stepping.{parent_place}
use Rattle.query_plan.proofs.paths.branches.step_from.Goals as goal

pub returns-in_default-layout_in-clause-finds : goal.returns-in_default-layout_in-clause-finds
returns-in_default-layout_in-clause-finds c org q t layouts laid sound =
    let l = c.args.from.layout.now in
    let name = chars c.args.name.now in
    let is = step_is q t l.object [] [] l name c.in-Some.step (c.in-Some.ensures.finds q t laid) in
    absurd (target_read q t l.object [] [] l name c.in-Some.step org sound laid is (sym (c.layout_in.ensures.own org q t layouts) ∙ ap option_copied c.in_default-layout_in.is))

pub returns-clause-finds : goal.returns-clause-finds
returns-clause-finds c org q t layouts laid sound =
    let from = c.args.from in
    let l = from.layout.now in
    let name = chars c.args.name.now in
    let is = step_is q t l.object [] [] l name c.in-Some.step (c.in-Some.ensures.finds q t laid) in
    let next = c.in-Some-layout_in.layout in
    let number = c.in_ok-number.number in
    parent_place q t sound from laid name is.reference is.named c.args.branches.now.items c.find_or_add.new.branches.items number (record { branch = Some number; layout = next }) c.in-Some.step org
    c.find_or_add.ensures.grows c.requires.above c.in_ok-number.ensures.there is.step refl (sym (c.in-Some-layout_in.ensures.own org q t layouts))

pub returns-clause-among : goal.returns-clause-among
returns-clause-among c = slice_get_within c.find_or_add.new.branches.items c.in_ok-number.number _ c.in_ok-number.ensures.there
