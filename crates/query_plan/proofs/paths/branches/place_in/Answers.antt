use Rattle.std.proofs.Common.{◌∙◌, ℕ, ◌+◌, List, drop, ap, arith, subst, sym}
use Rattle.std.specs.Option.{option_copied, option_map}
use Rattle.std.proofs.lemmas.Option.{slice_get_within}
use Rattle.model.specs.Relationships.{parent_named}
use Rattle.query_plan.specs.paths.Ways.{parent_step}
use Rattle.query_plan.proofs.Branching.{added_twice}
use Rattle.query_plan.proofs.Places.{HasReached, reached_next}
use Rattle.query_plan.proofs.Spelling.{next_name, step_is, target_read}
use Rattle.query_plan.proofs.paths.branches.place_in.Goals as goal

pub returns-in_default-layout_in-clause-finds : goal.returns-in_default-layout_in-clause-finds
returns-in_default-layout_in-clause-finds c org q t layouts layout sound =
    let n = c.args.layout.now.object in
    let names = c.args.names.now in
    let l = c.names.end.now in
    let name = c.name-item.result in
    let it = c.names.invariant.reached org q t layouts layout sound in
    let is = step_is q t n names it.steps l name c.in-Some.step (c.in-Some.ensures.finds q t it.come.layout ∙ ap (λ (x : List ℕ). option_map parent_step (parent_named t l.object x)) c.as_str.ensures.characters) in
    absurd (target_read q t n names it.steps l name c.in-Some.step org sound it.come.layout is (sym (c.layout_in.ensures.own org q t layouts) ∙ ap option_copied c.in_default-layout_in.is))

pub returns-in_err-number-clause-once : goal.returns-in_err-number-clause-once
returns-in_err-number-clause-once c apart = c.find_or_add.ensures.once (c.names.invariant.once apart)

pub names-preserved : goal.names-preserved
names-preserved c = record {
  reached = λ org q t layouts layout sound.
      let n = c.args.layout.now.object in
      let names = c.args.names.now in
      let old = c.names.branches.items in
      let new = c.find_or_add.new.branches.items in
      let l = c.names.end.now in
      let name = c.name-item.result in
      let rest = drop (c.names.name-index + 1) names in
      let it = subst (HasReached q t n names old c.names.at l) (next_name names c.names.name-index name c.names-test.true c.name-item.is) (c.names.invariant.reached org q t layouts layout sound) in
      let is = step_is q t n names it.steps l name c.in-Some.step (c.in-Some.ensures.finds q t it.come.layout ∙ ap (λ (x : List ℕ). option_map parent_step (parent_named t l.object x)) c.as_str.ensures.characters) in
      reached_next q t names n old new c.names.at c.in_ok-number.number l c.in-Some-layout_in.next.now name rest c.in-Some.step org
      c.find_or_add.ensures.grows c.names.invariant.among c.in_ok-number.ensures.there it is (sym (c.in-Some-layout_in.ensures.own org q t layouts));
  among = slice_get_within c.find_or_add.new.branches.items c.in_ok-number.number _ c.in_ok-number.ensures.there;
  grown = added_twice _ _ _ c.names.invariant.grown c.find_or_add.ensures.grows;
  once = λ apart. c.find_or_add.ensures.once (c.names.invariant.once apart);
  few = omega (arith, c.find_or_add.ensures.few, c.names.invariant.few);
}
