use Rattle.std.proofs.Common.{◌≡◌, ◌∙◌, IsTrue, List, Ok, subst, sym, ℕ}
use Rattle.std.specs.List.{list_all}
use Rattle.record_input.specs.Given.{IsInJson}
use Rattle.model.specs.Creates.{create}
use Rattle.model.specs.declared.record_bodies.Assignment.{Assignment}
use Rattle.cmd_sandbox.specs.Making.{StepsOwn}
use Rattle.model_invariant.specs.Fit.{is_spelled}
use Rattle.cmd_demo.specs.Demos.{given_amount, item_object}
use Rattle.cmd_demo.proofs.Coming.{verdict_comes}
use Rattle.cmd_demo.specs.Demos.{comes_to}
use Rattle.cmd_demo.proofs.Coming.{stopped_on}
use Rattle.cmd_demo.proofs.Watching.{Owns}
use Rattle.cmd_demo.proofs.items.make_item.Goals as goal

pub make_record-requires-clause-spelled : goal.make_record-requires-clause-spelled
make_record-requires-clause-spelled c = subst (λ (g : List Assignment). IsTrue (list_all (λ x. is_spelled x.given) g)) (sym c.as_slice.ensures.value) c.in_ok-given.ensures.spelled

pub make_record-requires-clause-json : goal.make_record-requires-clause-json
make_record-requires-clause-json c = subst IsInJson (sym c.as_slice.ensures.value) c.in_ok-given.ensures.json

pub returns : goal.returns
returns c a made =
    let now = c.args.now in
    let after = c.make_record.new.draft in
    let is : c.as_slice.result.now ≡ given_amount c.args.number = c.as_slice.ensures.value ∙ c.in_ok-given.ensures.same in
    verdict_comes now after a (create a item_object (given_amount c.args.number)) c.in_ok-refused.refused c.unless_refused.result
    (subst (λ (g : List Assignment). StepsOwn now after a (create a item_object g) (Ok c.in_ok-refused.refused)) is
    (subst (λ (name : List ℕ). StepsOwn now after a (create a name c.as_slice.result.now) (Ok c.in_ok-refused.refused)) c.requires.object (c.in_ok-refused.ensures a made))) c.unless_refused.ensures

pub returns-in_err-refused : goal.returns-in_err-refused
returns-in_err-refused c a made =
    stopped_on (Owns c.args.now c.make_record.new.draft) (comes_to a (create a item_object (given_amount c.args.number))) c.from_residual-in_err-refused.result c.in_err-refused.field-0.0
    (c.in_err-refused.ensures a made) c.from_residual-in_err-refused.ensures
