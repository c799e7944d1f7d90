use Rattle.std.proofs.Common.{IsTrue, Ok, subst, sym}
use Rattle.model.specs.Metadata.{add_object}
use Rattle.model.specs.declared.metadata_bodies.NewObject.{NewObject}
use Rattle.cmd_sandbox.specs.Making.{StepsOwn}
use Rattle.model_invariant.specs.Fit.{is_fit_object}
use Rattle.cmd_demo.specs.Demos.{new_item}
use Rattle.cmd_demo.proofs.Coming.{item_fits, verdict_comes}
use Rattle.cmd_demo.specs.Demos.{comes_to}
use Rattle.cmd_demo.proofs.Coming.{stopped_on}
use Rattle.cmd_demo.proofs.Watching.{Owns}
use Rattle.cmd_demo.proofs.items.make_item_object.Goals as goal

pub make_object-requires : goal.make_object-requires
make_object-requires c = subst (λ (n : NewObject). IsTrue (is_fit_object n)) (sym c.in_ok-new.ensures) item_fits

pub returns : goal.returns
returns c now a made =
    let after = c.make_object.new.draft in
    verdict_comes now after a (add_object a.tenant new_item) c.in_ok-refused.refused c.unless_refused.result
    (subst (λ (n : NewObject). StepsOwn now after a (add_object a.tenant n) (Ok c.in_ok-refused.refused)) c.in_ok-new.ensures (c.in_ok-refused.ensures now a made)) c.unless_refused.ensures

pub returns-in_err-refused : goal.returns-in_err-refused
returns-in_err-refused c now a made =
    stopped_on (Owns now c.make_object.new.draft) (comes_to a (add_object a.tenant new_item)) c.from_residual-in_err-refused.result c.in_err-refused.field-0.0 (c.in_err-refused.ensures now a made)
    c.from_residual-in_err-refused.ensures
