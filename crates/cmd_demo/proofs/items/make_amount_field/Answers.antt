use Rattle.std.proofs.Common.{IsTrue, Ok, subst, sym}
use Rattle.model.specs.NewFields.{add_field}
use Rattle.model.specs.declared.metadata_bodies.NewField.{NewField}
use Rattle.cmd_sandbox.specs.Making.{StepsOwn}
use Rattle.model_invariant.specs.Fit.{is_fit_field}
use Rattle.cmd_demo.specs.Demos.{new_amount}
use Rattle.cmd_demo.proofs.Coming.{amount_fits, verdict_comes}
use Rattle.cmd_demo.specs.Demos.{comes_to}
use Rattle.cmd_demo.proofs.Coming.{stopped_on}
use Rattle.cmd_demo.proofs.Watching.{Owns}
use Rattle.cmd_demo.proofs.items.make_amount_field.Goals as goal

pub make_field-requires : goal.make_field-requires
make_field-requires c = subst (λ (n : NewField). IsTrue (is_fit_field n)) (sym c.in_ok-new.ensures) amount_fits

pub returns : goal.returns
returns c now a made =
    let after = c.make_field.new.draft in
    verdict_comes now after a (add_field a.tenant new_amount) c.in_ok-refused.refused c.unless_refused.result
    (subst (λ (n : NewField). StepsOwn now after a (add_field a.tenant n) (Ok c.in_ok-refused.refused)) c.in_ok-new.ensures (c.in_ok-refused.ensures now a made)) c.unless_refused.ensures

pub returns-in_err-refused : goal.returns-in_err-refused
returns-in_err-refused c now a made =
    stopped_on (Owns now c.make_field.new.draft) (comes_to a (add_field a.tenant new_amount)) c.from_residual-in_err-refused.result c.in_err-refused.field-0.0 (c.in_err-refused.ensures now a made)
    c.from_residual-in_err-refused.ensures
