use Rattle.std.proofs.Common.{Ok, subst, ℕ, List}
use Rattle.model.specs.Retyping.{begin_retype}
use Rattle.cmd_sandbox.specs.Making.{StepsOwn}
use Rattle.cmd_demo.specs.Demos.{amount_field, item_object, whole_number}
use Rattle.cmd_demo.proofs.Coming.{verdict_comes}
use Rattle.cmd_demo.specs.Demos.{comes_to}
use Rattle.cmd_demo.proofs.Coming.{stopped_on}
use Rattle.cmd_demo.proofs.Watching.{Owns}
use Rattle.cmd_demo.proofs.show.begin.Goals as goal

pub returns : goal.returns
returns c now a made =
    let after = c.begin_change.new.draft in
    verdict_comes now after a (begin_retype a.tenant item_object amount_field whole_number) c.in_ok-refused.refused c.unless_refused.result
    (subst (λ (o : List ℕ). StepsOwn now after a (begin_retype a.tenant o amount_field whole_number) (Ok c.in_ok-refused.refused)) c.in_ok-object.ensures
    (subst (λ (f : List ℕ). StepsOwn now after a (begin_retype a.tenant c.in_ok-object.object f whole_number) (Ok c.in_ok-refused.refused)) c.in_ok-field.ensures (c.in_ok-refused.ensures now a made))) c.unless_refused.ensures

pub returns-in_err-refused : goal.returns-in_err-refused
returns-in_err-refused c now a made =
    stopped_on (Owns now c.begin_change.new.draft) (comes_to a (begin_retype a.tenant item_object amount_field whole_number)) c.from_residual-in_err-refused.result c.in_err-refused.field-0.0
    (c.in_err-refused.ensures now a made) c.from_residual-in_err-refused.ensures
