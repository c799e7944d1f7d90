use Rattle.std.proofs.Common.{sym, subst}
use Rattle.api_input.specs.Bodies.{adds_new_role}
use Rattle.model_requests.specs.RequestOf.{request_of}
use Rattle.model_requests.specs.declared.route.Route.TheVariants.{AddRole}
use Rattle.api_edit.specs.inner.Edits.{Asks}
use Rattle.api_edit.proofs.Asked.{asks_role}
use Rattle.api_edit.proofs.bodies.role_in.Goals as goal

pub returns : goal.returns
returns c =
    let body = c.args.body.now in
    subst (λ r. Asks adds_new_role (request_of AddRole body) r) (sym c.form_of.ensures) (asks_role body c.new_role.result c.new_role.ensures)
