use Rattle.std.proofs.Common.{sym, subst}
use Rattle.model_requests.specs.RequestOf.{request_of}
use Rattle.model_requests.specs.Requests.{sets_role}
use Rattle.model_requests.specs.declared.route.Route.TheVariants.{SetRole}
use Rattle.api_edit.specs.inner.Edits.{Asks}
use Rattle.api_edit.proofs.Asked.{asks_role_change}
use Rattle.api_edit.proofs.bodies.role_change_in.Goals as goal

pub returns : goal.returns
returns c role =
    let body = c.args.body.now in
    subst (λ r. Asks (sets_role role) (request_of (SetRole role) body) r) (sym c.form_of.ensures) (asks_role_change role body c.role_change.result c.role_change.ensures)
