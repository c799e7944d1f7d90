use Rattle.std.proofs.Common.{sym, subst}
use Rattle.api_input.specs.Bodies.{begins_new_retype}
use Rattle.model_requests.specs.RequestOf.{request_of}
use Rattle.model_requests.specs.declared.route.Route.TheVariants.{BeginRetype}
use Rattle.api_edit.specs.inner.Edits.{Asks}
use Rattle.api_edit.proofs.Asked.{asks_retype}
use Rattle.api_edit.proofs.bodies.retype_in.Goals as goal

pub returns : goal.returns
returns c =
    let body = c.args.body.now in
    subst (λ r. Asks begins_new_retype (request_of BeginRetype body) r) (sym c.form_of.ensures) (asks_retype body c.new_retype.result c.new_retype.ensures)
