use Rattle.std.proofs.Common.{sym, subst}
use Rattle.model_requests.specs.RequestOf.{request_of}
use Rattle.model_requests.specs.Requests.{sets_object}
use Rattle.model_requests.specs.declared.route.Route.TheVariants.{SetObject}
use Rattle.api_edit.specs.inner.Edits.{Asks}
use Rattle.api_edit.proofs.Asked.{asks_object_change}
use Rattle.api_edit.proofs.bodies.object_change_in.Goals as goal

pub returns : goal.returns
returns c object =
    let body = c.args.body.now in
    subst (λ r. Asks (sets_object object) (request_of (SetObject object) body) r) (sym c.form_of.ensures) (asks_object_change object body c.object_change.result c.object_change.ensures)
