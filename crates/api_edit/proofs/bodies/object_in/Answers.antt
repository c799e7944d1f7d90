use Rattle.std.proofs.Common.{sym, subst}
use Rattle.model_requests.specs.RequestOf.{request_of}
use Rattle.model_requests.specs.Requests.{adds_object}
use Rattle.model_requests.specs.declared.route.Route.TheVariants.{AddObject}
use Rattle.api_edit.specs.inner.Edits.{Asks}
use Rattle.api_edit.proofs.Asked.{asks_object}
use Rattle.api_edit.proofs.bodies.object_in.Goals as goal

pub returns : goal.returns
returns c =
    let body = c.args.body.now in
    subst (λ r. Asks adds_object (request_of AddObject body) r) (sym c.form_of.ensures) (asks_object body c.new_object.result c.new_object.ensures)
