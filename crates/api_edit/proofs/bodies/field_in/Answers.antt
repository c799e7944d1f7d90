use Rattle.std.proofs.Common.{sym, subst}
use Rattle.model_requests.specs.RequestOf.{request_of}
use Rattle.model_requests.specs.Requests.{adds_field}
use Rattle.model_requests.specs.declared.route.Route.TheVariants.{AddField}
use Rattle.api_edit.specs.inner.Edits.{Asks}
use Rattle.api_edit.proofs.Asked.{asks_field}
use Rattle.api_edit.proofs.bodies.field_in.Goals as goal

pub returns : goal.returns
returns c =
    let body = c.args.body.now in
    subst (λ r. Asks adds_field (request_of AddField body) r) (sym c.form_of.ensures) (asks_field body c.new_field.result c.new_field.ensures)
