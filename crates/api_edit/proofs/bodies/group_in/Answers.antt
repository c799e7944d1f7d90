use Rattle.std.proofs.Common.{sym, subst}
use Rattle.model_requests.specs.RequestOf.{request_of}
use Rattle.model_requests.specs.Requests.{adds_group}
use Rattle.model_requests.specs.declared.route.Route.TheVariants.{AddGroup}
use Rattle.api_edit.specs.inner.Edits.{Asks}
use Rattle.api_edit.proofs.Asked.{asks_group}
use Rattle.api_edit.proofs.bodies.group_in.Goals as goal

pub returns : goal.returns
returns c =
    let body = c.args.body.now in
    subst (λ r. Asks adds_group (request_of AddGroup body) r) (sym c.form_of.ensures) (asks_group body c.new_group.result c.new_group.ensures)
