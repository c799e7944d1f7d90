use Rattle.std.proofs.Common.{sym, subst}
use Rattle.model_requests.specs.RequestOf.{request_of}
use Rattle.model_requests.specs.Requests.{sets_group}
use Rattle.model_requests.specs.declared.route.Route.TheVariants.{SetGroup}
use Rattle.api_edit.specs.inner.Edits.{Asks}
use Rattle.api_edit.proofs.Asked.{asks_group_change}
use Rattle.api_edit.proofs.bodies.group_change_in.Goals as goal

pub returns : goal.returns
returns c group =
    let body = c.args.body.now in
    subst (λ r. Asks (sets_group group) (request_of (SetGroup group) body) r) (sym c.form_of.ensures) (asks_group_change group body c.group_change.result c.group_change.ensures)
