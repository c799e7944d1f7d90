use Rattle.std.proofs.Common.{sym, subst}
use Rattle.model_requests.specs.RequestOf.{request_of}
use Rattle.model_requests.specs.Requests.{shares}
use Rattle.model_requests.specs.declared.route.Route.TheVariants.{Share}
use Rattle.api_edit.specs.inner.Edits.{Asks}
use Rattle.api_edit.proofs.Asked.{asks_share}
use Rattle.api_edit.proofs.bodies.share_in.Goals as goal

pub returns : goal.returns
returns c =
    let body = c.args.body.now in
    subst (λ r. Asks shares (request_of Share body) r) (sym c.form_of.ensures) (asks_share body c.new_share.result c.new_share.ensures)
