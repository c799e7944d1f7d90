use Rattle.std.proofs.Common.{sym, subst}
use Rattle.model_requests.specs.RequestOf.{request_of}
use Rattle.model_requests.specs.Requests.{adds_sharing_rule}
use Rattle.model_requests.specs.declared.route.Route.TheVariants.{AddSharingRule}
use Rattle.api_edit.specs.inner.Edits.{Asks}
use Rattle.api_edit.proofs.Asked.{asks_sharing_rule}
use Rattle.api_edit.proofs.bodies.sharing_rule_in.Goals as goal

pub returns : goal.returns
returns c =
    let body = c.args.body.now in
    subst (λ r. Asks adds_sharing_rule (request_of AddSharingRule body) r) (sym c.form_of.ensures) (asks_sharing_rule body c.new_sharing_rule.result c.new_sharing_rule.ensures)
