use Rattle.std.proofs.Common.{sym, subst}
use Rattle.model_requests.specs.RequestOf.{request_of}
use Rattle.model_requests.specs.Requests.{adds_validation_rule}
use Rattle.model_requests.specs.declared.route.Route.TheVariants.{AddValidationRule}
use Rattle.api_edit.specs.inner.Edits.{Asks}
use Rattle.api_edit.proofs.Asked.{asks_rule}
use Rattle.api_edit.proofs.bodies.rule_in.Goals as goal

pub returns : goal.returns
returns c =
    let body = c.args.body.now in
    subst (λ r. Asks adds_validation_rule (request_of AddValidationRule body) r) (sym c.form_of.ensures) (asks_rule body c.new_validation_rule.result c.new_validation_rule.ensures)
