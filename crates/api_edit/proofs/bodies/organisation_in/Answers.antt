use Rattle.std.proofs.Common.{sym, subst}
use Rattle.model_requests.specs.RequestOf.{request_of}
use Rattle.model_requests.specs.Requests.{sets_organisation}
use Rattle.model_requests.specs.declared.route.Route.TheVariants.{SetOrganisation}
use Rattle.api_edit.specs.inner.Edits.{Asks}
use Rattle.api_edit.proofs.Asked.{asks_organisation}
use Rattle.api_edit.proofs.bodies.organisation_in.Goals as goal

pub returns : goal.returns
returns c =
    let body = c.args.body.now in
    subst (λ r. Asks sets_organisation (request_of SetOrganisation body) r) (sym c.form_of.ensures) (asks_organisation body c.organisation_name.result c.organisation_name.ensures)
