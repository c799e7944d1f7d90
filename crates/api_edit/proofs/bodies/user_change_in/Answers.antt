use Rattle.std.proofs.Common.{sym, subst, true}
use Rattle.std.specs.Prelude.{IfOk, IsTrue}
use Rattle.model.specs.Cases.{in_case}
use Rattle.model.specs.Organisations.{is_secret}
use Rattle.model.specs.declared.people_bodies.UserChange.{UserChange}
use Rattle.model_requests.specs.RequestOf.{request_of}
use Rattle.model_requests.specs.Requests.{sets_user}
use Rattle.model_requests.specs.declared.route.Route.TheVariants.{SetUser}
use Rattle.api_edit.specs.inner.Edits.{Asks}
use Rattle.api_edit.proofs.Asked.{asks_user_change, has_new_secret}
use Rattle.api_edit.proofs.bodies.user_change_in.Goals as goal

pub returns-clause-asks : goal.returns-clause-asks
returns-clause-asks c user =
    let body = c.args.body.now in
    subst (λ r. Asks (sets_user user) (request_of (SetUser user) body) r) (sym c.form_of.ensures) (asks_user_change user body c.user_change.result c.user_change.ensures.gives)

pub returns-clause-secret : goal.returns-clause-secret
returns-clause-secret c =
    subst (λ r. IfOk r (λ (b : UserChange). IsTrue (in_case b.secret true is_secret))) (sym c.form_of.ensures) (has_new_secret c.user_change.result c.user_change.ensures.secret)
