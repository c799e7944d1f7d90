use Rattle.std.proofs.Common.{sym, subst}
use Rattle.std.specs.Prelude.{IfOk, IsTrue}
use Rattle.model.specs.Organisations.{is_secret}
use Rattle.model_requests.specs.RequestOf.{request_of}
use Rattle.model_requests.specs.Requests.{adds_user}
use Rattle.model.specs.declared.people_bodies.NewUser.{NewUser}
use Rattle.model_requests.specs.declared.route.Route.TheVariants.{AddUser}
use Rattle.api_edit.specs.inner.Edits.{Asks}
use Rattle.api_edit.proofs.Asked.{asks_user, has_secret}
use Rattle.api_edit.proofs.bodies.user_in.Goals as goal

pub returns-clause-asks : goal.returns-clause-asks
returns-clause-asks c =
    let body = c.args.body.now in
    subst (λ r. Asks adds_user (request_of AddUser body) r) (sym c.form_of.ensures) (asks_user body c.new_user.result c.new_user.ensures.gives)

pub returns-clause-secret : goal.returns-clause-secret
returns-clause-secret c = subst (λ r. IfOk r (λ (user : NewUser). IsTrue (is_secret user.secret))) (sym c.form_of.ensures) (has_secret c.new_user.result c.new_user.ensures.secret)
