-- What a user's message is answered.
use Rattle.std.proofs.Common.{◌≡◌, ℕ, Option, ap, ◌∙◌}
use Rattle.model.specs.declared.caller.Caller.{Caller}
use Rattle.model.specs.declared.refusal.Refusal.TheVariants as refusal
use Rattle.model_requests.specs.Answered.{answered}
use Rattle.model.specs.Cases.{in_case}
use Rattle.model.specs.Callers.{IsUser}
use Rattle.model_requests.specs.RequestOf.{answer_to}
use Rattle.model.specs.Step.{Message, in_org, in_tenant, refused}
use Rattle.model.specs.Tenant.{Tenant, User}
use Rattle.model.specs.World.{World, with_tenant}
use Rattle.model.specs.Asker.{asking}

pub answered_in : (w : World) (m : Message) (now : ℕ) (c : Caller) (t : Tenant) (u : User) → IsUser w c t u
    → in_org w c.org (answered c m now) ≡ ((answer_to c.org (asking t now u) m).0, with_tenant w c.org (answer_to c.org (asking t now u) m).1)
answered_in w m now c t u is =
    ap (λ (o : Option Tenant). in_tenant w c.org (answered c m now) o) is.tenant
    ∙ ap (λ (o : Option User). let r = in_case o (refused refusal.InvalidSession t) (λ v. answer_to c.org (asking t now v) m) in (r.0, with_tenant w c.org r.1)) is.user
