-- What answers a caller's message: the verdict on its request, once what is done before each request is done.
-- Source: this product's own.
use Rattle.std.specs.Prelude.{pos}
use Rattle.model.specs.declared.refusal.Refusal.TheVariants.{InvalidSession}
use Rattle.model.specs.Cases.{in_case}
use Rattle.model.specs.Step.{Answering, refused}
use Rattle.model.specs.World.{user_at}
use Rattle.model_requests.specs.RequestOf.{answer_to}

-- what a caller's message is answered at this moment, and what becomes of the organisation
abbrev pub answered : Answering
answered c m now t =
    in_case (user_at t.users c.user) (refused InvalidSession t) (λ u.
    answer_to c.org (record { tenant = t; user = u; now = pos now }) m)
