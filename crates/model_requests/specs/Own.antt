-- A step of one organisation: what a message with a key comes to there.
use Rattle.std.specs.Prelude.{ℕ, Option, Some, None}
use Rattle.model.specs.declared.refusal.Refusal.TheVariants as refusal
use Rattle.model.specs.declared.reply.Reply.{Reply}
use Rattle.model.specs.Callers.{Named}
use Rattle.model.specs.Step.{Message, answer_in, refusal_reply}
use Rattle.model.specs.Tenant.{Tenant}
use Rattle.model_requests.specs.Answered.{answered}

-- what a message whose key names these comes to, where the organisation is this tenant or isn't there, and what becomes of it
abbrev pub own_step : Named → Message → (now : ℕ) → Option Tenant → Reply × Option Tenant
own_step n m now None = (refusal_reply refusal.InvalidSession, None)
own_step n m now (Some t) = ((answer_in answered n m now t).0, Some (answer_in answered n m now t).1)
