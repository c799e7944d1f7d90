-- The step of the world: the replies that are made, and what becomes of the world.
-- Source: Salesforce, REST API, for the requests on records. Those of administrators, and the step, are this product's own.
use Rattle.std.specs.Prelude.{ℕ}
use Rattle.model.specs.declared.reply.Reply.{Reply}
use Rattle.model.specs.Step.{Message, step_by}
use Rattle.model.specs.World.{World}
use Rattle.model_requests.specs.Answered.{answered}

-- what a message is answered at this moment, and the world after it
unfoldable pub step : World → Message → ℕ → Reply × World
step = step_by answered
