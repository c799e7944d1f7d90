-- Exchanges: requests with what was answered, the world after each, and what they leave behind in a keeper.
use Rattle.std.specs.Prelude.{◌≡◌, ℕ, ◌+◌, ◌≤◌, Bool, true, IsTrue, List, [], ◌∷◌, Option}
use Rattle.base_value.specs.Causes.{up_to_last}
use Rattle.server_http.specs.Reply.{reply_to, store_failed, no_memory}
use Rattle.store_kv.specs.State.{KeeperState}
use Rattle.model.specs.Step.{Message, org_named}
use Rattle.model.specs.World.{World}
use Rattle.server.specs.Senses.{Sense, StandsAs, is_apart}
use Rattle.model_requests.specs.Step.{step}

-- how a request comes out
pub data Outcome : Type 0 where
  -- it was done, or refused, as the step of the world says
  done : Outcome
  -- the store failed: 503, and nothing is changed
  store : Outcome
  -- out of memory: 507, and nothing is changed
  memory : Outcome
  -- it names an organisation that is apart: these bytes, whatever they are, and no other organisation is changed
  apart : List ℕ → Outcome

-- a request that was answered
pub record Exchange : Type 0 where
  -- the world that it met
  pub world : World
  -- what was asked, and when
  pub message : Message
  pub now : ℕ
  -- whether the reply closes the connection
  pub close : Bool
  pub outcome : Outcome

abbrev pub reply_by : Outcome → Exchange → List ℕ
reply_by done x = reply_to x.message.method (step x.world x.message x.now).0.status (step x.world x.message x.now).0.body x.close
reply_by store x = reply_to x.message.method 503 store_failed x.close
reply_by memory x = reply_to x.message.method 507 no_memory x.close
reply_by (apart text) x = text

-- what was written for it
abbrev pub reply_in : Exchange → List ℕ
reply_in x = reply_by x.outcome x

-- the world of the request done whole
abbrev pub done_whole : Exchange → World
done_whole x = (step x.world x.message x.now).1

abbrev pub world_by : Outcome → Exchange → World
world_by done x = done_whole x
world_by store x = x.world
world_by memory x = x.world
world_by (apart text) x = x.world

-- the world after it
abbrev pub world_after : Exchange → World
world_after x = world_by x.outcome x

abbrev pub fault_of : Outcome → ℕ
fault_of done = 0
fault_of store = 1
fault_of memory = 0
fault_of (apart text) = 0

-- it came out as the step of the world says, or 503 or 507, unless it names an organisation that is apart
abbrev pub IsKnown : Sense → (named : Option ℕ) → Outcome → Type 0
IsKnown sense named done = Unit {0}
IsKnown sense named store = Unit {0}
IsKnown sense named memory = Unit {0}
IsKnown sense named (apart text) = is_apart sense named ≡ true

abbrev pub IsKnownIn : Sense → Exchange → Type 0
IsKnownIn sense x = IsKnown sense (org_named x.message) x.outcome

-- how many were answered 503
abbrev pub stores : List Exchange → ℕ
stores [] = 0
stores (x ∷ xs) = fault_of x.outcome + stores xs

-- the keeper after these requests, which led to the world `end`; while it is trusted, a crash leaves its tables and nothing
-- else (`Keeper.settled`)
pub record LeavesBehind (sense : Sense) (end : World) (xs : List Exchange) (old new : KeeperState) : Type 0 where
  -- its tables stand for the world after them
  pub tables : IsTrue new.trusted → new.tells × StandsAs sense new.tables end
  -- at most as many were answered 503 as its faults rose
  pub faults : up_to_last (old.faults + stores xs) ≤ new.faults
