-- What requests lead to, where neither the input nor the clock is told: some world that requests make of the one before.
use Rattle.std.specs.Prelude.{◌≡◌, ◌⊎◌, ℕ, IsTrue, List, [], ◌∷◌}
use Rattle.store_kv.specs.State.{KeeperState}
use Rattle.store_kv.specs.Tables.{Tables}
use Rattle.model.specs.Step.{Message}
use Rattle.model.specs.World.{World}
use Rattle.store_abstraction.specs.Stands.{Stands}
use Rattle.model_requests.specs.Step.{step}

-- the world after these messages, each at its moment, one after the other
abbrev pub led_to : World → List (Message × ℕ) → World
led_to w [] = w
led_to w (q ∷ qs) = led_to (step w q.0 q.1).1 qs

-- a world that requests lead to
abbrev pub IsReached : World → World → Type 0
IsReached w end = (qs : List (Message × ℕ)) × (end ≡ led_to w qs)

-- the tables stand for a world that requests lead to
abbrev pub StandsReached : World → Tables → Type 0
StandsReached w m = (end : World) × IsReached w end × Stands m end

-- the keeper, whose tables stood for w
pub record Leads (w : World) (old new : KeeperState) : Type 0 where
  -- while it is trusted, its tables stand for a world that requests lead to
  pub tables : IsTrue new.trusted → new.tells × StandsReached w new.tables
  -- a crash leaves such tables, or what it might have left before
  pub crash : IsTrue new.is_clean → (m : Tables) → new.may_leave m → old.may_leave m ⊎ StandsReached w m

-- the same of a keeper that was trusted and told its tables, which stood for some world
abbrev pub LeadsFrom : KeeperState → KeeperState → Type 0
LeadsFrom old new = old.tells → IsTrue old.trusted → (w : World) → Stands old.tables w → Leads w old new
