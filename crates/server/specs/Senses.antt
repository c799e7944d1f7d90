-- In which sense tables stand for a world: with the rows of every organisation, or of all but some, whose rows may be anything.
use Rattle.std.specs.Prelude.{◌≡◌, ◌<◌, ◌^◌, ℕ, Bool, false, length, Option, Some, None}
use Rattle.store_kv.specs.Tables.{Tables}
use Rattle.model.specs.World.{World, tenant_at}
use Rattle.store_abstraction.specs.Local.{StandsFor}
use Rattle.store_abstraction.specs.Stands.{Stands}

pub data Sense : Type 0 where
  of_all : Sense
  -- of all but the organisations with these numbers, which are apart: their rows may be damaged
  all_but : (ℕ → Bool) → Sense

-- the rows of each organisation that isn't apart stand for its tenant, or for none
pub record StandsBut (apart : ℕ → Bool) (m : Tables) (w : World) : Type 0 where
  pub few : length w < 2 ^ 32
  pub each : (n : ℕ) → n < 2 ^ 32 → apart n ≡ false → StandsFor n m (tenant_at w n)

abbrev pub StandsAs : Sense → Tables → World → Type 0
StandsAs of_all m w = Stands m w
StandsAs (all_but apart) m w = StandsBut apart m w

-- whether the organisation that a message names is apart
abbrev pub is_apart : Sense → (named : Option ℕ) → Bool
is_apart of_all named = false
is_apart (all_but apart) None = false
is_apart (all_but apart) (Some n) = apart n
