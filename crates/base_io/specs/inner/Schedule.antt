-- The calls of an object in memory, as its private part sees them.
use Rattle.std.specs.Prelude.{ℕ, List}

-- how many calls were made, and the numbers of those that fail
pub record Schedule : Type 0 where
  pub made : ℕ
  pub failing : List ℕ
