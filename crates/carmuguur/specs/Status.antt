-- The status of a process that has words to run.
use Rattle.std.specs.Prelude.{◌≡◌, ◌⊎◌, ℕ, Option, None}
use Rattle.commands.specs.Commands.{Command}

-- 64 is the status of words that are no command, unless memory ran out before they were read
pub record IsStatusOf (words : Option Command) (status : ℕ) : Type 0 where
  pub no_command : status ≡ 64 → words ≡ None
  pub none : words ≡ None → (status ≡ 64) ⊎ (status ≡ 71)
