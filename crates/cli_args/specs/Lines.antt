-- What is a command line.
use Rattle.std.specs.Prelude.{◌≡◌, ◌≢◌, ◌⊎◌, ◌<◌, ◌^◌, ℕ, List, ◌∷◌, None, length, slice_index}
use Rattle.std.specs.Str.{byte}
use Rattle.std.specs.Str.Parse.{IsNumeral, digits_value}
use Rattle.commands.specs.Commands.{command_of}

-- digits that write a number below 65536, without a leading zero
pub record IsPort (word : List ℕ) : Type 0 where
  pub numeral : IsNumeral 10 word
  pub below : digits_value 10 word < 2 ^ 16
  pub first : (length word ≡ 1) ⊎ (slice_index word 0 ≢ byte "0")

-- behind PATH, which may be any, PORT is a port, and the rest is a command of `run`
abbrev pub IsCommandLine : List (List ℕ) → Type 0
IsCommandLine (path ∷ port ∷ words) = IsPort port × (command_of words ≢ None)
IsCommandLine _ = ⊥
