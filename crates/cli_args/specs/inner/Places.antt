-- Where the secret of a command is among its words.
use Rattle.std.specs.Prelude.{◌≡◌, ◌<◌, ◌↔◌, ℕ, List, ◌∷◌, Option, None, Some, IfSome, length, slice_get, slice_set, take}
use Rattle.std.specs.Option.{option_map}
use Rattle.commands.specs.Commands.{Command, command_of}
use Rattle.cli_args.specs.Lines.{IsCommandLine}
use Rattle.cli_args.specs.Secrets.{line_command, secret_of, with_secret}

-- a command has no secret, if there is one
abbrev pub HasNoSecret : Option Command → Type 0
HasNoSecret command = IfSome command (λ c. None ≡ secret_of c)

-- The word at this place behind the name is the secret of a command of this name, and with another word in its place they are that command with
-- another secret. Without a place no command of this name has a secret.
abbrev pub HasSecret : List ℕ → Option ℕ → Type 0
HasSecret name None = (others : List (List ℕ)) → HasNoSecret (command_of (name ∷ others))
HasSecret name (Some place) = (others : List (List ℕ)) →
    IfSome (command_of (name ∷ others)) (λ c. slice_get others place ≡ secret_of c)
    × ((secret : List ℕ) → command_of (name ∷ slice_set others place secret) ≡ option_map (with_secret secret) (command_of (name ∷ others)))

-- the same of a command line
pub record IsPlaceOfSecret (words : List (List ℕ)) (place : ℕ) : Type 0 where
  pub within : place < length words
  pub word : IfSome (line_command words) (λ c. slice_get words place ≡ secret_of c)
  pub command : (secret : List ℕ) → line_command (slice_set words place secret) ≡ option_map (with_secret secret) (line_command words)
  pub line : (secret : List ℕ) → IsCommandLine (slice_set words place secret) ↔ IsCommandLine words
  pub before : (secret : List ℕ) → take 2 (slice_set words place secret) ≡ take 2 words

abbrev pub IsSecretPlace : List (List ℕ) → Option ℕ → Type 0
IsSecretPlace words None = HasNoSecret (line_command words)
IsSecretPlace words (Some place) = IsPlaceOfSecret words place
