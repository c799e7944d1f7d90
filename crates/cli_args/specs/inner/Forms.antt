-- How the table of forms agrees with the commands of `run`.
use Rattle.std.specs.Prelude.{◌≡◌, ◌≢◌, ◌↔◌, ℕ, IsTrue, List, [], ◌∷◌, None, length}
use Rattle.std.specs.Option.{is_some}
use Rattle.commands.specs.Commands.{command_of, count_in, records_in}
use Rattle.cli_args.specs.declared.form.Operands.{Operands}
use Rattle.cli_args.specs.declared.form.Operands.TheVariants.{Words, Count, Records}

-- words of this name are a command exactly if `count` others follow it
abbrev pub TakesWords : List ℕ → ℕ → Type 0
TakesWords name count = (others : List (List ℕ)) → (command_of (name ∷ others) ≡ None) ↔ (length others ≢ count)

-- one word, which is a count of connections, or none
abbrev pub IsCountOrNone : List (List ℕ) → Type 0
IsCountOrNone [] = Unit {0}
IsCountOrNone (word ∷ []) = IsTrue (is_some (count_in word))
IsCountOrNone _ = ⊥

-- words of this name are a command exactly if nothing follows it, or a count of connections alone
abbrev pub TakesCount : List ℕ → Type 0
TakesCount name = (others : List (List ℕ)) → (command_of (name ∷ others) ≢ None) ↔ IsCountOrNone others

-- one word, which is a number of records
abbrev pub IsRecordCount : List (List ℕ) → Type 0
IsRecordCount (word ∷ []) = IsTrue (is_some (records_in word))
IsRecordCount _ = ⊥

-- words of this name are a command exactly if a number of records alone follows it
abbrev pub TakesRecords : List ℕ → Type 0
TakesRecords name = (others : List (List ℕ)) → (command_of (name ∷ others) ≢ None) ↔ IsRecordCount others

-- what follows the name of a command
abbrev pub Takes : List ℕ → Operands → Type 0
Takes name (Words count) = TakesWords name count
Takes name Count = TakesCount name
Takes name Records = TakesRecords name

-- no command has this name
abbrev pub IsUnknown : List ℕ → Type 0
IsUnknown name = (others : List (List ℕ)) → command_of (name ∷ others) ≡ None
