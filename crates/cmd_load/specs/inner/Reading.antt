-- A row that is read.
use Rattle.std.specs.Prelude.{◌≡◌, ℕ, ◌+◌, List, [], ◌∷◌, Option, Some, None}
use Rattle.cmd_load.specs.Batches.{AskedInTurn, AskedRow}
use Rattle.cmd_load.specs.Inputs.{Unread}

-- one was left, or none
abbrev pub IsNextRow : (old new : Unread) → (before after : Option (List ℕ)) → Option AskedRow → Type 0
IsNextRow old new before after None = (old.left ≡ []) × (new ≡ old) × (after ≡ before)
IsNextRow old new before after (Some row) =
    (old.left ≡ row.cells ∷ new.left) × (new.number ≡ old.number + 1) × (row.number ≡ old.number) × AskedInTurn before after old.number (row ∷ [])
