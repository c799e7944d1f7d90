-- Printouts: a text, and the status that tells of it.
use Rattle.std.specs.Prelude.{ℕ, List, ◌++◌, codes}
use Rattle.base_value.specs.Id.{print18}
use Rattle.model.specs.declared.refusal.Refusal.{Refusal}
use Rattle.model.specs.Messages.{message_of}
use Rattle.model.specs.Refusals.{code_of}
use Rattle.model.specs.World.{org_id}

-- status 0 where the command was done, 65 where it was refused
pub record PrintoutText : Type 0 where
  pub text : List ℕ
  pub status : ℕ

-- the line of a refusal
abbrev pub refused_line : List ℕ → List ℕ → List ℕ
refused_line code message = codes "refused: " ++ (code ++ (codes ": " ++ (message ++ codes "\n")))

-- what is printed where a command is refused
abbrev pub refused : Refusal → PrintoutText
refused r = record { text = refused_line (code_of r) (message_of r); status = 65 }

-- the line of a user of the organisation with this number: the organisation's id, a blank, and the user's id
abbrev pub user_line : ℕ × List ℕ → List ℕ
user_line ids = print18 (org_id ids.0) ++ (codes " " ++ (print18 ids.1 ++ codes "\n"))

-- what is printed where a command is done for a user
abbrev pub user_printout : ℕ × List ℕ → PrintoutText
user_printout ids = record { text = user_line ids; status = 0 }
