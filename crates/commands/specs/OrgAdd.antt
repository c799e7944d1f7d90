-- What `org-add` prints, and the world that it leaves.
use Rattle.std.specs.Prelude.{ℕ, ◌+◌, List, length, Option, Some, None}
use Rattle.std.specs.Str.{chars}
use Rattle.sha2.specs.Sha256.{sha256}
use Rattle.model.specs.declared.refusal.Refusal.{Refusal}
use Rattle.model.specs.Organisations.{first_user, org_refusal, with_org}
use Rattle.model.specs.World.{World}
use Rattle.commands.specs.Printed.{PrintoutText, refused, user_line, user_printout}

-- the line of a new organisation: its id, a blank, and its administrator's id
abbrev pub org_line : ℕ → List ℕ
org_line n = user_line (n, first_user)

abbrev pub added_printout : ℕ → PrintoutText
added_printout n = user_printout (n, first_user)

abbrev pub printout_by : Option Refusal → ℕ → PrintoutText
printout_by None n = added_printout n
printout_by (Some r) n = refused r

-- what is printed: the name and the secret are in UTF-8
abbrev pub org_printed : World → List ℕ → List ℕ → PrintoutText
org_printed w name secret = printout_by (org_refusal w (chars name) secret) (length w + 1)

abbrev pub world_by : Option Refusal → World → World → World
world_by None w more = more
world_by (Some r) w more = w

-- the world afterwards: one more organisation at its end, unless it is refused
abbrev pub org_world : World → List ℕ → List ℕ → World
org_world w name secret = world_by (org_refusal w (chars name) secret) w (with_org w (chars name) (sha256 secret))

-- both: what the operation returns, and the world that it leaves
abbrev pub org_does : List ℕ → List ℕ → World → PrintoutText × World
org_does name secret w = (org_printed w name secret, org_world w name secret)
