-- What `user-set` prints, and the world that it leaves.
use Rattle.std.specs.Prelude.{ℕ, List, Result, Ok, Err}
use Rattle.std.specs.Str.{chars}
use Rattle.cmd_user_set.specs.UserSet.{user_set_verdict}
use Rattle.model.specs.declared.refusal.Refusal.{Refusal}
use Rattle.model.specs.World.{World}
use Rattle.commands.specs.Printed.{PrintoutText, refused, user_printout}

-- the organisation's id and the user's, and the world with the new secret; or why there is none, and the world as it was
abbrev pub set_or_refused : World → Result ((ℕ × List ℕ) × World) Refusal → PrintoutText × World
set_or_refused w (Ok x) = (user_printout x.0, x.1)
set_or_refused w (Err r) = (refused r, w)

-- both: what the operation returns, and the world that it leaves. The words are in UTF-8
abbrev pub user_set_does : (org user secret : List ℕ) → World → PrintoutText × World
user_set_does org user secret w = set_or_refused w (user_set_verdict (chars org) (chars user) (chars secret) w)
