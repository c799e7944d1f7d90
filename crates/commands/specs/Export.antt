-- What `export` prints, and the world that it leaves.
use Rattle.std.specs.Prelude.{◌≡◌, ℕ, List, Result, Ok, Err}
use Rattle.cmd_auth.specs.Asking.{world_does}
use Rattle.cmd_export.specs.Exports.{exported}
use Rattle.store_rows.specs.declared.fail.StoreFail.{StoreFail}
use Rattle.store_rows.specs.declared.fail.StoreFail.TheVariants.{Memory}
use Rattle.model.specs.declared.refusal.Refusal.{Refusal}
use Rattle.model.specs.declared.refusal.Refusal.TheVariants.{InvalidSession}
use Rattle.model.specs.Callers.{named_by}
use Rattle.model.specs.World.{World}
use Rattle.store_abstraction.specs.declared.judged.Judged.{Judged}
use Rattle.store_abstraction.specs.declared.judged.Judged.TheVariants.{Changed, Same}
use Rattle.commands.specs.Printed.{PrintoutText, refused}

-- lines, or the line of a refusal
abbrev pub lines_printout : Result (List ℕ) Refusal → PrintoutText
lines_printout (Ok text) = record { text = text; status = 0 }
lines_printout (Err r) = refused r

-- what the query of a user of an organisation comes to at this moment: a step of the change of a field's type is made before it, if
-- one is under way
abbrev pub export_asked : (org user secret query : List ℕ) → (now : ℕ) → World → Result (List ℕ) Refusal × World
export_asked org user secret query now w = world_does (exported query) (Err InvalidSession) now (named_by org user secret) w

abbrev pub export_does : (org user secret query : List ℕ) → (now : ℕ) → World → PrintoutText × World
export_does org user secret query now w =
    (lines_printout (export_asked org user secret query now w).0, (export_asked org user secret query now w).1)

-- what is judged, as a printout, unless there is no memory for it
abbrev pub IsPrintoutOf : Result (Judged (Result (List ℕ) Refusal)) StoreFail → Result (Judged PrintoutText) StoreFail → Type 0
IsPrintoutOf (Ok (Same x)) (Ok (Same p)) = p ≡ lines_printout x
IsPrintoutOf (Ok (Same x)) (Ok (Changed p)) = ⊥
IsPrintoutOf (Ok (Same x)) (Err e) = e ≡ Memory
IsPrintoutOf (Ok (Changed x)) (Ok (Same p)) = ⊥
IsPrintoutOf (Ok (Changed x)) (Ok (Changed p)) = p ≡ lines_printout x
IsPrintoutOf (Ok (Changed x)) (Err e) = e ≡ Memory
IsPrintoutOf (Err e) printed = printed ≡ Err e
