-- The printout of a batch, by its lines.
use Rattle.std.proofs.Common.{◌≡◌, ◌∙◌, List, ℕ, true, Option, Result, Ok, Err, refl, sym, ap, subst}
use Rattle.std.specs.Prelude.{IsErrOf, is_ok}
use Rattle.std.proofs.lemmas.Bool.{true≢false as true_isnt_false}
use Rattle.cmd_load.specs.Batches.{AskedRow, rows_loaded}
use Rattle.cmd_load_plan.specs.declared.plan.LoadPlan.{LoadPlan}
use Rattle.store_kv.specs.State.{KeeperCause, KeeperState, StaysAfter}
use Rattle.store_kv.specs.Tables.{Tables}
use Rattle.store_rows.specs.declared.fail.StoreFail.{StoreFail}
use Rattle.store_rows.specs.declared.fail.StoreFail.TheVariants as store
use Rattle.model.specs.Callers.{Named}
use Rattle.model.specs.World.{World}
use Rattle.store_abstraction.specs.Calls as ends
use Rattle.store_abstraction.specs.Calls.{HasFallen, ended}
use Rattle.store_abstraction.specs.declared.judged.Judged.{Judged}
use Rattle.store_abstraction.specs.declared.judged.Judged.TheVariants.{Changed, Same}
use Rattle.store_abstraction.specs.Operations.{IsChange, Judges}
use Rattle.store_abstraction.specs.Stands.{Stands}
use Rattle.commands.specs.Load.{batch_does}
use Rattle.commands.specs.Loading.{printout_judged, printout_of_lines}
use Rattle.commands.specs.Printed.{PrintoutText}

abbrev pub Lines : Type 0
Lines = Result (Judged (List ℕ)) StoreFail

printout_change : (r : Lines) → IsChange (printout_judged r) → IsChange r
printout_change (Ok (Same x)) h = h
printout_change (Ok (Changed x)) h = h
printout_change (Err e) h = h

pub printout_judges : (named : Option Named) (p : LoadPlan) (rows : List AskedRow) (w : World) (after : Tables) (r : Lines) → Judges Stands (rows_loaded named p rows) w after r → Judges Stands (batch_does named p rows) w after (printout_judged r)
printout_judges named p rows w after (Ok (Same x)) h = (ap printout_of_lines h.0, h.1)
printout_judges named p rows w after (Ok (Changed x)) h = (ap printout_of_lines h.0, h.1)
printout_judges named p rows w after (Err e) h = h

printout_done : (r : Lines) → is_ok (printout_judged r) ≡ true → ends.is_done (ended r) ≡ true
printout_done (Ok x) ok = refl
printout_done (Err e) ok = absurd (true_isnt_false (sym ok))

printout_fell : (r : Lines) → IsErrOf (printout_judged r) store.Keeper → HasFallen (ended r)
printout_fell (Ok (Same x)) h = absurd cc
printout_fell (Ok (Changed x)) h = absurd cc
printout_fell (Err store.Keeper) h = tt
printout_fell (Err store.Memory) h = absurd cc
printout_fell (Err store.Damaged) h = absurd cc

module _ (old new : KeeperState) (r : Lines) (p : Result (Judged PrintoutText) StoreFail) (is : p ≡ printout_judged r) where
  pub printout_changes : IsChange p → IsChange r
  printout_changes h = printout_change r (subst IsChange is h)

  pub printout_stays : StaysAfter (ends.is_done (ended r)) old new → StaysAfter (is_ok p) old new
  printout_stays h trusted ok clean = h trusted (printout_done r (ap is_ok (sym is) ∙ ok)) clean

  pub printout_cause : KeeperCause old new (HasFallen (ended r)) → KeeperCause old new (IsErrOf p store.Keeper)
  printout_cause h = record { rose = λ e. h.rose (printout_fell r (sym is ∙ e)); never = λ sure e. h.never sure (printout_fell r (sym is ∙ e)) }
