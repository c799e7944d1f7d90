-- A keeper that fell in the opening of the tables.
use Rattle.std.proofs.Common.{◌≡◌, true, Err, refl, sym, subst}
use Rattle.store_kv.specs.State.{IsSettled, KeeperState}
use Rattle.store_kv.specs.Tables.{Tables}
use Rattle.store_rows.specs.declared.fail.StoreFail.TheVariants as store
use Rattle.model.specs.World.{World}
use Rattle.store_abstraction.specs.Stands.{Stands}
use Rattle.store_abstraction.specs.declared.fail.OpenFail.{OpenFail}
use Rattle.store_abstraction.specs.declared.fail.OpenFail.TheVariants as opening
use Rattle.commands.specs.Commands.{is_opening}
use Rattle.platform.specs.Falling.{FallsOpening}
use Rattle.platform.specs.Run.{status_in}
use Rattle.commands.specs.Stops.{of_opening}
use Rattle.commands.specs.declared.stop.Stop.{Stop}

opens : (f : OpenFail) → is_opening (status_in (Err (of_opening f))) ≡ true
opens opening.UnknownVersion = refl
opens (opening.Store store.Damaged) = refl
opens (opening.Store store.Keeper) = refl
opens (opening.Store store.Memory) = refl

-- a crash leaves no more than before it
pub fell_opening : (w : World) (old new : KeeperState) (f : OpenFail) (r : Stop) → r ≡ of_opening f → IsSettled old → Stands old.tables w → ((t : Tables) → new.may_leave t → old.may_leave t) → FallsOpening w new (status_in (Err r))
fell_opening w old new f r is settled s less = record {
  opening = subst (λ (x : Stop). is_opening (status_in (Err x)) ≡ true) (sym is) (opens f);
  crash = λ t left. subst (λ (u : Tables). Stands u w) (sym (settled.only t (less t left))) s;
}
