-- How far rows were written, and what came of records that were offered.
use Rattle.std.specs.Prelude.{◌≡◌, ℕ, ◌+◌, ◌<◌, List, ◌++◌, length, Result, Ok, Err}
use Rattle.std.specs.List.{flat_map}
use Rattle.store_rows.specs.declared.fail.StoreFail.TheVariants.{Damaged, Keeper, Memory}
use Rattle.model.specs.declared.record.Record.{Record}
use Rattle.query_exec.specs.declared.fail.ExecFail.{ExecFail}
use Rattle.query_exec.specs.declared.fail.ExecFail.TheVariants.{Store, TooLarge}
use Rattle.query_exec.specs.declared.offers.Progress.{Progress}
use Rattle.query_exec.specs.Windows.{in_window}

-- a row's bytes were appended, and there is still so much room, or there is none for them
abbrev pub Appends : (bytes : List ℕ) → (room : ℕ) → (old new : List ℕ) → Result ℕ ExecFail → Type 0
Appends bytes room old new (Ok left) = (new ≡ old ++ bytes) × (left + length bytes ≡ room)
Appends bytes room old new (Err TooLarge) = room < length bytes
Appends bytes room old new (Err (Store Damaged)) = ⊥
Appends bytes room old new (Err (Store Keeper)) = ⊥
Appends bytes room old new (Err (Store Memory)) = Unit {0}

-- a row that was admitted was written, or there is no room for it
abbrev pub Written : (bytes : List ℕ) → (from to : Progress) → (old new : List ℕ) → Result (Unit {0}) ExecFail → Type 0
Written bytes from to old new (Ok x) =
    (to.window ≡ from.window) × (new ≡ old ++ bytes) × (to.room + length bytes ≡ from.room) × (to.count ≡ from.count + 1)
Written bytes from to old new (Err TooLarge) = from.room < length bytes
Written bytes from to old new (Err (Store Damaged)) = ⊥
Written bytes from to old new (Err (Store Keeper)) = Unit {0}
Written bytes from to old new (Err (Store Memory)) = Unit {0}

module _ (row : Record → List ℕ) where
  -- of the rows that were offered these were written; with those that are still to be taken they are all that were to be
  pub record WritesTaken (from to : Progress) (old new : List ℕ) (offered : List Record) : Type 0 where
    pub written : List Record
    pub appended : new ≡ old ++ flat_map row written
    pub counted : to.count ≡ from.count + length written
    pub fits : to.room + length (flat_map row written) ≡ from.room
    pub rest : (rest : List Record) → written ++ in_window to.window rest ≡ in_window from.window (offered ++ rest)

  -- there is no room for the rows among those that were offered, whatever follows them
  abbrev pub Overflows : (from : Progress) → (offered : List Record) → Type 0
  Overflows from offered = (rest : List Record) → from.room < length (flat_map row (in_window from.window (offered ++ rest)))

  abbrev pub Offered : (from to : Progress) → (old new : List ℕ) → (offered : List Record) → Result (Unit {0}) ExecFail → Type 0
  Offered from to old new offered (Ok x) = WritesTaken from to old new offered
  Offered from to old new offered (Err TooLarge) = Overflows from offered
  Offered from to old new offered (Err (Store Damaged)) = ⊥
  Offered from to old new offered (Err (Store Keeper)) = Unit {0}
  Offered from to old new offered (Err (Store Memory)) = Unit {0}
