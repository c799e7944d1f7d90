-- What a change within a transaction does.
use Rattle.std.proofs.Common.{◌≡◌, inl, inr, ℕ, List, false, Result, Ok, Err, OnOk, is_ok, refl}
use Rattle.sqlite.specs.declared.error.Error.{Error}
use Rattle.sqlite.specs.Order.{Row}
use Rattle.sqlite.specs.State.{State, ExecutesIn, ExecutesInside}
use Rattle.store_kv.specs.Tables.{Tables}
use Rattle.store_sqlite.specs.Kept.{no_schema, tables_in}
use Rattle.store_sqlite.specs.inner.Steps.{IsGood, IsPending, Undoes, GoesOn}
use Rattle.sqlite.specs.Listing.{understood}
use Rattle.store_sqlite.proofs.Get.{not_known}

-- a statement within it is done, and the change stays pending
pub pends : (sql : List ℕ) (params : Row) (old new : State) (m : Tables) (count : ℕ) → IsGood new × (tables_in new.now.trees ≡ m) → ExecutesInside 0 sql params old new (Ok count) → IsPending old new m
pends sql params old new m count did h = record {
  good = did.0;
  made = did.1;
  was_open = h.1.was_open;
  inside = rw h.1.mode refl;
  committed = h.1.committed_is;
}

pub fails_inside : (sql : List ℕ) (params : Row) (old new : State) (e : Error) → ExecutesInside 0 sql params old new (Err e) → Undoes old new
fails_inside sql params old new e (inl h) = elim h.1 [ inl same ↦ record { was_open = λ _. same.0.was_open; committed = λ _. same.0.committed_is } | inr back ↦ record { was_open = back.was_open; committed = λ shown. (back.undone shown).1 } ]
fails_inside sql params old new e (inr h) = record { was_open = λ _. h.2.0.was_open; committed = λ _. h.2.0.committed_is }

-- the statement names the table, so the table is there
pub goes_on : (sql : List ℕ) (unknown : is_ok (understood no_schema sql) ≡ false) (params : Row) (old new : State) (r : Result ℕ Error) → ExecutesInside 0 sql params old new r → OnOk r (GoesOn old new)
unfolding ExecutesIn
goes_on sql unknown params old new (Ok count) h = record {
  inside = rw h.1.mode refl;
  was_open = h.1.was_open;
  committed = h.1.committed_is;
  tabled = λ none. not_known old sql params h.0.0 unknown none h.0.1;
}
goes_on sql unknown params old new (Err e) h = tt
