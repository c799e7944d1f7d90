-- What the failures of the layers below are to an edit and to an opening.
use Rattle.std.specs.Prelude.{◌≡◌, Bool, true, false, Result, Ok, Err}
use Rattle.store_rows.specs.Fails as keys
use Rattle.store_kv.specs.declared.keeper.KeepFail.{KeepFail}
use Rattle.store_rows.specs.declared.fail.StoreFail.{StoreFail}
use Rattle.store_rows.specs.declared.fail.StoreFail.TheVariants.{Keeper}
use Rattle.store_abstraction.specs.declared.fail.EditFail.{EditFail}
use Rattle.store_abstraction.specs.declared.fail.EditFail.TheVariants as edit
use Rattle.store_abstraction.specs.declared.fail.OpenFail.{OpenFail}
use Rattle.store_abstraction.specs.declared.fail.OpenFail.TheVariants as opening

abbrev pub of_keeper : KeepFail → StoreFail
of_keeper = keys.of_keeper

abbrev pub of_store : StoreFail → EditFail
of_store fail = edit.Store fail

abbrev pub of_store_opening : StoreFail → OpenFail
of_store_opening fail = opening.Store fail

-- an edit is refused
abbrev pub IsRefusal : EditFail → Type 0
IsRefusal (edit.Refused r) = Unit {0}
IsRefusal (edit.Store e) = ⊥

-- an edit failed by the keeper
abbrev pub KeeperFailsEdit : {X : Type 0} → Result X EditFail → Type 0
KeeperFailsEdit (Ok x) = ⊥
KeeperFailsEdit (Err (edit.Refused r)) = ⊥
KeeperFailsEdit (Err (edit.Store e)) = e ≡ Keeper

-- an edit was judged: it was done or refused, so every call of the keeper returned `Ok`
abbrev pub is_judged : {X : Type 0} → Result X EditFail → Bool
is_judged (Ok x) = true
is_judged (Err (edit.Refused r)) = true
is_judged (Err (edit.Store e)) = false

-- an opening saw the version, known or not, so every call of the keeper returned `Ok`
abbrev pub sees_version : {X : Type 0} → Result X OpenFail → Bool
sees_version (Ok x) = true
sees_version (Err opening.UnknownVersion) = true
sees_version (Err (opening.Store e)) = false

-- an opening failed by the keeper
abbrev pub KeeperFailsOpening : {X : Type 0} → Result X OpenFail → Type 0
KeeperFailsOpening (Ok x) = ⊥
KeeperFailsOpening (Err opening.UnknownVersion) = ⊥
KeeperFailsOpening (Err (opening.Store e)) = e ≡ Keeper
