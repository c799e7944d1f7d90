-- What a call comes to by its definition, unless memory is wanting.
use Rattle.std.specs.Prelude.{◌≡◌, ℕ, Option, Some, None, Result, Ok, Err}
use Rattle.store_kv.specs.Draft.{Held}
use Rattle.store_kv.specs.Memory.{InMemory}
use Rattle.store_rows.specs.declared.fail.StoreFail.TheVariants.{Memory}
use Rattle.model.specs.Paths.{Asked}
use Rattle.model.specs.declared.refusal.Refusal.{Refusal}
use Rattle.cmd_sandbox.specs.Making.{IsOwned}
use Rattle.store_abstraction.specs.declared.fail.EditFail.{EditFail}
use Rattle.store_abstraction.specs.declared.fail.EditFail.TheVariants.{Refused, Store}

-- it is done as it should be, or refused as it should be
abbrev pub Comes : {X Y : Type 0} → (X → Y → Type 0) → Result X Refusal → Result Y EditFail → Type 0
Comes Is (Ok x) (Ok y) = Is x y
Comes Is (Err why) (Err (Refused refusal)) = refusal ≡ why
Comes Is (Ok x) (Err (Refused refusal)) = ⊥
Comes Is (Err why) (Ok y) = ⊥
Comes Is due (Err (Store fail)) = fail ≡ Memory

-- the organisation is what it should be, in these tables
abbrev pub Makes : (now : ℕ) → (after : Held InMemory) → Result Asked Refusal → Result (Unit {0}) EditFail → Type 0
Makes now after made result = Comes (λ a done. IsOwned now after a) made result

-- what is returned is what it should be
abbrev pub Returns : {X : Type 0} → Result X Refusal → Result X EditFail → Type 0
Returns due result = Comes (λ x y. y ≡ x) due result

-- what a verdict's answer comes to
abbrev pub Passes : Option Refusal → Result (Unit {0}) EditFail → Type 0
Passes None (Ok done) = Unit {0}
Passes (Some why) (Err (Refused refusal)) = refusal ≡ why
Passes None (Err e) = ⊥
Passes (Some why) (Ok done) = ⊥
Passes (Some why) (Err (Store fail)) = ⊥
