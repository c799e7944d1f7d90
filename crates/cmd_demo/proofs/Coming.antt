-- What comes to what it should, one after the other.
use Rattle.std.proofs.Common.{◌≡◌, ℕ, IsTrue, Option, Some, None, Result, Ok, Err, refl, sym, subst}
use Rattle.std.specs.Prelude.{IsErr}
use Rattle.std.specs.Result.{IsErrAnd}
use Rattle.std.specs.Str.{chars}
use Rattle.store_kv.specs.Draft.{Held}
use Rattle.store_kv.specs.Memory.{InMemory}
use Rattle.store_rows.specs.declared.fail.StoreFail.{StoreFail}
use Rattle.store_rows.specs.declared.fail.StoreFail.TheVariants.{Memory}
use Rattle.model.specs.Cases.{in_case}
use Rattle.model.specs.Paths.{Asked}
use Rattle.model.specs.Verdict.{Verdict}
use Rattle.model.specs.declared.refusal.Refusal.{Refusal}
use Rattle.cmd_sandbox.specs.Making.{StepsOwn}
use Rattle.cmd_sandbox.specs.Own.{past}
use Rattle.store_abstraction.specs.declared.fail.EditFail.{EditFail}
use Rattle.store_abstraction.specs.declared.fail.EditFail.TheVariants.{Refused, Store}
use Rattle.model_invariant.specs.Fit.{is_fit_field, is_fit_object}
use Rattle.cmd_demo.specs.Demos.{and_then, comes_to, new_amount, new_item}
use Rattle.cmd_demo.specs.inner.Coming.{Comes, Makes, Passes}

-- memory is wanting, whatever is due
pub came_out : {X Y : Type 0} (Is : X → Y → Type 0) (r : Result X Refusal) (fail : StoreFail) → fail ≡ Memory → Comes Is r (Err (Store fail))
came_out Is (Ok x) fail h = h
came_out Is (Err why) fail h = h

module _ {X Y : Type 0} (Is : X → Y → Type 0) where
  pub memory_of : (r : Result X Refusal) (fail : StoreFail) → Comes Is r (Err (Store fail)) → fail ≡ Memory
  memory_of (Ok x) fail h = h
  memory_of (Err why) fail h = h

  -- it was done: so it should be
  pub come_ok : (r : Result X Refusal) (y : Y) → Comes Is r (Ok y) → (x : X) × (r ≡ Ok x) × Is x y
  come_ok (Ok x) y h = (x, refl, h)
  come_ok (Err why) y h = absurd h

  -- it stopped, or was refused: so it is with what follows it
  pub come_err : {V W : Type 0} (Then : V → W → Type 0) (r : Result X Refusal) (next : X → Result V Refusal) (e : EditFail) → Comes Is r (Err e) → Comes Then (and_then r next) (Err e)
  come_err Then (Ok x) next (Refused why) h = absurd h
  come_err Then (Err because) next (Refused why) h = h
  come_err Then (Ok x) next (Store fail) h = came_out Then (next x) fail (memory_of (Ok x) fail h)
  come_err Then (Err because) next (Store fail) h = memory_of (Err because) fail h

  -- it was done, and then what follows it
  pub come_then : {V W : Type 0} (Then : V → W → Type 0) (r : Result X Refusal) (next : X → Result V Refusal) (x : X) (s : Result W EditFail) → r ≡ Ok x → Comes Then (next x) s → Comes Then (and_then r next) s
  come_then Then r next x s is h = subst (λ (z : Result X Refusal). Comes Then (and_then z next) s) (sym is) h

-- what is handed on that the work on the tables stopped
pub stopped_on : {X Y : Type 0} (Is : X → Y → Type 0) (due : Result X Refusal) (out : Result Y EditFail) (fail : StoreFail) → fail ≡ Memory → IsErr out × IsErrAnd out (λ x. x ≡ Store fail) → Comes Is due out
stopped_on Is due (Ok y) fail wanting h = absurd h.1
stopped_on Is due (Err e) fail wanting h = subst (λ (x : EditFail). Comes Is due (Err x)) (sym h.1) (came_out Is due fail wanting)

-- what is handed on that a call came to, with what would follow it
pub handed_on : {X Y V W : Type 0} (Is : X → Y → Type 0) (Then : V → W → Type 0) (r : Result X Refusal) (next : X → Result V Refusal) (out : Result W EditFail) (e : EditFail)
    → IsErr out × IsErrAnd out (λ x. x ≡ e) → Comes Is r (Err e) → Comes Then (and_then r next) out
handed_on Is Then r next (Ok y) e out h = absurd out.1
handed_on Is Then r next (Err x) e out h = subst (λ (z : EditFail). Comes Then (and_then r next) (Err z)) (sym out.1) (come_err Is Then r next e h)

module _ (now : ℕ) (after : Held InMemory) (a : Asked) (v : Verdict) where
  abbrev told : Option Refusal → Result Asked Refusal
  told x = in_case x (Ok (past a v)) Err

  -- one request, by its verdict
  pub verdict_comes : (refused : Option Refusal) (result : Result (Unit {0}) EditFail) → StepsOwn now after a v (Ok refused) → Passes refused result → Makes now after (comes_to a v) result
  verdict_comes None (Ok done) h passes = subst (λ (x : Option Refusal). Makes now after (told x) (Ok done)) (sym h.0) h.1
  verdict_comes (Some why) (Err (Refused refusal)) h passes = subst (λ (x : Option Refusal). Makes now after (told x) (Err (Refused refusal))) (sym h) passes
  verdict_comes None (Err e) h passes = absurd passes
  verdict_comes (Some why) (Ok done) h passes = absurd passes
  verdict_comes (Some why) (Err (Store fail)) h passes = absurd passes

-- ---- what is asked for has its form

pub item_fits : IsTrue (is_fit_object new_item)
unfolding chars
item_fits = refl

pub amount_fits : IsTrue (is_fit_field new_amount)
unfolding chars
amount_fits = refl
