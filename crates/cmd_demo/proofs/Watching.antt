-- A demo, part by part.
use Rattle.std.proofs.Common.{◌≡◌, ℕ, List, Result, Ok, Err, ap}
use Rattle.model.specs.Paths.{Asked}
use Rattle.model.specs.Retyping.{begin_retype}
use Rattle.model.specs.declared.refusal.Refusal.{Refusal}
use Rattle.store_kv.specs.Draft.{Held}
use Rattle.store_kv.specs.Memory.{InMemory}
use Rattle.cmd_sandbox.specs.Making.{IsOwned}
use Rattle.store_abstraction.specs.declared.fail.EditFail.TheVariants.{Refused}
use Rattle.model.specs.Asker.{stepped}
use Rattle.cmd_demo.specs.Demos.{above_query, amount_field, amount_line, and_then, answer_to_text, comes_to, first_query, item_object, rows_in, watched, whole_number}
use Rattle.cmd_demo.specs.declared.repeats.Repeats.{Repeats}
use Rattle.cmd_demo.specs.declared.show.Demo.{Demo}
use Rattle.cmd_demo.specs.inner.Coming.{Returns}

abbrev pub Owns : (now : ℕ) → (after : Held InMemory) → Asked → Unit {0} → Type 0
Owns now after a done = IsOwned now after a

abbrev pub IsIt : {X : Type 0} → X → X → Type 0
IsIt x y = y ≡ x

-- ---- until the change begins

abbrev pub begun_behind : Asked → (lines : List ℕ) → Result (Asked × List ℕ) Refusal
begun_behind a lines = and_then (comes_to a (begin_retype a.tenant item_object amount_field whole_number)) (λ b. Ok (b, amount_line lines))

abbrev pub begun_of : Asked → Result (Asked × List ℕ) Refusal
begun_of a = and_then (answer_to_text first_query a) (begun_behind a)

-- ---- to its end

abbrev pub counted_behind : Asked × Repeats → (lines : List ℕ) → Result (Repeats × ℕ) Refusal
counted_behind x lines = Ok (x.1, rows_in lines)

abbrev pub counted_of : Asked × Repeats → Result (Repeats × ℕ) Refusal
counted_of x = and_then (answer_to_text above_query (stepped x.0)) (counted_behind x)

-- ---- both

abbrev pub demo_told : (first : List ℕ) → Repeats × ℕ → Demo
demo_told first y = record { first = first; switched = y.0.switched; repeats = y.0.count; least = y.0.least; above = y.1 }

abbrev pub demo_behind : Asked × List ℕ → Repeats × ℕ → Result Demo Refusal
demo_behind x y = Ok (demo_told x.1 y)

abbrev pub demo_from : Asked × List ℕ → Result Demo Refusal
demo_from x = and_then (watched x.0) (demo_behind x)

-- ---- what is returned in the end

pub returned_ok : {X : Type 0} (r : Result X Refusal) (y : X) → Returns r (Ok y) → Ok y ≡ r
returned_ok (Ok x) y h = ap Ok h
returned_ok (Err why) y h = absurd h

pub returned_err : {X : Type 0} (r : Result X Refusal) (why : Refusal) → Returns r (Err (Refused why)) → Err why ≡ r
returned_err (Ok x) why h = absurd h
returned_err (Err because) why h = ap Err h
