-- How a command of one deed ends, and what it leaves, from what was done on its way.
use Rattle.std.proofs.Common.{◌≡◌, ◌⊎◌, inl, inr, ℕ, IsTrue, List, [], length, Option, Result, Ok, Err, refl, sym, ap, subst, ◌∙◌}
use Rattle.std.specs.Prelude.{IfOk}
use Rattle.base_io.specs.Streams.{AppendsFront}
use Rattle.store_kv.specs.State.{KeeperState, LeavesNoMore, Shows, Steps, Tells}
use Rattle.store_kv.specs.Tables.{Tables}
use Rattle.store_rows.specs.declared.fail.StoreFail.{StoreFail}
use Rattle.store_rows.specs.declared.fail.StoreFail.TheVariants as store
use Rattle.model.specs.World.{World}
use Rattle.store_abstraction.specs.declared.fail.OpenFail.{OpenFail}
use Rattle.store_abstraction.specs.declared.fail.OpenFail.TheVariants as opening
use Rattle.store_abstraction.specs.declared.judged.Judged.{Judged}
use Rattle.store_abstraction.specs.declared.judged.Judged.TheVariants.{Changed, Same}
use Rattle.store_abstraction.specs.Operations.{Does, IsChange, Judges, Returns}
use Rattle.store_abstraction.specs.Opening.{OpensAs}
use Rattle.store_abstraction.specs.Stands.{HasKnownVersion, HasUnknownVersion, Stands}
use Rattle.commands.proofs.Deeds.{nothing}
use Rattle.commands.specs.Deeds.{Prints, StopsBefore, StopsWithin, one_deed}
use Rattle.commands.specs.Printed.{PrintoutText}
use Rattle.commands.specs.Statuses.{KeepsWorld}
use Rattle.commands.specs.Stops.{DoesOpened, Refuses, behind, csvq_end, csvq_stop_of, store_end, store_stop_of}
use Rattle.commands.specs.declared.csvq.InputFail.{InputFail}
use Rattle.commands.specs.declared.csvq.InputFail.TheVariants as input

-- ---- what was written

pub stops_within : (p : PrintoutText) (next : World) (old new : Option (List ℕ)) → AppendsFront old new p.text → StopsWithin (one_deed p next) old new next
stops_within p next old new h = record {
  past = [];
  next = record { text = p.text; world = next };
  rest = [];
  all = refl;
  taken = h.0;
  front = h.1;
  text = h.2;
  world = refl;
}

pub stops_before : (w next : World) (p : PrintoutText) (old : Option (List ℕ)) → StopsBefore w (one_deed p next) old old w
stops_before w next p old = record {
  past = [];
  next = record { text = p.text; world = next };
  rest = [];
  all = refl;
  text = nothing old;
  world = refl;
}

pub input_stops : (w : World) (p : PrintoutText) (old : Option (List ℕ)) (fail : InputFail) → Prints w (one_deed p w) old old (csvq_end (Err (csvq_stop_of fail))) w
input_stops w p old input.Failed = stops_before w w p old
input_stops w p old input.Memory = stops_before w w p old

pub opening_stops : (does : World → PrintoutText × World) (w : World) (l : KeeperState) (old : Option (List ℕ)) (fail : OpenFail) → DoesOpened does w l (Err fail)
    → Prints w (one_deed (does w).0 (does w).1) old old (store_end (Err (store_stop_of fail))) (behind w (does w).1 (store_end (Err (store_stop_of fail))))
opening_stops does w l old (opening.Store store.Keeper) h = stops_before w (does w).1 (does w).0 old
opening_stops does w l old (opening.Store store.Memory) h = stops_before w (does w).1 (does w).0 old
opening_stops does w l old (opening.Store store.Damaged) h = h.0 refl
opening_stops does w l old opening.UnknownVersion h = absurd h

pub opening_keeps : (does : World → PrintoutText × World) (w : World) (l : KeeperState) (fail : OpenFail) → DoesOpened does w l (Err fail) → KeepsWorld (behind w (does w).1 (store_end (Err (store_stop_of fail)))) l
opening_keeps does w l (opening.Store store.Keeper) h = h.1
opening_keeps does w l (opening.Store store.Memory) h = h.1
opening_keeps does w l (opening.Store store.Damaged) h = absurd (h.0 refl)
opening_keeps does w l opening.UnknownVersion h = absurd h

-- ---- a refusal changes nothing

pub refused_kept : (S : Type 0) (judged : Result (Judged PrintoutText) StoreFail) (result : Result PrintoutText StoreFail) → IfOk result (Returns judged) → IfOk judged (λ j. Refuses j → IsChange judged → ⊥) → ((IsChange judged → ⊥) → S) → IfOk result (λ p. p.status ≡ 65 → S)
refused_kept S judged (Err e) r d f = tt
refused_kept S (Err e) (Ok p) r d f = absurd r
refused_kept S (Ok (Same q)) (Ok p) r d f = λ _. f (λ c. c)
refused_kept S (Ok (Changed q)) (Ok p) r d f = λ is. f (d (sym (ap (λ (x : PrintoutText). x.status) r) ∙ is))

-- what a change leaves stands for the world that the operation leaves
pub changed_stands : {X : Type 0} (does : World → X × World) (w : World) (after : Tables) (j : Result (Judged X) StoreFail) → IsChange j → Judges Stands does w after j → Stands after (does w).1
changed_stands does w after (Ok (Same x)) change h = absurd change
changed_stands does w after (Ok (Changed x)) change h = h.1
changed_stands does w after (Err e) change h = absurd change

-- ---- with the opening

module _ (k0 k1 : KeeperState) (same : Tells k0 k1 → Shows k1 k0.tables) (no_more : k0.tells → LeavesNoMore k0 k1) where
  shown : Tells k0 k1 → (w : World) → Stands k0.tables w → Stands k1.tables w
  shown t w s = subst (λ (m : Tables). Stands m w) (sym (same t).1) s

  -- with what follows it, for worlds with as many organisations as the opening counted
  module _ (n : ℕ) (counts : Tells k0 k1 → (w : World) → Stands k0.tables w → n ≡ length w) (k2 : KeeperState) (steps : Steps k1 k2) where
    first : Tells k0 k2 → Tells k0 k1
    first t = (t.0, steps.stood t.1)

    later : Tells k0 k2 → Tells k1 k2
    later t = ((same (first t)).0, t.1)

    counted : Tells k0 k1 → (w : World) → Stands k0.tables w → length w ≡ n
    counted t w s = sym (counts t w s)

    pub opened : (does : World → PrintoutText × World) (w : World) (r : Result PrintoutText StoreFail) → Tells k0 k2 → Stands k0.tables w
        → (Tells k1 k2 → (w : World) → Stands k1.tables w → length w ≡ n → Does Stands does w k2 r) → (x : PrintoutText) → r ≡ Ok x → DoesOpened does w k2 (Ok x)
    opened does w r t s h x e =
        let it = subst (Does Stands does w k2) e (h (later t) w (shown (first t) w s) (counted (first t) w s)) in
        it

    pub opened_failed : (does : World → PrintoutText × World) (w : World) (r : Result PrintoutText StoreFail) → Tells k0 k2 → Stands k0.tables w
        → (Tells k1 k2 → (w : World) → Stands k1.tables w → length w ≡ n → Does Stands does w k2 r) → (e : StoreFail) → r ≡ Err e → DoesOpened does w k2 (Err (opening.Store e))
    opened_failed does w r t s h e is =
        let it = subst (Does Stands does w k2) is (h (later t) w (shown (first t) w s) (counted (first t) w s)) in
        it

    pub crash_through : (next : World → World) → (IsTrue k1.is_clean → IsTrue k1.trusted)
        → (k1.tells → IsTrue k1.trusted → IsTrue k2.is_clean → (w : World) → Stands k1.tables w → length w ≡ n → (m : Tables) → k2.may_leave m → k1.may_leave m ⊎ Stands m (next w))
        → k0.tells → IsTrue k2.is_clean → (w : World) → Stands k0.tables w → (m : Tables) → k2.may_leave m → k0.may_leave m ⊎ Stands m (next w)
    crash_through next stands h tells clean w s m left =
        let one : IsTrue k1.is_clean = steps.was_clean clean in
        let told : Tells k0 k1 = (tells, stands one) in
        by one (h (same told).0 (stands one) clean w (shown told w s) (counted told w s) m left)
      where
        by : IsTrue k1.is_clean → k1.may_leave m ⊎ Stands m (next w) → k0.may_leave m ⊎ Stands m (next w)
        by one (inl h) = inl (no_more tells one m h)
        by one (inr s) = inr s

  -- the opening failed
  pub unopened : (known : (m : Tables) (w : World) → Stands m w → HasKnownVersion m) → (one : (m : Tables) → HasKnownVersion m → HasUnknownVersion m → ⊥)
      → (does : World → PrintoutText × World) (w : World) (fail : OpenFail) → Tells k0 k1 → Stands k0.tables w → OpensAs k0.tables (Err fail) → DoesOpened does w k1 (Err fail)
  unopened known one does w fail t s = by fail
    where
      by : (fail : OpenFail) → OpensAs k0.tables (Err fail) → DoesOpened does w k1 (Err fail)
      by (opening.Store store.Damaged) o = absurd (o.no_world w s)
      by (opening.Store store.Keeper) o = (λ e. absurd cc, ((same t).0, shown t w s))
      by (opening.Store store.Memory) o = (λ e. absurd cc, ((same t).0, shown t w s))
      by opening.UnknownVersion o = one k0.tables (known k0.tables w s) o
