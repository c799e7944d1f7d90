-- A run that serves connections, from the opening and what was served after it.
use Rattle.std.proofs.Common.{◌≡◌, inr, ℕ, List, [], Some, Result, Ok, Err, refl, sym, ap, subst, ◌∙◌, append-nil, ◌≤◌, ◌∷◌, length, arith}
use Rattle.store_kv.specs.State.{KeeperState}
use Rattle.store_kv.specs.Tables.{Tables}
use Rattle.model.specs.World.{World, tenant_at}
use Rattle.store_rows.specs.declared.fail.StoreFail.TheVariants as store
use Rattle.store_abstraction.specs.Opening.{OpensAs}
use Rattle.store_abstraction.specs.Stands.{HasKnownVersion, HasUnknownVersion}
use Rattle.store_abstraction.specs.declared.fail.OpenFail.{OpenFail}
use Rattle.store_abstraction.specs.declared.fail.OpenFail.TheVariants as opening
use Rattle.server.specs.Exchanges.{Exchange, LeavesBehind}
use Rattle.server.specs.Senses.{Sense}
use Rattle.server.specs.Turning.{Serves}
use Rattle.server.specs.Connections.{AreServed, Connection, exchanges_of}
use Rattle.server.specs.Doors.{BringsTo, ManyEnds}
use Rattle.server.specs.Isolation.{asked_of, replies_of, replies_to}
use Rattle.base_io.specs.Doors.{DoorState}
use Rattle.base_io.specs.declared.traits.IoFail.{IoFail}
use Rattle.server.specs.declared.wire.LineFail.{LineFail}
use Rattle.platform.specs.Seen.{Seen}
use Rattle.platform.specs.Serving.{IsOpening, OpensOnly, RunsAnswer, RunsServe, ServeEnds, answer_end, serve_end}
use Rattle.commands.specs.Stops.{of_opening}
use Rattle.commands.specs.declared.stop.Stop.{Stop}

pub opened_only : (sense : Sense) (w : World) (a b : Seen) (s : Stop) → IsOpening (Err s) → LeavesBehind sense w [] a.keeper b.keeper → b.door ≡ a.door → b.left ≡ a.left → b.written ≡ a.written → b.coming ≡ a.coming → IsOpening (Err s) × OpensOnly sense w a b
opened_only sense w a b s is kept door left written coming = (is, record { kept = kept; door = door; left = left; written = written; coming = coming })

abbrev pub IsolationLaw : Type 0
IsolationLaw = (sense : Sense) (org : ℕ) (cs : List Connection) (w v end : World) (moments later : List ℕ) → AreServed sense cs w moments end later → tenant_at w org ≡ tenant_at v org
    → replies_of org (exchanges_of cs) ≡ replies_to v (asked_of org (exchanges_of cs))

-- what was left from the opening on
abbrev FromOpen : Sense → World → Seen → Seen → KeeperState → Type 0
FromOpen sense w a b mid = (end : World) (xs : List Exchange) → LeavesBehind sense end xs mid b.keeper → LeavesBehind sense end xs a.keeper b.keeper

pub answered : (sense : Sense) (w : World) (a b : Seen) (mid : KeeperState) (s : Result (Unit {0}) LineFail) (r : Result ℕ Stop) → r ≡ answer_end s → FromOpen sense w a b mid → IsolationLaw
    → ((moments input : List ℕ) → a.coming ≡ Some moments → a.left ≡ Some input → Serves sense w moments input mid b.keeper b.coming a.written b.written s) → RunsAnswer sense w a b r
answered sense w a b mid s r is opened law was_served input moments left coming =
    let h = was_served moments input coming left in
    let c = h.0 in
    inr (
      c,
      h.3,
      record {
        end = h.1;
        later = h.2;
        served = (h.1, h.2, h.4, (refl, refl));
        isolated = λ org v same. law sense org (c ∷ []) w v h.1 moments h.2 (h.1, h.2, h.4, (refl, refl)) same;
        asked = h.6;
        kept = subst (λ (xs : List Exchange). LeavesBehind sense h.1 xs a.keeper b.keeper) (sym (append-nil c.exchanges)) (opened h.1 c.exchanges h.5);
      },
      h.7,
      is ∙ ap answer_end h.8,
    )

-- ---- the connections of a door

serve_ends : (count : ℕ) (cs : List Connection) (e : DoorState) (s : Result (Unit {0}) IoFail) → ManyEnds count s cs e → (length cs ≤ count) × ServeEnds count (length cs) e.coming (serve_end s)
serve_ends count cs e (Ok done) h = (h.0, (refl, h.1))
serve_ends count cs e (Err f) h = (omega (arith, h), h)

pub served : (sense : Sense) (w : World) (a b : Seen) (mid : KeeperState) (count : ℕ) (s : Result (Unit {0}) IoFail) (r : Result ℕ Stop) → r ≡ serve_end s → FromOpen sense w a b mid → IsolationLaw
    → ((d : DoorState) (moments : List ℕ) → a.door ≡ Some d → a.coming ≡ Some moments → BringsTo sense w moments d (ManyEnds count s) b.coming b.door a.line_faults b.line_faults mid b.keeper) → RunsServe sense count w a b r
served sense w a b mid count s r is opened law brings d moments door coming =
    let h = brings d moments door coming in
    let cs = h.0 in
    let e = h.1 in
    let it = h.5 in
    let ends = serve_ends count cs e s h.6 in
    inr (
      cs,
      e,
      h.3,
      it.inputs,
      it.outputs_are,
      record {
        end = it.end;
        later = h.2;
        served = it.served;
        isolated = λ org v same. law sense org cs w v it.end moments h.2 it.served same;
        asked = h.4;
        kept = opened it.end (exchanges_of cs) it.kept;
      },
      it.lines,
      ends.0,
      subst (ServeEnds count (length cs) e.coming) (sym is) ends.1,
    )

-- ---- an opening that stopped

abbrev OneVersion : Type 0
OneVersion = (m : Tables) → HasKnownVersion m → HasUnknownVersion m → ⊥

pub failed_opening : OneVersion → (m : Tables) (f : OpenFail) → OpensAs m (Err f) → HasKnownVersion m → IsOpening (Err (of_opening f))
failed_opening one m opening.UnknownVersion opens known = one m known opens
failed_opening one m (opening.Store store.Damaged) opens known = opens.no_known known
failed_opening one m (opening.Store store.Keeper) opens known = tt
failed_opening one m (opening.Store store.Memory) opens known = tt
