-- A load by its plan, or by why there is none.
use Rattle.std.proofs.Common.{inl, ◌≡◌, ◌≢◌, ◌<◌, ℕ, Bool, true, List, [], ◌∷◌, length, Option, Result, Ok, Err, refl, sym, ap, subst}
use Rattle.std.specs.Prelude.{if◌then◌else◌}
use Rattle.std.proofs.lemmas.Bool.{lt-leb as beyond, true≢false as true_isnt_false}
use Rattle.cmd_load.specs.Inputs.{AreRows, Cells, IsPlanned, PlannedRows, input_plan, table_plan}
use Rattle.cmd_load.specs.Batches.{MayTell}
use Rattle.cmd_load.specs.Targets.{IsTarget, IsTargetFound, LoadObject}
use Rattle.cmd_load.specs.declared.target.Target.{Target}
use Rattle.cmd_load_plan.specs.declared.plan.LoadPlan.{LoadPlan}
use Rattle.store_kv.specs.State.{IsSettled, KeeperState}
use Rattle.store_kv.specs.Tables.{Tables}
use Rattle.store_rows.specs.declared.fail.StoreFail.{StoreFail}
use Rattle.store_rows.specs.declared.fail.StoreFail.TheVariants as store
use Rattle.model.specs.declared.refusal.Refusal.{Refusal}
use Rattle.model.specs.declared.refusal.Refusal.TheVariants.{CsvRefused, InputTooLarge}
use Rattle.model.specs.Callers.{Named}
use Rattle.model.specs.Cases.{in_case}
use Rattle.model.specs.Limits.{input_limit}
use Rattle.model.specs.World.{World}
use Rattle.store_abstraction.specs.declared.fail.OpenFail.{OpenFail}
use Rattle.store_abstraction.specs.declared.fail.OpenFail.TheVariants as opening
use Rattle.store_abstraction.specs.Opening.{OpensAs}
use Rattle.store_abstraction.specs.Stands.{HasKnownVersion, HasUnknownVersion, Stands}
use Rattle.base_csv.specs.Table.{first_refused, table_of}
use Rattle.commands.specs.Commands.{is_one_of}
use Rattle.commands.specs.Deeds.{CutShort, Deed, Printed, Prints, StopsBefore, one_deed}
use Rattle.commands.specs.Load.{behind_heading, planned_for, planned_printed, rows_printed}
use Rattle.commands.specs.Loading.{FallsBy, FindsObject, IsInput, PrintsBy, rows_statuses}
use Rattle.commands.specs.Printed.{refused}
use Rattle.commands.specs.Statuses.{KeepsWorld, status_in}
use Rattle.commands.specs.Stops.{VersionAs, VersionStops, of_input, of_opening}
use Rattle.commands.specs.declared.csvq.InputFail.{InputFail}
use Rattle.commands.specs.declared.csvq.InputFail.TheVariants as input
use Rattle.commands.specs.declared.input.Input.{Input}
use Rattle.commands.specs.declared.stop.Stop.{Stop}
use Rattle.commands.specs.declared.stop.Stop.TheVariants as stop
use Rattle.commands.proofs.Batching.{some_told}
use Rattle.commands.proofs.Deeds.{nothing}

module _ (named : Option Named) (w : World) (coming old new : Option (List ℕ)) (k : KeeperState) where
  abbrev By : Result PlannedRows Refusal → List ℕ → Printed
  By r moments = planned_printed named moments w r

  abbrev Rows : LoadPlan → List Cells → List ℕ → Printed
  Rows p rows moments = behind_heading w (rows_printed named p 1 rows moments w)

  -- with a plan its rows are loaded
  pub rows_printed_by : (r : Result PlannedRows Refusal) (given : Input) (ended : Result ℕ Stop) → IsInput r (Ok given) → ((rows : List Cells) → AreRows rows given.text → PrintsBy (Rows given.plan rows) w coming old new ended k) → PrintsBy (By r) w coming old new ended k
  rows_printed_by (Ok y) given ended is h = subst (λ (p : LoadPlan). PrintsBy (Rows p y.1) w coming old new ended k) is.0 (h y.1 is.1)
  rows_printed_by (Err r) given ended is h = absurd is

  pub rows_fell : (r : Result PlannedRows Refusal) (given : Input) → IsInput r (Ok given) → ((rows : List Cells) → AreRows rows given.text → FallsBy (Rows given.plan rows) w coming old new k) → FallsBy (By r) w coming old new k
  rows_fell (Ok y) given is h = subst (λ (p : LoadPlan). FallsBy (Rows p y.1) w coming old new k) is.0 (h y.1 is.1)
  rows_fell (Err r) given is h = absurd is

  -- without one it is refused
  pub refused_by : (r : Refusal) (ended : Result ℕ Stop) → Prints w (one_deed (refused r) w) old new ended w → KeepsWorld w k → PrintsBy (By (Err r)) w coming old new ended k
  refused_by r ended printed keeps = let m = some_told coming in (m.0, m.1, w, printed, keeps)

  pub input_refused : (r : Result PlannedRows Refusal) (why : Refusal) (ended : Result ℕ Stop) → IsInput r (Err why) → Prints w (one_deed (refused why) w) old new ended w → KeepsWorld w k → PrintsBy (By r) w coming old new ended k
  input_refused (Ok y) why ended is printed keeps = absurd is
  input_refused (Err r) why ended is printed keeps = subst (λ (x : Refusal). PrintsBy (By (Err x)) w coming old new ended k) is (refused_by why ended printed keeps)

-- ---- into an object that is found, or isn't

module _ (named : Option Named) (w : World) (left coming old new : Option (List ℕ)) (k : KeeperState) (expected : Result LoadObject Refusal) where
  abbrev Of : List ℕ → Result LoadObject Refusal → List ℕ → Printed
  Of bytes e moments = planned_printed named moments w (planned_for bytes e)

  pub printed_found : (target : Target) (ended : Result ℕ Stop) → IsTargetFound expected (Ok target)
      → ((x : LoadObject) → IsTarget x target → (bytes : List ℕ) × MayTell left bytes × PrintsBy (By named w coming old new k (input_plan x bytes)) w coming old new ended k)
      → (bytes : List ℕ) × MayTell left bytes × PrintsBy (Of bytes expected) w coming old new ended k
  printed_found target ended = by expected
    where
      by : (e : Result LoadObject Refusal) → IsTargetFound e (Ok target)
          → ((x : LoadObject) → IsTarget x target → (bytes : List ℕ) × MayTell left bytes × PrintsBy (By named w coming old new k (input_plan x bytes)) w coming old new ended k)
          → (bytes : List ℕ) × MayTell left bytes × PrintsBy (Of bytes e) w coming old new ended k
      by (Ok x) is h = h x is
      by (Err r) is h = absurd is

  pub fell_found : (target : Target) → IsTargetFound expected (Ok target)
      → ((x : LoadObject) → IsTarget x target → (bytes : List ℕ) × MayTell left bytes × FallsBy (By named w coming old new k (input_plan x bytes)) w coming old new k)
      → (bytes : List ℕ) × MayTell left bytes × FallsBy (Of bytes expected) w coming old new k
  fell_found target = by expected
    where
      by : (e : Result LoadObject Refusal) → IsTargetFound e (Ok target)
          → ((x : LoadObject) → IsTarget x target → (bytes : List ℕ) × MayTell left bytes × FallsBy (By named w coming old new k (input_plan x bytes)) w coming old new k)
          → (bytes : List ℕ) × MayTell left bytes × FallsBy (Of bytes e) w coming old new k
      by (Ok x) is h = h x is
      by (Err r) is h = absurd is

  pub object_refused : (why : Refusal) (ended : Result ℕ Stop) → IsTargetFound expected (Err why) → Prints w (one_deed (refused why) w) old new ended w → KeepsWorld w k
      → (bytes : List ℕ) × MayTell left bytes × PrintsBy (Of bytes expected) w coming old new ended k
  object_refused why ended = by expected
    where
      by : (e : Result LoadObject Refusal) → IsTargetFound e (Err why) → Prints w (one_deed (refused why) w) old new ended w → KeepsWorld w k
          → (bytes : List ℕ) × MayTell left bytes × PrintsBy (Of bytes e) w coming old new ended k
      by (Ok x) is printed keeps = absurd is
      by (Err r) is printed keeps =
          let told = some_told left in
          (told.0, told.1, subst (λ (x : Refusal). PrintsBy (Of told.0 (Err x)) w coming old new ended k) is (refused_by named w coming old new k why ended printed keeps))

-- ---- nothing was begun

record Begins (p : Printed) : Type 0 where
  first : Deed
  rest : List Deed
  all : p.deeds ≡ first ∷ rest

begins : (named : Option Named) (moments : List ℕ) (w : World) (r : Result PlannedRows Refusal) → Begins (planned_printed named moments w r)
begins named moments w (Ok x) = record { first = _; rest = _; all = refl }
begins named moments w (Err r) = record { first = _; rest = _; all = refl }

module _ (named : Option Named) (w : World) (coming old : Option (List ℕ)) (k : KeeperState) (keeps : KeepsWorld w k) where
  not_begun : (moments : List ℕ) (r : Result PlannedRows Refusal) → StopsBefore w (planned_printed named moments w r) old old w
  not_begun moments r =
      let b = begins named moments w r in
      record { past = []; next = b.first; rest = b.rest; all = b.all; text = nothing old; world = refl }

  stopped : (r : Result PlannedRows Refusal) (e : Stop) → ((moments : List ℕ) → Prints w (planned_printed named moments w r) old old (Err e) w) → PrintsBy (λ moments. planned_printed named moments w r) w coming old old (Err e) k
  stopped r e h = let m = some_told coming in (m.0, m.1, w, h m.0, keeps)

  pub unread : (r : Result PlannedRows Refusal) (e : InputFail) → PrintsBy (λ moments. planned_printed named moments w r) w coming old old (Err (of_input e)) k
  unread r input.Failed = stopped r stop.SourceFailed (λ moments. not_begun moments r)
  unread r input.Memory = stopped r stop.NoMemory (λ moments. not_begun moments r)

  pub unopened : (r : Result PlannedRows Refusal) (expected : Result LoadObject Refusal) (e : OpenFail) → FindsObject expected (Err e) → PrintsBy (λ moments. planned_printed named moments w r) w coming old old (Err (of_opening e)) k
  unopened r expected (opening.Store store.Keeper) h = stopped r stop.KeeperFailed (λ moments. not_begun moments r)
  unopened r expected (opening.Store store.Memory) h = stopped r stop.NoMemory (λ moments. not_begun moments r)
  unopened r expected (opening.Store store.Damaged) h = absurd (h refl)
  unopened r expected opening.UnknownVersion h = absurd h

-- the keeper fell before
pub fell_before : (named : Option Named) (w : World) (coming old : Option (List ℕ)) (a b : KeeperState) (r : Result PlannedRows Refusal) → IsSettled a → Stands a.tables w → ((m : Tables) → b.may_leave m → a.may_leave m)
    → FallsBy (λ moments. planned_printed named moments w r) w coming old old b
fell_before named w coming old a b r settled s no_more =
    let moments = some_told coming in
    let cut : CutShort w (planned_printed named moments.0 w r) old old w = record { past = []; rest = (planned_printed named moments.0 w r).deeds; all = refl; text = nothing old; world = inl refl } in
    (moments.0, moments.1, λ m left. (w, cut, subst (λ (t : Tables). Stands t w) (sym (settled.only m (no_more m left))) s))

-- ---- what failed on the way

abbrev pub OneVersion : Type 0
OneVersion = (m : Tables) → HasKnownVersion m → HasUnknownVersion m → ⊥

pub version_failed : (X : Type 0) (one : OneVersion) (m : Tables) (e : StoreFail) → HasKnownVersion m → ((w : World) → Stands m w → e ≢ store.Damaged) → VersionAs {X = X} m (Err (opening.Store e))
version_failed X one m store.Damaged known never = ((λ unknown. one m known unknown), λ w s. never w s refl)
version_failed X one m store.Keeper known never = tt
version_failed X one m store.Memory known never = tt

pub not_damaged : (p : List ℕ → Printed) (w : World) (coming old new : Option (List ℕ)) (r : Result ℕ Stop) (k : KeeperState) → PrintsBy p w coming old new r k → r ≡ Err stop.Damaged → ⊥
not_damaged p w coming old new r k (moments, may, end, printed, keeps) is =
    let never : ⊥ = subst (λ (x : Result ℕ Stop). Prints w (p moments) old new x end) is printed in
    never

-- behind the opening
pub version_after : (one : OneVersion) (m : Tables) (r : Result ℕ Stop) → HasKnownVersion m → is_one_of (status_in r) (65 ∷ 74 ∷ rows_statuses) ≡ true → ((w : World) → Stands m w → r ≡ Err stop.Damaged → ⊥) → VersionStops m r
version_after one m (Ok status) known own never = known
version_after one m (Err stop.NoMemory) known own never = tt
version_after one m (Err stop.KeeperFailed) known own never = tt
version_after one m (Err stop.SinkFailed) known own never = known
version_after one m (Err stop.SourceFailed) known own never = known
version_after one m (Err stop.DoorFailed) known own never = known
version_after one m (Err stop.Damaged) known own never = ((λ unknown. one m known unknown), λ w s. never w s refl)
version_after one m (Err stop.UnknownVersion) known own never = absurd (true_isnt_false (sym own))

pub object_unopened : (one : OneVersion) (m : Tables) (w : World) (expected : Result LoadObject Refusal) (e : OpenFail) → Stands m w → HasKnownVersion m → OpensAs m (Err e) → FindsObject expected (Err e)
object_unopened one m w expected (opening.Store store.Damaged) s known h = λ e. h.no_world w s
object_unopened one m w expected (opening.Store store.Keeper) s known h = λ e. cc
object_unopened one m w expected (opening.Store store.Memory) s known h = λ e. cc
object_unopened one m w expected opening.UnknownVersion s known h = one m known h

pub planned_refused : (r : Result PlannedRows Refusal) (source : List ℕ) (why : Refusal) → IsPlanned r source (Err why) → IsInput r (Err why)
planned_refused (Ok y) source why h = h
planned_refused (Err r) source why h = h

abbrev by_size : LoadObject → List ℕ → Bool → Result PlannedRows Refusal
by_size x bytes small = if small then in_case (first_refused bytes) (table_plan x (table_of bytes)) (λ row. Err (CsvRefused row)) else Err InputTooLarge

pub too_large_input : (x : LoadObject) (bytes : List ℕ) → input_limit < length bytes → IsInput (input_plan x bytes) (Err InputTooLarge)
too_large_input x bytes long = subst (λ (r : Result PlannedRows Refusal). IsInput r (Err InputTooLarge)) (sym (ap (by_size x bytes) (beyond (length bytes) input_limit long))) refl
