-- Batches of rows, one after the other, and how far a load came.
use Rattle.std.proofs.Common.{◌≡◌, ◌⊎◌, inl, inr, ◌∙◌, ℕ, zero, suc, ◌+◌, ◌<◌, ◌≤◌, Bool, true, false, List, [], ◌∷◌, ◌++◌, drop, length, map, take, Option, Some, None, Result, Ok, Err, refl, sym, ap, subst, append-nil, append_assoc, arith, leb-true as within, leb-false as beyond, take_all as short_taken}
use Rattle.std.proofs.lemmas.List.{length-append, length-map, length-take, take-append-drop, drop_all as short_dropped}
use Rattle.std.proofs.KnownBytes.{Appends-trans}
use Rattle.std.specs.Io.KnownBytes.{Appends}
use Rattle.std.specs.Prelude.{◌==◌, nat_le, not}
use Rattle.std.proofs.lemmas.Bool.{true≢false as true_isnt_false}
use Rattle.cmd_load.specs.Batches.{AskedInTurn, AskedRow, MayTell, asked_rows, batch_rows}
use Rattle.cmd_load.specs.Inputs.{Cells, Unread}
use Rattle.cmd_load.proofs.Reading.{front_dropped, front_taken}
use Rattle.cmd_load_plan.specs.declared.plan.LoadPlan.{LoadPlan}
use Rattle.store_kv.specs.State.{KeeperState}
use Rattle.store_kv.specs.Tables.{Tables}
use Rattle.model.specs.Callers.{Named}
use Rattle.model.specs.World.{World}
use Rattle.store_abstraction.specs.Stands.{Stands}
use Rattle.commands.specs.Deeds.{CutShort, Deed, Printed, Prints, one_deed, text_of, world_of}
use Rattle.commands.specs.Load.{batch_deed, batch_does, batches}
use Rattle.commands.specs.Loading.{FallsBy, IsFull, PrintsBy, later_stop, read_printed}
use Rattle.commands.specs.Printed.{PrintoutText}
use Rattle.commands.specs.Statuses.{KeepsWorld}
use Rattle.commands.specs.Stops.{behind, store_end}
use Rattle.commands.specs.declared.printing.StoreStop.{StoreStop}
use Rattle.commands.specs.declared.printing.StoreStop.TheVariants as storing
use Rattle.commands.specs.declared.stop.Stop.TheVariants as stop
use Rattle.commands.proofs.Deeds.{after_deeds, failed_more, nothing, text_both, world_both}

abbrev pub Failed : StoreStop → Result ℕ StoreStop
Failed e = Err e

-- a batch that isn't empty, and the last, which is
pub not_none : (n : ℕ) (b : Bool) → b ≡ (n == 0) → not b ≡ true → n ≡ 0 → ⊥
not_none n b is test none = differ (sym (ap not (is ∙ ap (λ (k : ℕ). k == 0) none)) ∙ test)
  where
    differ : false ≡ true → ⊥
    differ e = cc

pub is_none : (n : ℕ) (b : Bool) → b ≡ (n == 0) → not b ≡ false → n ≡ 0
is_none n b is test = by (n == 0) refl
  where
    by : (v : Bool) → (n == 0) ≡ v → n ≡ 0
    by true e = grind (arith, e)
    by false e = absurd (true_isnt_false (sym (ap not (is ∙ e)) ∙ test))

pub positive : (n : ℕ) → (n ≡ 0 → ⊥) → 0 < n
positive zero some = absurd (some refl)
positive (suc n) some = omega arith

-- what one deed wrote
pub one_text : (w : World) (printout : PrintoutText) (next end : World) (old new : Option (List ℕ)) (status : ℕ) → Prints w (one_deed printout next) old new (Ok status) end → Appends old new printout.text
one_text w printout next end old new status h = subst (Appends old new) (append-nil printout.text) h.1

-- rows that were read, and those behind them
pub read_sizes : (rows : List AskedRow) (left more : List Cells) → map (λ (r : AskedRow). r.cells) rows ≡ take batch_rows left → more ≡ drop batch_rows left → length rows + length more ≡ length left
read_sizes rows left more taken dropped =
    let cells = length-map rows (λ (r : AskedRow). r.cells) in
    let all = length-append (take batch_rows left) (drop batch_rows left) in
    let same = ap length taken in
    let others = ap length dropped in
    let whole = ap length (take-append-drop batch_rows left) in
    omega (arith, cells, all, same, others, whole)

-- some moments that a clock may tell
pub some_told : (told : Option (List ℕ)) → (later : List ℕ) × MayTell told later
some_told None = ([], tt)
some_told (Some known) = (known, refl)

-- ---- batches

module _ (named : Option Named) (p : LoadPlan) where
  none_left : (n : ℕ) (w : World) → batches n named p [] w ≡ []
  unfolding batches
  none_left zero w = refl
  none_left (suc n) w = refl

  -- a batch, and the rows behind it
  one_batch : (n : ℕ) (r : AskedRow) (rows more : List AskedRow) (w : World) → take batch_rows ((r ∷ rows) ++ more) ≡ r ∷ rows → drop batch_rows ((r ∷ rows) ++ more) ≡ more
      → batches (suc n) named p ((r ∷ rows) ++ more) w ≡ batch_deed named p (r ∷ rows) w ∷ batches n named p more (batch_deed named p (r ∷ rows) w).world
  unfolding batches
  one_batch n r rows more w taken dropped =
      ap (λ (rs : List AskedRow). batch_deed named p rs w ∷ batches n named p (drop batch_rows ((r ∷ rows) ++ more)) (batch_deed named p rs w).world) taken
      ∙ ap (λ (rs : List AskedRow). batch_deed named p (r ∷ rows) w ∷ batches n named p rs (batch_deed named p (r ∷ rows) w).world) dropped

  no_rows : (n : ℕ) (moments : List ℕ) → asked_rows n [] moments ≡ []
  unfolding asked_rows
  no_rows n moments = refl

  -- a full one, or the last
  full_batch : (n number : ℕ) (r : AskedRow) (rows : List AskedRow) (left : List Cells) (moments : List ℕ) (w : World) → IsFull (r ∷ rows) left
      → batches (suc n) named p ((r ∷ rows) ++ asked_rows number left moments) w
      ≡ batch_deed named p (r ∷ rows) w ∷ batches n named p (asked_rows number left moments) (batch_deed named p (r ∷ rows) w).world
  full_batch n number r rows left moments w (inl is) =
      one_batch n r rows (asked_rows number left moments) w (front_taken batch_rows (r ∷ rows) (asked_rows number left moments) is) (front_dropped batch_rows (r ∷ rows) (asked_rows number left moments) is)
  full_batch n number r rows left moments w (inr (few, none)) =
      let nothing_behind : asked_rows number left moments ≡ [] = ap (λ (cs : List Cells). asked_rows number cs moments) none ∙ no_rows number moments in
      one_batch n r rows (asked_rows number left moments) w
      (ap (λ (more : List AskedRow). take batch_rows ((r ∷ rows) ++ more)) nothing_behind ∙ (ap (take batch_rows) (append-nil (r ∷ rows)) ∙ short_taken batch_rows (r ∷ rows) few))
      (ap (λ (more : List AskedRow). drop batch_rows ((r ∷ rows) ++ more)) nothing_behind ∙ (ap (drop batch_rows) (append-nil (r ∷ rows)) ∙ (short_dropped batch_rows (r ∷ rows) few ∙ sym nothing_behind)))

-- the next rows fill a batch, or are the last
pub full_next : (rows : List AskedRow) (left more : List Cells) → map (λ (r : AskedRow). r.cells) rows ≡ take batch_rows left → more ≡ drop batch_rows left → IsFull rows more
full_next rows left more taken dropped = by (nat_le (length left) batch_rows) refl
  where
    long : length rows ≡ length (take batch_rows left)
    long = sym (length-map rows (λ (r : AskedRow). r.cells)) ∙ ap length taken

    some_taken : batch_rows < length left → length (take batch_rows left) ≡ batch_rows
    some_taken many = let is = length-take batch_rows left in omega (arith, is, many)

    by : (b : Bool) → nat_le (length left) batch_rows ≡ b → IsFull rows more
    by true h =
        let few = within (length left) batch_rows h in
        inr (subst (λ (k : ℕ). k ≤ batch_rows) (sym (long ∙ ap length (short_taken batch_rows left few))) few, dropped ∙ short_dropped batch_rows left few)
    by false h = inl (long ∙ some_taken (beyond (length left) batch_rows h))

-- rows that are read are the first of those that are left
pub read_first : (a b : Option (List ℕ)) (n m : ℕ) (rows : List AskedRow) (left more : List Cells) → AskedInTurn a b n rows → map (λ (r : AskedRow). r.cells) rows ≡ take batch_rows left → more ≡ drop batch_rows left → m ≡ n + length rows
    → (later : List ℕ) → MayTell b later → (moments : List ℕ) × MayTell a moments × (asked_rows n left moments ≡ rows ++ asked_rows m more later)
read_first a b n m rows left more asked taken dropped number later may =
    let before = asked later may in (
      before.0,
      before.1,
      ap (λ (cs : List Cells). asked_rows n cs before.0) (sym (take-append-drop batch_rows left) ∙ (ap (λ (cs : List Cells). cs ++ drop batch_rows left) (sym taken) ∙ ap (λ (cs : List Cells). map (λ (r : AskedRow). r.cells) rows ++ cs) (sym dropped)))
          ∙ (before.2 more ∙ ap (λ (k : ℕ). rows ++ asked_rows k more later) (sym number)),
    )

-- ---- how far a load came

module _ (named : Option Named) (p : LoadPlan) (first : List AskedRow) (start : Unread) (w : World) (a : KeeperState) (coming before : Option (List ℕ)) where
  abbrev All : List ℕ → Printed
  All moments = read_printed named p first start moments w

  -- the batches before this one were made, and their lines written
  pub record Gone (batch : List AskedRow) (unread : Unread) (b : KeeperState) (told mid : Option (List ℕ)) : Type 0 where
    pub past : List Deed
    pub text : Appends before mid (text_of past)
    pub keeps : KeepsWorld (world_of w past) b
    pub most : ℕ
    pub enough : length batch + length unread.left ≤ most
    pub rest : (later : List ℕ) → MayTell told later
        → (moments : List ℕ) × MayTell coming moments × ((All moments).deeds ≡ past ++ batches most named p (batch ++ asked_rows unread.number unread.left later) (world_of w past))

  pub none_gone : KeepsWorld w a → Gone first start a coming before
  none_gone keeps = record { past = []; text = nothing before; keeps = keeps; most = length first + length start.left; enough = omega arith; rest = λ later may. (later, may, refl) }

  -- all were made
  pub all_gone : (batch : List AskedRow) (unread : Unread) (b : KeeperState) (told mid : Option (List ℕ)) → length batch ≡ 0 → IsFull batch unread.left → Gone batch unread b told mid → PrintsBy All w coming before mid (Ok 0) b
  all_gone [] unread b told mid none (inl is) h = absurd (omega (arith, is))
  all_gone [] unread b told mid none (inr (few, left)) h =
      let later = some_told told in
      let rest = h.rest later.0 later.1 in
      let is : (All rest.0).deeds ≡ h.past = rest.2 ∙ (ap (λ (cs : List Cells). h.past ++ batches h.most named p (asked_rows unread.number cs later.0) (world_of w h.past)) left
      ∙ (ap (λ (rs : List AskedRow). h.past ++ batches h.most named p rs (world_of w h.past)) (no_rows named p unread.number later.0) ∙ (ap (λ (ds : List Deed). h.past ++ ds) (none_left named p h.most (world_of w h.past)) ∙ append-nil h.past))) in
      (rest.0, rest.1, world_of w h.past, (refl, subst (λ (ds : List Deed). Appends before mid (text_of ds)) (sym is) h.text, ap (world_of w) (sym is)), h.keeps)
  all_gone (r ∷ batch) unread b told mid none full h = absurd (omega (arith, none))

  module _ (r : AskedRow) (rows : List AskedRow) (unread : Unread) (b : KeeperState) (told mid : Option (List ℕ)) (full : IsFull (r ∷ rows) unread.left) (h : Gone (r ∷ rows) unread b told mid) where
    abbrev world : World
    world = world_of w h.past

    abbrev next : Deed
    next = batch_deed named p (r ∷ rows) world

    -- this batch is the next deed
    pub record IsNext : Type 0 where
      pub most : ℕ
      pub enough : length unread.left ≤ most
      pub deeds : (later : List ℕ) → MayTell told later
          → (moments : List ℕ) × MayTell coming moments × ((All moments).deeds ≡ h.past ++ next ∷ batches most named p (asked_rows unread.number unread.left later) next.world)

    pub is_next : IsNext
    is_next = by h.most h.enough h.rest
      where
        by : (most : ℕ) → length (r ∷ rows) + length unread.left ≤ most
            → ((later : List ℕ) → MayTell told later → (moments : List ℕ) × MayTell coming moments × ((All moments).deeds ≡ h.past ++ batches most named p ((r ∷ rows) ++ asked_rows unread.number unread.left later) world))
            → IsNext
        by zero few rest = absurd (omega (arith, few))
        by (suc n) few rest = record {
          most = n;
          enough = omega (arith, few);
          deeds = λ later may.
              let x = rest later may in
              (x.0, x.1, x.2 ∙ ap (λ (ds : List Deed). h.past ++ ds) (full_batch named p n unread.number r rows unread.left later world full));
        }

    -- with some moments
    some_deeds : (moments : List ℕ) × MayTell coming moments × (rest : List Deed) × ((All moments).deeds ≡ h.past ++ next ∷ rest)
    some_deeds =
        let later = some_told told in
        let x = is_next.deeds later.0 later.1 in
        (x.0, x.1, batches is_next.most named p (asked_rows unread.number unread.left later.0) next.world, x.2)

    -- out of memory before it
    pub stopped_before : PrintsBy All w coming before mid (Err stop.NoMemory) b
    stopped_before =
        let x = some_deeds in
        (x.0, x.1, world, record { past = h.past; next = next; rest = x.2; all = x.3; text = h.text; world = refl }, h.keeps)

    -- it failed
    abbrev does : World → PrintoutText × World
    does v = batch_does named p (r ∷ rows) v

    pub failed_at : (e : StoreStop) (after : Option (List ℕ)) (c : KeeperState)
        → Prints world (one_deed (does world).0 (does world).1) mid after (store_end (Err e)) (behind world (does world).1 (store_end (Failed e))) → KeepsWorld (behind world (does world).1 (store_end (Failed e))) c
        → PrintsBy All w coming before after (Err (later_stop e)) c
    failed_at e after c printed keeps =
        let x = some_deeds in
        let end = behind world (does world).1 (store_end (Failed e)) in (
          x.0,
          x.1,
          end,
          subst (λ (ds : List Deed). Prints w (record { deeds = ds; status = 0 }) before after (Err (later_stop e)) end) (sym x.3)
              (after_deeds w h.past (next ∷ x.2) 0 before mid after h.text (Err (later_stop e)) end (by e printed)),
          keeps,
        )
      where
        by : (e : StoreStop) → Prints world (one_deed (does world).0 (does world).1) mid after (store_end (Err e)) (behind world (does world).1 (store_end (Failed e)))
            → Prints world (record { deeds = next ∷ some_deeds.2; status = 0 }) mid after (Err (later_stop e)) (behind world (does world).1 (store_end (Failed e)))
        by storing.NoMemory h = failed_more world (does world).0 (does world).1 some_deeds.2 0 mid after stop.NoMemory world h
        by storing.KeeperFailed h = failed_more world (does world).0 (does world).1 some_deeds.2 0 mid after stop.KeeperFailed world h
        by storing.SinkFailed h = failed_more world (does world).0 (does world).1 some_deeds.2 0 mid after stop.SinkFailed (does world).1 h
        by storing.Damaged h = absurd h
        by storing.UnknownVersion h = absurd h

    -- the keeper fell in it: nothing of it was written
    pub fell_at : (after : Option (List ℕ)) (c : KeeperState) → after ≡ mid → ((m : Tables) → c.may_leave m → Stands m world ⊎ Stands m (does world).1) → FallsBy All w coming before after c
    fell_at after c same crash =
        let x = some_deeds in
        (x.0, x.1, λ m left. by m (crash m left))
      where
        cut : (end : World) → (end ≡ world) ⊎ (end ≡ (does world).1) → CutShort w (All some_deeds.0) before after end
        cut end is = record { past = h.past; rest = next ∷ some_deeds.2; all = some_deeds.3; text = subst (λ (t : Option (List ℕ)). Appends before t (text_of h.past)) (sym same) h.text; world = is }

        by : (m : Tables) → Stands m world ⊎ Stands m (does world).1 → (end : World) × CutShort w (All some_deeds.0) before after end × Stands m end
        by m (inl s) = (world, cut world (inl refl), s)
        by m (inr s) = ((does world).1, cut (does world).1 (inr refl), s)

    -- it was made, and the next one was read before
    pub one_gone : (unread2 : Unread) (told2 after : Option (List ℕ)) (c : KeeperState) (rows2 : List AskedRow) → Appends mid after next.text → KeepsWorld next.world c
        → map (λ (x : AskedRow). x.cells) rows2 ≡ take batch_rows unread.left → unread2.left ≡ drop batch_rows unread.left → unread2.number ≡ unread.number + length rows2 → AskedInTurn told told2 unread.number rows2
        → Gone rows2 unread2 c told2 after
    one_gone unread2 told2 after c rows2 text keeps taken dropped number asked = record {
      past = h.past ++ next ∷ [];
      text = subst (Appends before after) (sym (text_both h.past (next ∷ []) ∙ ap (λ (t : List ℕ). text_of h.past ++ t) (append-nil next.text))) (Appends-trans before mid after (text_of h.past) next.text h.text text);
      keeps = subst (λ (v : World). KeepsWorld v c) (sym (world_both w h.past (next ∷ []))) keeps;
      most = is_next.most;
      enough = let sizes = read_sizes rows2 unread.left unread2.left taken dropped in let few = is_next.enough in omega (arith, sizes, few);
      rest = λ later may.
          let read = read_first told told2 unread.number unread2.number rows2 unread.left unread2.left asked taken dropped number later may in
          let x = is_next.deeds read.0 read.1 in (
            x.0,
            x.1,
            x.2
                ∙ (ap (λ (rs : List AskedRow). h.past ++ next ∷ batches is_next.most named p rs next.world) read.2
                ∙ (sym (append_assoc h.past (next ∷ []) (batches is_next.most named p (rows2 ++ asked_rows unread2.number unread2.left later) next.world))
                ∙ ap (λ (v : World). (h.past ++ next ∷ []) ++ batches is_next.most named p (rows2 ++ asked_rows unread2.number unread2.left later) v) (sym (world_both w h.past (next ∷ []))))),
          );
    }

  -- ---- of any batch that isn't empty

  abbrev pub IsSome : List AskedRow → Type 0
  IsSome rows = length rows ≡ 0 → ⊥

  module _ (unread : Unread) (b : KeeperState) (told mid : Option (List ℕ)) where
    pub stopped : (batch : List AskedRow) → IsSome batch → IsFull batch unread.left → Gone batch unread b told mid → PrintsBy All w coming before mid (Err stop.NoMemory) b
    stopped [] some full h = absurd (some refl)
    stopped (r ∷ rows) some full h = stopped_before r rows unread b told mid full h

    abbrev made : (batch : List AskedRow) → Gone batch unread b told mid → PrintoutText × World
    made batch h = batch_does named p batch (world_of w h.past)

    pub failed : (batch : List AskedRow) → IsSome batch → IsFull batch unread.left → (h : Gone batch unread b told mid) (e : StoreStop) (after : Option (List ℕ)) (c : KeeperState)
        → Prints (world_of w h.past) (one_deed (made batch h).0 (made batch h).1) mid after (store_end (Err e)) (behind (world_of w h.past) (made batch h).1 (store_end (Failed e)))
        → KeepsWorld (behind (world_of w h.past) (made batch h).1 (store_end (Failed e))) c → PrintsBy All w coming before after (Err (later_stop e)) c
    failed [] some full h e after c printed keeps = absurd (some refl)
    failed (r ∷ rows) some full h e after c printed keeps = failed_at r rows unread b told mid full h e after c printed keeps

    pub fell : (batch : List AskedRow) → IsSome batch → IsFull batch unread.left → (h : Gone batch unread b told mid) (after : Option (List ℕ)) (c : KeeperState) → after ≡ mid
        → ((m : Tables) → c.may_leave m → Stands m (world_of w h.past) ⊎ Stands m (made batch h).1) → FallsBy All w coming before after c
    fell [] some full h after c same crash = absurd (some refl)
    fell (r ∷ rows) some full h after c same crash = fell_at r rows unread b told mid full h after c same crash

    pub goes_on : (batch : List AskedRow) → IsSome batch → IsFull batch unread.left → (h : Gone batch unread b told mid) (unread2 : Unread) (told2 after : Option (List ℕ)) (c : KeeperState) (rows2 : List AskedRow)
        → Appends mid after (made batch h).0.text → KeepsWorld (made batch h).1 c → map (λ (x : AskedRow). x.cells) rows2 ≡ take batch_rows unread.left → unread2.left ≡ drop batch_rows unread.left
        → unread2.number ≡ unread.number + length rows2 → AskedInTurn told told2 unread.number rows2 → Gone rows2 unread2 c told2 after
    goes_on [] some full h unread2 told2 after c rows2 text keeps taken dropped number asked = absurd (some refl)
    goes_on (r ∷ rows) some full h unread2 told2 after c rows2 text keeps taken dropped number asked =
        one_gone r rows unread b told mid full h unread2 told2 after c rows2 text keeps taken dropped number asked
