-- A load from its heading on.
use Rattle.std.proofs.Common.{◌≡◌, ◌∙◌, ℕ, ◌+◌, List, [], ◌∷◌, ◌++◌, drop, length, map, take, Option, Result, Err, refl, sym, ap, subst, append-nil}
use Rattle.std.specs.Io.KnownBytes.{Appends}
use Rattle.base_io.specs.Streams.{AppendsFront}
use Rattle.cmd_load.specs.Batches.{AskedInTurn, AskedRow, MayTell, asked_rows, batch_rows}
use Rattle.cmd_load.specs.Inputs.{Cells, Unread}
use Rattle.cmd_load_plan.specs.Rows.{heading_line}
use Rattle.cmd_load_plan.specs.declared.plan.LoadPlan.{LoadPlan}
use Rattle.store_kv.specs.State.{KeeperState}
use Rattle.model.specs.Callers.{Named}
use Rattle.model.specs.World.{World}
use Rattle.commands.specs.Deeds.{CutShort, Deed, Printed, Prints}
use Rattle.commands.specs.Load.{batches, behind_heading, rows_printed}
use Rattle.commands.specs.Loading.{FallsBy, PrintsBy, read_printed}
use Rattle.commands.specs.Statuses.{KeepsWorld}
use Rattle.commands.specs.declared.stop.Stop.{Stop}
use Rattle.commands.specs.declared.stop.Stop.TheVariants as stop
use Rattle.commands.proofs.Batching.{read_first, read_sizes, some_told}
use Rattle.commands.proofs.Deeds.{after_deeds, cut_behind, nothing}

module _ (named : Option Named) (p : LoadPlan) (rows : List Cells) (w : World) where
  abbrev Whole : List ℕ → Printed
  Whole moments = behind_heading w (rows_printed named p 1 rows moments w)

  abbrev Heading : Deed
  Heading = record { text = heading_line; world = w }

  -- before the heading's line
  pub unwritten : (coming old : Option (List ℕ)) (k : KeeperState) → KeepsWorld w k → PrintsBy Whole w coming old old (Err stop.NoMemory) k
  unwritten coming old k keeps =
      let m = some_told coming in
      (m.0, m.1, w, record { past = []; next = Heading; rest = (rows_printed named p 1 rows m.0 w).deeds; all = refl; text = nothing old; world = refl }, keeps)

  -- at it
  pub sink_failed : (coming old new : Option (List ℕ)) (k : KeeperState) → KeepsWorld w k → AppendsFront old new heading_line → PrintsBy Whole w coming old new (Err stop.SinkFailed) k
  sink_failed coming old new k keeps h =
      let m = some_told coming in
      (m.0, m.1, w, record { past = []; next = Heading; rest = (rows_printed named p 1 rows m.0 w).deeds; all = refl; taken = h.0; front = h.1; text = h.2; world = refl }, keeps)

  -- behind it
  module _ (coming told old mid new : Option (List ℕ)) (first : List AskedRow) (start : Unread) (written : Appends old mid heading_line)
      (taken : map (λ (x : AskedRow). x.cells) first ≡ take batch_rows rows) (dropped : start.left ≡ drop batch_rows rows) (number : start.number ≡ 1 + length first) (asked : AskedInTurn coming told 1 first) where
    abbrev Read : List ℕ → Printed
    Read moments = read_printed named p first start moments w

    sizes : length first + length start.left ≡ length rows
    sizes = read_sizes first rows start.left taken dropped

    at_later : (later : List ℕ) → MayTell told later → (moments : List ℕ) × MayTell coming moments × (Whole moments ≡ behind_heading w (Read later))
    at_later later may =
        let x = read_first coming told 1 start.number first rows start.left asked taken dropped number later may in (
          x.0,
          x.1,
          ap (λ (rs : List AskedRow). behind_heading w (record { deeds = batches (length rows) named p rs w; status = 0 })) x.2
              ∙ ap (λ (n : ℕ). behind_heading w (record { deeds = batches n named p (first ++ asked_rows start.number start.left later) w; status = 0 })) (sym sizes),
        )

    one_line : Appends old mid (heading_line ++ [])
    one_line = subst (Appends old mid) (sym (append-nil heading_line)) written

    pub prints_behind : (r : Result ℕ Stop) (k : KeeperState) → PrintsBy Read w told mid new r k → PrintsBy Whole w coming old new r k
    prints_behind r k (later, may, end, printed, keeps) =
        let x = at_later later may in (
          x.0,
          x.1,
          end,
          subst (λ (q : Printed). Prints w q old new r end) (sym x.2) (after_deeds w (Heading ∷ []) (Read later).deeds 0 old mid new one_line r end printed),
          keeps,
        )

    pub falls_behind : (k : KeeperState) → FallsBy Read w told mid new k → FallsBy Whole w coming old new k
    falls_behind k (later, may, crash) =
        let x = at_later later may in (
          x.0,
          x.1,
          λ m left.
              let (end, cut, s) = crash m left in
              (end, subst (λ (q : Printed). CutShort w q old new end) (sym x.2) (cut_behind w (Heading ∷ []) (Read later).deeds 0 old mid new one_line end cut), s),
        )
