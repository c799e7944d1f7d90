-- The rows of a text that is loaded: each is asked as a request of its own, at its own moment, by who is named. They are done in batches.
-- Sources: as the verdicts of `model` and the lines of `cmd_load_plan` have them. That rows go in batches is this product's own.
use Rattle.std.specs.Prelude.{◌≡◌, ℕ, ◌+◌, ◌<◌, ◌≤◌, ◌^◌, List, [], ◌∷◌, ◌++◌, length, map, Option, Some, None, IfSome, Result}
use Rattle.cmd_auth.specs.Asking.{Doing, named_does, world_does}
use Rattle.cmd_auth.specs.Judging.{RefusesUncalled, changes_behind, shown_behind}
use Rattle.cmd_load_plan.specs.Rows.{refused_line, row_line, row_request}
use Rattle.cmd_load_plan.specs.declared.plan.LoadPlan.{LoadPlan}
use Rattle.base_io.specs.Moments.{after_asking}
use Rattle.store_kv.specs.Tables.{Tables}
use Rattle.store_rows.specs.declared.fail.StoreFail.{StoreFail}
use Rattle.cmd_load_row.specs.Loads.{load_shown, row_changes}
use Rattle.model.specs.declared.refusal.Refusal.TheVariants.{InvalidSession}
use Rattle.model.specs.Callers.{Named}
use Rattle.model_requests.specs.Requests.{verdict_on}
use Rattle.model.specs.Tenant.{Tenant}
use Rattle.model.specs.World.{World}
use Rattle.store_abstraction.specs.declared.judged.Judged.{Judged}
use Rattle.store_abstraction.specs.Local.{KeepsOthers, StandsFor, StandsIn}
use Rattle.store_abstraction.specs.Operations.{IsChange, Judges}
use Rattle.store_abstraction.specs.Plan.{OrgPlan}
use Rattle.cmd_load.specs.Inputs.{Cells}

-- ---- rows and moments

-- a row that is asked: its number, its cells and the moment
pub record AskedRow : Type 0 where
  pub number : ℕ
  pub cells : Cells
  pub moment : ℕ

-- the moment that comes first; a clock always tells one
abbrev pub first_moment : (moments : List ℕ) → ℕ
first_moment [] = 0
first_moment (moment ∷ moments) = moment

-- rows from this number on, each at the moment that a clock with these then tells
unfoldable pub asked_rows : (number : ℕ) → List Cells → (moments : List ℕ) → List AskedRow
asked_rows n [] moments = []
asked_rows n (cells ∷ rows) moments =
    record { number = n; cells = cells; moment = first_moment moments } ∷ asked_rows (n + 1) rows (after_asking moments)

-- these are the bytes or moments that are told; where none are told they may be any
abbrev pub MayTell : Option (List ℕ) → (values : List ℕ) → Type 0
MayTell told values = IfSome told (λ known. values ≡ known)

-- the rows were asked in turn while the clock went on: whatever it then tells, they are the first of the rows from this number on
abbrev pub AskedInTurn : (old new : Option (List ℕ)) → (number : ℕ) → List AskedRow → Type 0
AskedInTurn old new n rows =
    (later : List ℕ) → MayTell new later
    → (moments : List ℕ) × MayTell old moments
    × ((rest : List Cells) → asked_rows n (map (λ r. r.cells) rows ++ rest) moments ≡ rows ++ asked_rows (n + length rows) rest later)

-- ---- what rows come to

-- a row, of one who asks: its line, and what becomes of the organisation
abbrev pub row_asked : LoadPlan → (number : ℕ) → Cells → Doing (List ℕ)
row_asked p number cells a = let v = verdict_on a (row_request p cells) in (row_line number v.answer, v.tenant)

-- a row in the world, of who is named
abbrev pub row_loaded : Option Named → LoadPlan → AskedRow → World → List ℕ × World
row_loaded named p r w = world_does (row_asked p r.number r.cells) (refused_line r.number InvalidSession) r.moment named w

-- rows in turn: their lines, and what becomes of s
unfoldable pub done_in_turn : {S : Type 0} → (AskedRow → S → List ℕ × S) → List AskedRow → S → List ℕ × S
done_in_turn does [] s = ([], s)
done_in_turn does (r ∷ rows) s = let x = does r s in let y = done_in_turn does rows x.1 in (x.0 ++ y.0, y.1)

-- in the world
abbrev pub rows_loaded : Option Named → LoadPlan → List AskedRow → World → List ℕ × World
rows_loaded named p rows w = done_in_turn (row_loaded named p) rows w

-- the most rows of a batch
abbrev pub batch_rows : ℕ
batch_rows = 100

-- ---- over tables

-- a row in the organisation that is named, where it is this tenant or isn't there
abbrev pub named_row : Named → LoadPlan → AskedRow → Option Tenant → List ℕ × Option Tenant
named_row n p r t = named_does (row_asked p r.number r.cells) (refused_line r.number InvalidSession) r.moment n t

-- rows by who names these, judged over these tables, of which those came: whatever they have, no row of others changes; and where the
-- organisation's rows stand for a tenant, or for none, it is what the rows come to there
pub record JudgesRows (n : Named) (p : LoadPlan) (rows : List AskedRow) (before after : Tables) (result : Result (Judged (List ℕ)) StoreFail) : Type 0 where
  pub others : IsChange result → KeepsOthers n.org before after
  pub judged : (q : OrgPlan) (t : Option Tenant) → StandsIn n.org q before t → Judges (StandsFor n.org) (done_in_turn (named_row n p) rows) t after result

-- the lines of rows of who isn't a user of an organisation
abbrev pub refused_rows : List AskedRow → List ℕ
refused_rows [] = []
refused_rows (r ∷ rows) = refused_line r.number InvalidSession ++ refused_rows rows

-- the same of anyone: who names none, or a number that no organisation has, is refused
abbrev pub JudgesRowsFor : Option Named → LoadPlan → List AskedRow → (before after : Tables) → Result (Judged (List ℕ)) StoreFail → Type 0
JudgesRowsFor None p rows before after result = RefusesUncalled (refused_rows rows) result
JudgesRowsFor (Some n) p rows before after result =
    (n.org < 2 ^ 32 → JudgesRows n p rows before after result) × (2 ^ 32 ≤ n.org → RefusesUncalled (refused_rows rows) result)

-- ---- how much is done for a row

-- the most rows of tables that it changes, with those of a step
abbrev pub changes_of_row : ℕ
changes_of_row = changes_behind row_changes

-- the most data rows that are shown to it
abbrev pub shown_of_row : (removed : ℕ) → ℕ
shown_of_row removed = shown_behind load_shown removed
