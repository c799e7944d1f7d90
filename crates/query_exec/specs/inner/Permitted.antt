-- Of rows those whose records may be read and are kept.
use Rattle.std.specs.Prelude.{◌≡◌, ℕ, ◌+◌, ◌*◌, ◌<◌, ◌≤◌, List, [], ◌∷◌, ◌++◌, OnOk, length, Option, Result, Ok, Err}
use Rattle.store_kv.specs.Draft.{DraftTells, Held, removals_of, tables_of}
use Rattle.store_kv.specs.State.{KeeperState}
use Rattle.store_kv.specs.Tables.{Tables}
use Rattle.store_kv.specs.declared.keeper.KeptRow.{KeptRow}
use Rattle.store_rows.specs.declared.fail.StoreFail.{StoreFail}
use Rattle.store_rows.specs.declared.fail.StoreFail.TheVariants.{Damaged, Keeper, Memory}
use Rattle.model.specs.Objects.{records_of}
use Rattle.model.specs.Paths.{Asked}
use Rattle.model.specs.declared.record.Record.{Record}
use Rattle.store_abstraction.specs.Calls.{Calls, ended}
use Rattle.store_abstraction.specs.declared.layout.Layout.{Layout}
use Rattle.query_exec.specs.declared.candidates.Candidate.{Candidate}
use Rattle.query_exec.specs.declared.pages.Pages.{Pages}
use Rattle.query_exec.specs.declared.ranked.Ranked.{Ranked}
use Rattle.query_exec.specs.Ranks.{GathersRows}
use Rattle.query_exec.specs.Written.{InTenants}
use Rattle.query_exec.specs.inner.Judging.{IsOf, Judging, OfOne, OfRows, Spells, picked}
use Rattle.query_exec.specs.inner.Reading.{beyond}

-- rows of candidates
abbrev pub Gathered : Type 0 → Type 0
Gathered R = List (Ranked R Candidate)

-- a row was put behind the others with its rank, its id and its parents, or it is out of memory
abbrev pub PutsBehind : {R : Type 0} → (row : KeptRow) → R × (List ℕ × List (Option Record)) → (old new : Gathered R) → Result (Unit {0}) StoreFail → Type 0
PutsBehind row found old new (Ok x) =
    new ≡ old ++ record { rank = found.0; id = found.1.0; kept = record { kept = row; parents = found.1.1 } } ∷ []
PutsBehind row found old new (Err Damaged) = ⊥
PutsBehind row found old new (Err Keeper) = ⊥
PutsBehind row found old new (Err Memory) = Unit {0}

module _ {R : Type 0} (l : Layout) (j : Judging R) where
  -- of these records those that are picked were put behind the others, with their parents and their ranks
  abbrev pub GathersPicked : (old new : Gathered R) → Asked → (page : List Record) → Type 0
  GathersPicked old new a page = GathersRows (IsOf l (j.parents a)) (j.rank a) old new (picked j a page)

  -- a row was put behind the others if its record is picked
  abbrev pub AdmitsRow : (row : KeptRow) → (old new : Gathered R) → Tables → Result (Unit {0}) StoreFail → Type 0
  AdmitsRow row old new m (Ok x) = OfOne l j.who (λ a. Spells l) row m (λ a r. GathersPicked old new a (r ∷ []))
  AdmitsRow row old new m (Err Damaged) = OfOne l j.who (λ a. Spells l) row m (λ a r. ⊥)
  AdmitsRow row old new m (Err Keeper) = Unit {0}
  AdmitsRow row old new m (Err Memory) = Unit {0}

  -- so it is of several
  abbrev pub AdmitsRows : (rows : List KeptRow) → (old new : Gathered R) → Tables → Result (Unit {0}) StoreFail → Type 0
  AdmitsRows rows old new m (Ok x) = OfRows l j.who (λ a. Spells l) rows m (GathersPicked old new)
  AdmitsRows rows old new m (Err Damaged) = OfRows l j.who (λ a. Spells l) rows m (λ a page. ⊥)
  AdmitsRows rows old new m (Err Keeper) = Unit {0}
  AdmitsRows rows old new m (Err Memory) = Unit {0}

  -- those rows were put behind the others that are picked of a page of so many of these records, whose ids rise, a full one unless reading
  -- ends with it; if so many pages were enough before, they are enough after it
  pub record ReadsPicked (rs : List Record) (from to : Pages) (count : ℕ) (a : Asked) (old new : Gathered R) : Type 0 where
    pub page : List Record
    pub many : length page ≡ count
    pub gathers : GathersPicked old new a page
    pub on : page ++ beyond to.after rs ≡ beyond from.after rs
    pub full : 0 < to.left → 250 ≤ count
    pub enough : length (beyond from.after rs) ≤ 250 * from.left → length (beyond to.after rs) ≤ 250 * to.left

  abbrev pub FindsPicked : (from to : Pages) → (count : ℕ) → (old new : Gathered R) → Tables → Result (Unit {0}) StoreFail → Type 0
  FindsPicked from to count old new m (Ok x) = InTenants l j.who m (λ a. ReadsPicked (records_of a.tenant l.object) from to count a old new)
  FindsPicked from to count old new m (Err Damaged) = InTenants l j.who m (λ a. ⊥)
  FindsPicked from to count old new m (Err Keeper) = Unit {0}
  FindsPicked from to count old new m (Err Memory) = Unit {0}

  -- a page of so many rows was read, with what tells of each whether it may be read, and with its parents
  module _ {K : Type 0} (state : K → KeeperState) where
    pub record TurnsPage (each : ℕ) (from to : Pages) (old new : Gathered R) (a b : Held K) (result : Result (Unit {0}) StoreFail) : Type 0 where
      pub count : ℕ
      pub few : DraftTells state a b → count ≤ 250
      pub sized : OnOk result (length new ≤ length old + count)
      pub calls : Calls state ((1 + each) * count + removals_of state 7 a) (ended result) a b
      pub page : DraftTells state a b → FindsPicked from to count old new (tables_of state a) result
