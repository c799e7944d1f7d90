-- By what rows are judged: who asks for them, the parents of their records, which of them are kept, and their ranks.
use Rattle.std.specs.Prelude.{◌≡◌, Bool, if◌then◌else◌, List, filter, Option, Some, None, ℕ, Result, Ok, Err}
use Rattle.store_kv.specs.Tables.{Tables}
use Rattle.store_kv.specs.declared.keeper.KeptRow.{KeptRow}
use Rattle.model.specs.declared.record.Record.{Record}
use Rattle.model.specs.Levels.{can_read}
use Rattle.model.specs.Membership.{Has}
use Rattle.model.specs.Objects.{records_of}
use Rattle.model.specs.Paths.{Asked}
use Rattle.store_codec.specs.declared.fail.CodecFail.{CodecFail}
use Rattle.store_codec.specs.declared.fail.CodecFail.TheVariants as codec
use Rattle.access_traits.specs.Rights.{Whose, kept_record}
use Rattle.store_abstraction.specs.Plan.{OrgPlan}
use Rattle.store_abstraction.specs.declared.layout.Layout.{Layout}
use Rattle.query_exec.specs.declared.candidates.Candidate.{Candidate}
use Rattle.query_exec.specs.Ranks.{EachOf}
use Rattle.query_exec.specs.Relatives.{by_parents}
use Rattle.query_exec.specs.Written.{InTenants, seeing}

pub record Judging (R : Type 0) : Type 1 where
  pub who : OrgPlan → Asked → Type 0
  pub parents : Asked → Record → List (Option Record)
  pub keep : Asked → Record → Bool
  pub rank : Asked → Record → R

-- by a sight, relatives, a test and ranks
abbrev pub judging : {R : Type 0} → Whose → (OrgPlan → Asked → Type 0) → (Asked → Record → List (Option Record))
    → (List (Option Record) → Record → Bool) → (List (Option Record) → Record → R) → Judging R
judging sees whose parents keep ranked =
    record { who = seeing sees whose; parents = parents; keep = by_parents parents keep; rank = by_parents parents ranked }

-- no ranks
abbrev pub unranked : List (Option Record) → Record → Unit {0}
unranked parents r = tt

-- of these records those that who asks may read and that are kept
abbrev pub picked : {R : Type 0} → Judging R → Asked → List Record → List Record
picked j a rs = filter (j.keep a) (filter (can_read a.tenant a.user) rs)

-- the rank and the id of a record, if it is kept
abbrev pub RanksKept : {R : Type 0} → (Record → Bool) → (Record → R) → Record → Result (Option (R × List ℕ)) CodecFail → Type 0
RanksKept keep rank r (Ok found) = found ≡ (if keep r then Some (rank r, r.id) else None)
RanksKept keep rank r (Err codec.Damaged) = ⊥
RanksKept keep rank r (Err codec.Memory) = Unit {0}

-- the rank and the id of a record, and the records of its parents, if it is kept
abbrev pub judged : {R : Type 0} → (List (Option Record) → Record → Bool) → (List (Option Record) → Record → R) → (Asked → Record → List (Option Record))
    → Asked → Record → Option (R × (List ℕ × List (Option Record)))
judged keep ranked parents a r =
    if by_parents parents keep a r then Some (by_parents parents ranked a r, (r.id, parents a r)) else None

-- a row of this record, with the records of its parents
pub record IsOf (l : Layout) (parents : Record → List (Option Record)) (c : Candidate) (r : Record) : Type 0 where
  pub spelled : kept_record l c.kept ≡ Some r
  pub beside : c.parents ≡ parents r

-- the row spells this record
abbrev pub Spells : Layout → KeptRow → Record → Type 0
Spells l row r = kept_record l row ≡ Some r

-- so it is of whoever asks so, and of the records of the object of which these are
abbrev pub OfRows : {X : Type 0} → Layout → (who : OrgPlan → Asked → Type 0) → (Asked → X → Record → Type 0) → (rows : List X) → Tables → (Asked → List Record → Type 0) → Type 0
OfRows l who P rows m T =
    InTenants l who m (λ a. (page : List Record) → EachOf (P a) rows page → ((r : Record) → Has page r → Has (records_of a.tenant l.object) r) → T a page)

-- the same of one row
abbrev pub OfOne : {X : Type 0} → Layout → (who : OrgPlan → Asked → Type 0) → (Asked → X → Record → Type 0) → X → Tables → (Asked → Record → Type 0) → Type 0
OfOne l who P x m T = InTenants l who m (λ a. (r : Record) → Has (records_of a.tenant l.object) r → P a x r → T a r)
