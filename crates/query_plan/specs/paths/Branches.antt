-- The records of branches: the parents that a row needs, each once; and the place among them to which a path leads.
-- Source: Salesforce, "SOQL and SOSL Reference", "Relationship Queries". That a parent which the user may not read is none is this
-- product's own.
use Rattle.std.specs.Prelude.{◌≡◌, ℕ, ◌<◌, List, [], ◌∷◌, ◌++◌, length, Option, Some, None, IfSome, slice_get}
use Rattle.std.specs.Option.{option_and_then}
use Rattle.model.specs.declared.record.Record.{Record}
use Rattle.model.specs.Membership.{Has}
use Rattle.model.specs.Objects.{records_of}
use Rattle.model.specs.Paths.{Asked, if_readable, parent_of}
use Rattle.model.specs.Relationships.{Reference, parent_named}
use Rattle.model.specs.Tenant.{Tenant}
use Rattle.store_abstraction.specs.Layouts.{IsLayout}
use Rattle.store_abstraction.specs.Plan.{OrgPlan}
use Rattle.query_plan.specs.declared.paths.branches.Branch.{Branch}
use Rattle.query_plan.specs.declared.paths.branches.Place.{Place}
use Rattle.query_plan.specs.declared.paths.parents.ParentStep.{ParentStep}
use Rattle.query_plan.specs.paths.Ways.{led_to, path_end, record_to}

-- ---- records

-- the record from which a step leads, where these are the records of the branches before: the row's own, or that of one of them
abbrev pub record_above : Record → (before : List (Option Record)) → (above : Option ℕ) → Option Record
record_above r before None = Some r
record_above r before (Some n) = option_and_then (λ p. p) (slice_get before n)

-- the record of a branch, if the user may read it
abbrev pub branch_record : Asked → Record → (before : List (Option Record)) → Branch → Option Record
branch_record a r before b =
    option_and_then (λ p. option_and_then (if_readable a) (record_to a.tenant b.step p)) (record_above r before b.above)

-- those of branches, in their order, behind those before
abbrev pub branch_records : Asked → Record → (before : List (Option Record)) → List Branch → List (Option Record)
branch_records a r before [] = before
branch_records a r before (b ∷ branches) = branch_records a r (before ++ branch_record a r before b ∷ []) branches

-- ---- branches

-- the branch with this number is among these; where there is no number, it is the row's record
abbrev pub IsAmong : List Branch → Option ℕ → Type 0
IsAmong branches at = IfSome at (λ n. n < length branches)

-- each leads from the row's record, or from that of a branch before it
abbrev pub AreBranches : List Branch → Type 0
AreBranches branches = (n : ℕ) (b : Branch) → slice_get branches n ≡ Some b → IfSome b.above (λ m. m < n)

-- no two of them lead by the same step from the same record
abbrev pub AreApart : List Branch → Type 0
AreApart branches = (n m : ℕ) (b : Branch) → slice_get branches n ≡ Some b → slice_get branches m ≡ Some b → n ≡ m

-- the old branches stay where they are, and those that are added are behind them
pub record AddsBranches (old new : List Branch) : Type 0 where
  pub more : List Branch
  pub behind : new ≡ old ++ more
  pub order : AreBranches new

-- ---- places

-- from the object with this number, names lead to this place
pub record LeadTo (q : OrgPlan) (t : Tenant) (n : ℕ) (names : List (List ℕ)) (branches : List Branch) (p : Place) : Type 0 where
  -- they spell these steps, and the place's layout is that of the object at their end
  pub steps : List ParentStep
  pub spelled : path_end t n names ≡ Some (steps, p.layout.now.object)
  pub layout : IsLayout q t p.layout.now
  -- from any row's record and for whoever asks, the steps lead to the record of the place's branch
  pub among : IsAmong branches p.branch
  pub reached : (a : Asked) (r : Record) → record_above r (branch_records a r [] branches) p.branch ≡ led_to a steps r

-- what is found is the place to which they lead; nothing is found where they spell nothing
abbrev pub FindsPlace : OrgPlan → Tenant → (object : ℕ) → (names : List (List ℕ)) → List Branch → Option Place → Type 0
FindsPlace q t n names branches None = path_end t n names ≡ None
FindsPlace q t n names branches (Some p) = LeadTo q t n names branches p

-- ---- a step on

-- the record of a place, for who asks and of this row's record
abbrev pub place_record : Asked → Record → List Branch → Place → Option Record
place_record a r branches p = record_above r (branch_records a r [] branches) p.branch

-- from a place, the parent relationship with this name leads to that place
pub record LeadsToParent (q : OrgPlan) (t : Tenant) (from : Place) (name : List ℕ) (branches : List Branch) (p : Place) : Type 0 where
  -- it is there, and the place's layout is that of the object to whose records it leads
  pub reference : Reference
  pub named : parent_named t from.layout.now.object name ≡ Some reference
  pub layout : IsLayout q t p.layout.now
  pub target : p.layout.now.object ≡ reference.target
  -- the place has a branch
  pub number : ℕ
  pub branch : p.branch ≡ Some number
  pub among : IsAmong branches p.branch
  -- of any row's record, for whoever asks and whatever branches follow: where there is no record, there is no parent
  pub none :
      (a : Asked) (r : Record) (more : List Branch) → a.tenant ≡ t
      → place_record a r (branches ++ more) from ≡ None → place_record a r (branches ++ more) p ≡ None
  -- where there is one, it is that one's parent, and of the place's object
  pub parent :
      (a : Asked) (r s : Record) (more : List Branch) → a.tenant ≡ t
      → place_record a r (branches ++ more) from ≡ Some s → Has (records_of t from.layout.now.object) s
      → place_record a r (branches ++ more) p ≡ parent_of a s name
  pub found :
      (a : Asked) (s x : Record) → a.tenant ≡ t → Has (records_of t from.layout.now.object) s
      → parent_of a s name ≡ Some x → Has (records_of t p.layout.now.object) x

-- what is found is the place to which it leads; nothing is found where there is no such relationship
abbrev pub FindsParent : OrgPlan → Tenant → (from : Place) → (name : List ℕ) → List Branch → Option Place → Type 0
FindsParent q t from name branches None = parent_named t from.layout.now.object name ≡ None
FindsParent q t from name branches (Some p) = LeadsToParent q t from name branches p
