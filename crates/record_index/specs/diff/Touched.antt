-- The rows that differ where an edit touches some records: makes, changes, clears or takes them away, as a delete does with all
-- its cascade.
use Rattle.std.specs.Prelude.{◌≡◌, ℕ, ◌≤◌, Bool, true, false, if◌then◌else◌, List, ◌++◌, map, filter, Option, None, Some, bytes_eq}
use Rattle.std.specs.List.{AllByRecursion, flat_map, list_any}
use Rattle.store_rows.specs.Keys.{Data, Index, Key, Object, Org, Relation, Share, Unique}
use Rattle.model.specs.declared.record.Record.{Record}
use Rattle.model.specs.Deletes.{loses_lookup}
use Rattle.model.specs.Membership.{Has}
use Rattle.model.specs.Objects.{is_of, object_number, object_numbered, record_at}
use Rattle.model.specs.Tenant as model
use Rattle.model.specs.Tenant.{Tenant}
use Rattle.record_index.specs.Changed.{kept_entry, record_changes}
use Rattle.store_abstraction.specs.Changes.{Change, IsOf, is_changed}
use Rattle.store_abstraction.specs.Entries.{is_unique, slot_entry}
use Rattle.store_abstraction.specs.Plan.{OrgPlan, slot_count}
use Rattle.store_abstraction.specs.Stands.{Kept, kept_at, org_of_key, row_in}
use Rattle.base_value.specs.declared.value.Value.{Value}

-- ---- what is touched

-- one of these ids
abbrev pub has : List (List ℕ) → List ℕ → Bool
has ids i = list_any (λ x. bytes_eq x i) ids

-- the tenant with other records and shares, and another counter
abbrev pub with_content : (counter : ℕ) → List Record → List model.Share → Tenant → Tenant
with_content counter records shares t = record t { counter = counter; records = records; shares = shares }

-- the plan with something else left of records
abbrev pub with_left : (List ℕ → Option Value) → OrgPlan → OrgPlan
with_left left p = record p { left = left }

-- the plan by which nothing was left at this id
abbrev pub fresh_plan : List ℕ → OrgPlan → OrgPlan
fresh_plan id p = with_left (λ i. if bytes_eq i id then None else p.left i) p

-- only content differs between two tenants, and of records and of what is left of them that of these ids alone
pub record IsTouched (p q : OrgPlan) (t u : Tenant) (ids : List (List ℕ)) : Type 0 where
  pub content : u ≡ with_content u.counter u.records u.shares t
  pub plan : q ≡ with_left q.left p
  pub records : (i : List ℕ) → has ids i ≡ false → record_at u i ≡ record_at t i
  pub left : (i : List ℕ) → has ids i ≡ false → q.left i ≡ p.left i

-- ---- what is kept alike

-- two records, or none, with the same in all slots
abbrev pub SameKept : Option Kept → Option Kept → Type 0
SameKept None None = Unit {0}
SameKept (Some k) (Some l) = (k.item ≡ l.item) × ((s : ℕ) → k.entries s ≡ l.entries s)
SameKept _ _ = ⊥

-- the objects are the same, and the records that don't have one of these ids are kept alike
pub record IsAlike (p q : OrgPlan) (t u : Tenant) (ids : List (List ℕ)) : Type 0 where
  pub objects : u.objects ≡ t.objects
  pub others : (n : ℕ) (i : List ℕ) → has ids i ≡ false → SameKept (kept_at q u n i) (kept_at p t n i)

-- the key of a record, or of a value
abbrev pub is_valued : Key → Bool
is_valued (Data org n i) = true
is_valued (Index org n s key i) = true
is_valued (Unique org n s key) = true
is_valued (Relation org n s target i) = true
is_valued _ = false

-- ---- the rows

-- those of one id that differ, whether its record is there before and after or not
abbrev pub changes_at : (org : ℕ) → (p q : OrgPlan) → (t u : Tenant) → (id : List ℕ) → List Change
changes_at org p q t u i = record_changes org (object_number i) i (kept_at p t (object_number i) i) (kept_at q u (object_number i) i)

-- those of all that are touched
abbrev pub touched_changes : (org : ℕ) → (p q : OrgPlan) → (t u : Tenant) → (ids : List (List ℕ)) → List Change
touched_changes org p q t u ids = flat_map (changes_at org p q t u) ids

-- ---- what sound tenants and plans that fit them have

-- nothing is past the last slot
abbrev pub AllLow : OrgPlan → Tenant → Type 0
AllLow p t = (n : ℕ) (i : List ℕ) (s : ℕ) → slot_count ≤ s → kept_entry (kept_at p t n i) s ≡ None

-- each record is the one that its id names
abbrev pub HasEach : Tenant → Type 0
HasEach t = (y : Record) → Has t.records y → record_at t y.id ≡ Some y

-- at most one record of an object has a key in a slot whose values are unique
abbrev pub OneHolder : OrgPlan → Tenant → Type 0
OneHolder p t =
    (n : ℕ) (o : model.Object) (s : ℕ) (key : List ℕ) (y z : Record)
    → object_numbered t n ≡ Some o → Has t.records y → Has t.records z → is_of n y ≡ true → is_of n z ≡ true
    → is_unique key (slot_entry p t.job n o y s) ≡ true → is_unique key (slot_entry p t.job n o z s) ≡ true → y.id ≡ z.id

pub record HasSoundRows (p : OrgPlan) (t : Tenant) : Type 0 where
  pub low : AllLow p t
  pub each : HasEach t
  pub one : OneHolder p t

-- no record has a unique value afterwards that a touched one, which had it, has no more
abbrev pub NoneTakes : (p q : OrgPlan) → (t u : Tenant) → List (List ℕ) → Type 0
NoneTakes p q t u ids =
    (n s : ℕ) (key i j : List ℕ) → has ids i ≡ true
    → is_unique key (kept_entry (kept_at p t n i) s) ≡ true → is_unique key (kept_entry (kept_at q u n i) s) ≡ false
    → is_unique key (kept_entry (kept_at q u n j) s) ≡ false

-- ---- the rows that count or share

-- the key of the organisation's row, of an object's, or of a share
abbrev pub is_counted : Key → Bool
is_counted (Org org) = true
is_counted (Object org n) = true
is_counted (Share org i to) = true
is_counted _ = false

-- among these changes are all rows of such keys that differ, and each is to what there is afterwards
pub record AreCounts (org : ℕ) (p q : OrgPlan) (t u : Tenant) (changes : List Change) : Type 0 where
  pub of : AllByRecursion (IsOf org q u) changes
  pub rest : (k : Key) → org_of_key k ≡ Some org → is_counted k ≡ true → is_changed changes k ≡ false → row_in q u k ≡ row_in p t k

-- ---- what edits touch

-- the ids of these
abbrev pub record_ids : List Record → List (List ℕ)
record_ids rs = map (λ r. r.id) rs

-- a delete touches what goes, and what loses a lookup to it
abbrev pub touched_by : Tenant → (gone : List Record) → List (List ℕ)
touched_by t gone = record_ids gone ++ record_ids (filter (loses_lookup t gone) t.records)
