-- What a draft reads, and what its calls do.
use Rattle.std.specs.Prelude.{◌≡◌, ℕ, ◌+◌, ◌-◌, ◌≤◌, List, [], Option, length}
use Rattle.std.specs.BTreeMap.{BTreeMap}
use Rattle.store_kv.specs.declared.draft.Draft.{Draft}
use Rattle.store_kv.specs.Tables.{Place, Tables}
use Rattle.store_kv.specs.State.{KeeperState, Tells, Reads, ShowsMost, data_table}
use Rattle.store_kv.specs.Laid.{laid, removals}

-- a draft over a keeper
abbrev pub Held : Type 0 → Type 0
Held K = Draft K (BTreeMap Place (Option (List ℕ)))

-- the keeper under the draft
abbrev pub keeper_of : {K : Type 0} → Held K → K
keeper_of d = d.keeper.now

-- how many places the draft changes
abbrev pub count_of : {K : Type 0} → Held K → ℕ
count_of d = length d.changes.entries

-- the draft changes nothing
abbrev pub ChangesNothing : {K : Type 0} → Held K → Type 0
ChangesNothing d = d.changes.entries ≡ []

module _ {K : Type 0} (state : K → KeeperState) where
  -- what the draft's keeper shows
  abbrev pub state_of : Held K → KeeperState
  state_of d = state d.keeper.now

  -- the keeper as it will be after the draft's changes
  abbrev pub tables_of : Held K → Tables
  tables_of d = laid d.changes.entries (state d.keeper.now).tables

  -- how many rows of a table the draft removes
  abbrev pub removals_of : ℕ → Held K → ℕ
  removals_of t d = removals t d.changes.entries

  -- the keeper told its tables before the call, and is still trusted after it
  abbrev pub DraftTells : Held K → Held K → Type 0
  DraftTells old new = Tells (state old.keeper.now) (state new.keeper.now)

  -- a call that only reads, to which at most this number of data rows was shown
  pub record DraftReads (shown : ℕ) (old new : Held K) : Type 0 where
    pub same_reference : new.keeper.ghost_name ≡ old.keeper.ghost_name
    pub changes : new.changes.entries ≡ old.changes.entries
    pub reads : Reads (state old.keeper.now) (state new.keeper.now)
    pub shows : DraftTells old new → ShowsMost shown (state old.keeper.now) (state new.keeper.now)

  -- a call that changes at most `most` more places, removes at most `gone` more data rows, and to which at most `shown` data rows were shown
  pub record DraftWorks (most gone shown : ℕ) (old new : Held K) : Type 0 where
    pub same_reference : new.keeper.ghost_name ≡ old.keeper.ghost_name
    pub changes : length new.changes.entries ≤ length old.changes.entries + most
    pub removals : removals_of data_table new ≤ removals_of data_table old + gone
    pub reads : Reads (state old.keeper.now) (state new.keeper.now)
    pub shows : DraftTells old new → ShowsMost shown (state old.keeper.now) (state new.keeper.now)

  -- the bound of a call that has none: by what the count rose
  abbrev pub rise : Held K → Held K → ℕ
  rise old new = (state new.keeper.now).shown data_table - (state old.keeper.now).shown data_table
