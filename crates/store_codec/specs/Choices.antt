-- Parts of one byte that choose among names, and the flags of a field.
use Rattle.std.specs.Prelude.{ℕ, zero, suc, ◌+◌, ◌/◌, ◌%◌, Bool, true, false, not, ◌||◌, List, [], ◌∷◌, Option, Some, None, ◌==◌, nat_lt, if◌then◌else◌}
use Rattle.base_value.specs.declared.job.Outcome.{Outcome}
use Rattle.base_value.specs.declared.job.Outcome.TheVariants as outcome
use Rattle.base_value.specs.declared.job.Phase.{Phase}
use Rattle.base_value.specs.declared.job.Phase.TheVariants as phase
use Rattle.base_value.specs.declared.job.RuleState.{RuleState}
use Rattle.base_value.specs.declared.job.RuleState.TheVariants as state
use Rattle.base_value.specs.declared.sharing.Access.{Access}
use Rattle.base_value.specs.declared.sharing.Access.TheVariants as access
use Rattle.base_value.specs.declared.sharing.Level.{Level}
use Rattle.base_value.specs.declared.sharing.Level.TheVariants as level
use Rattle.base_value.specs.declared.value.OnDelete.{OnDelete}
use Rattle.base_value.specs.declared.value.OnDelete.TheVariants as delete
use Rattle.store_codec.specs.Plain.{◌>>=◌}
use Rattle.store_codec.specs.declared.choices.FieldFlags.{FieldFlags}
use Rattle.store_codec.specs.declared.choices.ObjectAccess.{ObjectAccess}
use Rattle.store_codec.specs.declared.choices.UserStanding.{UserStanding}

-- a flag is worth this number where it is set
abbrev pub worth : ℕ → Bool → ℕ
worth n true = n
worth n false = 0

-- ---- names

-- what is chosen
pub data Choice : Type 0 where
  Accesses : Choice
  Standings : Choice
  Levels : Choice
  Phases : Choice
  Outcomes : Choice
  States : Choice
  Deletes : Choice

abbrev pub Chosen : Choice → Type 0
Chosen Accesses = ObjectAccess
Chosen Standings = UserStanding
Chosen Levels = Level
Chosen Phases = Phase
Chosen Outcomes = Outcome
Chosen States = RuleState
Chosen Deletes = OnDelete

-- the number of an access
abbrev pub access_number : Access → ℕ
access_number access.Private = 0
access_number access.Read = 1
access_number access.ReadWrite = 2
access_number access.ControlledByParent = 3

-- where the hierarchy doesn't count, 4 more
abbrev pub access_byte : ObjectAccess → ℕ
access_byte x = access_number x.access + worth 4 (not x.hierarchy)

-- 1 for an administrator, and 2 more for who isn't active
abbrev pub standing_byte : UserStanding → ℕ
standing_byte x = worth 1 x.admin + worth 2 (not x.active)

-- whether an access is the object's own, and not its parent's
abbrev pub is_own : Access → Bool
is_own access.ControlledByParent = false
is_own _ = true

-- the byte of each name
abbrev pub byte_of : (c : Choice) → Chosen c → ℕ
byte_of Accesses x = access_byte x
byte_of Standings x = standing_byte x
byte_of Levels level.Nothing = 0
byte_of Levels level.Read = 1
byte_of Levels level.Edit = 2
byte_of Levels level.Full = 3
byte_of Phases phase.Copy = 0
byte_of Phases phase.Clear = 1
byte_of Phases phase.Done = 2
byte_of Outcomes outcome.Open = 0
byte_of Outcomes outcome.Switched = 1
byte_of Outcomes outcome.Failed = 2
byte_of Outcomes outcome.Cancelled = 3
byte_of States state.Whole = 0
byte_of States state.Building = 1
byte_of States state.Leaving = 2
byte_of Deletes delete.Clear = 0
byte_of Deletes delete.Restrict = 1

-- of levels only those that a share or a rule may give are spelled, and the hierarchy counts where the access is the parent's
abbrev pub is_spelled : (c : Choice) → Chosen c → Bool
is_spelled Accesses x = x.hierarchy || is_own x.access
is_spelled Levels level.Nothing = false
is_spelled Levels level.Full = false
is_spelled _ _ = true

-- the name of a byte, if it has one
abbrev pub of_byte : (c : Choice) → ℕ → Option (Chosen c)
of_byte Accesses zero = Some (record { access = access.Private; hierarchy = true })
of_byte Accesses (suc zero) = Some (record { access = access.Read; hierarchy = true })
of_byte Accesses (suc (suc zero)) = Some (record { access = access.ReadWrite; hierarchy = true })
of_byte Accesses (suc (suc (suc zero))) = Some (record { access = access.ControlledByParent; hierarchy = true })
of_byte Accesses (suc (suc (suc (suc zero)))) = Some (record { access = access.Private; hierarchy = false })
of_byte Accesses (suc (suc (suc (suc (suc zero))))) = Some (record { access = access.Read; hierarchy = false })
of_byte Accesses (suc (suc (suc (suc (suc (suc zero)))))) = Some (record { access = access.ReadWrite; hierarchy = false })
of_byte Standings zero = Some (record { admin = false; active = true })
of_byte Standings (suc zero) = Some (record { admin = true; active = true })
of_byte Standings (suc (suc zero)) = Some (record { admin = false; active = false })
of_byte Standings (suc (suc (suc zero))) = Some (record { admin = true; active = false })
of_byte Levels (suc zero) = Some level.Read
of_byte Levels (suc (suc zero)) = Some level.Edit
of_byte Phases zero = Some phase.Copy
of_byte Phases (suc zero) = Some phase.Clear
of_byte Phases (suc (suc zero)) = Some phase.Done
of_byte Outcomes zero = Some outcome.Open
of_byte Outcomes (suc zero) = Some outcome.Switched
of_byte Outcomes (suc (suc zero)) = Some outcome.Failed
of_byte Outcomes (suc (suc (suc zero))) = Some outcome.Cancelled
of_byte States zero = Some state.Whole
of_byte States (suc zero) = Some state.Building
of_byte States (suc (suc zero)) = Some state.Leaving
of_byte Deletes zero = Some delete.Clear
of_byte Deletes (suc zero) = Some delete.Restrict
of_byte _ _ = None

abbrev pub choice : (c : Choice) → Chosen c → List ℕ
choice c x = byte_of c x ∷ []

unfoldable pub choice_at : (c : Choice) → List ℕ → Option (Chosen c × List ℕ)
choice_at c [] = None
choice_at c (b ∷ rest) = of_byte c b >>= λ x. Some (x, rest)

-- ---- flags

-- 1 required, 2 unique, 4 indexed, added up
abbrev pub flags : FieldFlags → List ℕ
flags f = (worth 1 f.required + (worth 2 f.unique + worth 4 f.indexed)) ∷ []

abbrev pub flags_of : ℕ → FieldFlags
flags_of b = record { required = b % 2 == 1; unique = (b / 2) % 2 == 1; indexed = (b / 4) % 2 == 1 }

-- no number from 8 on is one
unfoldable pub flags_at : List ℕ → Option (FieldFlags × List ℕ)
flags_at [] = None
flags_at (b ∷ rest) = if nat_lt b 8 then Some (flags_of b, rest) else None
