-- Rows without the first few, and at most so many.
use Rattle.std.specs.Prelude.{◌≡◌, ℕ, zero, suc, ◌+◌, ◌≤◌, Bool, true, false, List, drop, Option, Some, None}
use Rattle.model.specs.declared.record.Record.{Record}
use Rattle.model.specs.Rows.{limited}
use Rattle.query_exec.specs.declared.window.Window.{Window}

-- so many rows have all that are taken: OFFSET and LIMIT together
abbrev pub HasAll : (skip : ℕ) → (most : Option ℕ) → (count : ℕ) → Type 0
HasAll skip None count = ⊥
HasAll skip (Some zero) count = Unit {0}
HasAll skip (Some (suc n)) count = skip + suc n ≤ count

-- if so many rows are given, they are those that are left out first and those that are taken
abbrev pub IsWanted : (skip : ℕ) → (most : Option ℕ) → Option ℕ → Type 0
IsWanted skip most None = Unit {0}
IsWanted skip None (Some n) = ⊥
IsWanted skip (Some m) (Some n) = n ≡ skip + m

-- no row more
abbrev pub is_none_left : Option ℕ → Bool
is_none_left None = false
is_none_left (Some zero) = true
is_none_left (Some (suc n)) = false

abbrev pub is_over : Window → Bool
is_over w = is_none_left w.most

-- the rows that are taken: OFFSET comes before LIMIT
abbrev pub in_window : Window → List Record → List Record
in_window w rows = limited w.most (drop w.skip rows)
