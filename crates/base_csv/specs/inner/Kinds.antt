-- What a private function tells of a record that can't be read: a word of its contract alone.
use Rattle.std.specs.Prelude.{◌≡◌, ◌+◌, ℕ, List, min, not}
use Rattle.csv.specs.Records.{AllText}
use Rattle.csv.specs.declared.error.ErrorKind.{ErrorKind}
use Rattle.csv.specs.declared.error.ErrorKind.TheVariants as kind
use Rattle.std.specs.List.{position_or_len}
use Rattle.std.specs.Str.{is_utf8}
use Rattle.base_csv.specs.declared.fail.TableFail.{TableFail}
use Rattle.base_csv.specs.declared.fail.TableFail.TheVariants.{Memory, Refused}

-- these are the row, the line and the column of a refusal
abbrev pub Tells : (row line column : ℕ) → TableFail → Type 0
Tells row line column (Refused r l c) = (r ≡ row) × (l ≡ line) × (c ≡ column)
Tells row line column Memory = Unit {0}

abbrev pub IsMemory : TableFail → Type 0
IsMemory (Refused r l c) = ⊥
IsMemory Memory = Unit {0}

-- of a record of another length the column is that of the first cell that it lacks or has too many; no other error tells of a record
abbrev pub TellsWidth : ErrorKind → (row line : ℕ) → TableFail → Type 0
TellsWidth (kind.UnequalLengths pos expected len) row line fail = Tells row line (min expected len + 1) fail
TellsWidth (kind.Utf8 pos err) row line fail = IsMemory fail
TellsWidth (kind.Io e) row line fail = IsMemory fail
TellsWidth kind.OutOfMemory row line fail = IsMemory fail
TellsWidth (kind.Serialize why) row line fail = IsMemory fail
TellsWidth (kind.Deserialize pos err) row line fail = IsMemory fail

-- these cells aren't all UTF-8, and the column is that of the first that isn't
abbrev pub TellsText : (cells : List (List ℕ)) (row line : ℕ) → TableFail → Type 0
TellsText cells row line (Refused r l c) = ¬ (AllText cells) × Tells row line (position_or_len (λ cell. not (is_utf8 cell)) cells + 1) (Refused r l c)
TellsText cells row line Memory = Unit {0}
