-- Where a refused record stands in its source: its line and its column, both from 1.
use Rattle.std.specs.Prelude.{ℕ, zero, suc, ◌+◌, ◌-◌, ◌==◌, ◌≡◌, ◌&&◌, ◌||◌, Bool, false, not, nat_eq, if◌then◌else◌, min, List, [], ◌∷◌, length, take, get_or, Option, Some, None}
use Rattle.std.specs.List.{position_or_len}
use Rattle.std.specs.Str.{is_utf8}
use Rattle.csv.specs.Machine.{Read, next_record}
use Rattle.csv.specs.Reading.{default_config, strip_bom}
use Rattle.csv.specs.declared.parser.State.{State}
use Rattle.csv.specs.declared.parser.State.TheVariants as st
use Rattle.base_csv.specs.Table.{begins_with_two_marks, first_refused, table_of}
use Rattle.base_csv.specs.declared.fail.TableFail.{TableFail}
use Rattle.base_csv.specs.declared.fail.TableFail.TheVariants.{Memory, Refused}

-- ---- lines

-- how many lines end: CR ends one, and LF does so where it doesn't follow a CR
unfoldable pub line_ends : (after_return : Bool) → List ℕ → ℕ
line_ends after [] = 0
line_ends after (c ∷ rest) = (if (c == 13) || ((c == 10) && not after) then 1 else 0) + line_ends (c == 13) rest

-- the bytes after a record, and after so many more
abbrev pub after_next : (State → List ℕ → List ℕ) → Option Read → List ℕ
after_next more None = []
after_next more (Some p) = more p.1 p.2

-- the bytes after so many records
unfoldable pub after_records : ℕ → State → List ℕ → List ℕ
after_records zero s bytes = bytes
after_records (suc n) s bytes = after_next (after_records n) (next_record default_config s [] [] bytes)

-- the bytes after line ends, which stand before a record and are no part of it
unfoldable pub past_ends : List ℕ → List ℕ
past_ends [] = []
past_ends (c ∷ rest) = if (c == 13) || (c == 10) then past_ends rest else c ∷ rest

-- the bytes before the record with this number, and after a byte order mark
abbrev pub before_record : ℕ → List ℕ → List ℕ
before_record row source =
    let bytes = strip_bom source in
    take (length bytes - length (past_ends (after_records row st.StartRecord bytes))) bytes

-- a record stands in the line in which it begins
abbrev pub line_of : ℕ → List ℕ → ℕ
line_of row source = line_ends false (before_record row source) + 1

-- ---- columns

-- the first cell that a record lacks or has too many, or where it has as many as the heading its first that isn't UTF-8
abbrev pub column_in : (heading cells : List (List ℕ)) → ℕ
column_in heading cells =
    if nat_eq (length cells) (length heading) then position_or_len (λ cell. not (is_utf8 cell)) cells + 1
    else min (length heading) (length cells) + 1

-- the column of the record with this number; 1 where the source begins with two byte order marks
abbrev pub column_of : ℕ → List ℕ → ℕ
column_of row source =
    if begins_with_two_marks source then 1 else column_in (get_or (table_of source) 0 []) (get_or (table_of source) row [])

-- ---- what is told

-- the record that is refused first, and where it stands
pub record IsRefusedAt (source : List ℕ) (row line column : ℕ) : Type 0 where
  pub refused : first_refused source ≡ Some row
  pub line_is : line ≡ line_of row source
  pub column_is : column ≡ column_of row source

-- a refusal tells this
abbrev pub TellsPlace : List ℕ → TableFail → Type 0
TellsPlace source (Refused row line column) = IsRefusedAt source row line column
TellsPlace source Memory = Unit {0}

-- a refusal is of the record with this number
abbrev pub RefusesRecord : ℕ → TableFail → Type 0
RefusesRecord n (Refused row line column) = row ≡ n
RefusesRecord n Memory = Unit {0}
