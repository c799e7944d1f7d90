-- The records of a CSV source, and the first of them that is refused.
-- Sources: RFC 4180, as the crate `csv` reads it with its default settings: cells are parted by commas and may be in
-- quotes, a record ends with CR, LF or both, an empty line is passed over, and each record has as many cells as the
-- first. UTF-8: RFC 3629. The byte order mark is U+FEFF in UTF-8.
use Rattle.std.specs.Prelude.{ℕ, Bool, ◌&&◌, not, nat_eq, if◌then◌else◌, List, [], ◌∷◌, length, Option, Some}
use Rattle.std.specs.List.{list_all, position, starts_with}
use Rattle.std.specs.Str.{is_utf8}
use Rattle.csv.specs.Reading.{default_config, records, strip_bom}

abbrev pub two_marks : List ℕ
two_marks = 0xEF ∷ 0xBB ∷ 0xBF ∷ 0xEF ∷ 0xBB ∷ 0xBF ∷ []

abbrev pub begins_with_two_marks : List ℕ → Bool
begins_with_two_marks source = starts_with nat_eq source two_marks

-- the records of a source, as lists of cells; one byte order mark at the beginning is passed over
abbrev pub table_of : List ℕ → List (List (List ℕ))
table_of source = records default_config (strip_bom source)

-- whether each cell is UTF-8
abbrev pub is_text : List (List ℕ) → Bool
is_text cells = list_all is_utf8 cells

-- whether a record is text and has as many cells as the heading
abbrev pub fits : List (List ℕ) → List (List ℕ) → Bool
fits heading cells = is_text cells && nat_eq (length cells) (length heading)

-- the number of the first record that doesn't fit the heading, which itself has the number 0; 0 where there is no record
abbrev pub first_unfit : List (List (List ℕ)) → Option ℕ
first_unfit [] = Some 0
first_unfit (heading ∷ rows) = position (λ cells. not (fits heading cells)) (heading ∷ rows)

-- the number of the first record that is refused, if one is; 0 where the source begins with two byte order marks
abbrev pub first_refused : List ℕ → Option ℕ
first_refused source = if begins_with_two_marks source then Some 0 else first_unfit (table_of source)
