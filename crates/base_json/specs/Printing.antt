-- What the writer writes: numbers, strings and marks. RFC 8259.
use Rattle.std.specs.Prelude.{◌≡◌, ℕ, suc, ℤ, pos, negsuc, ◌+◌, ◌/◌, ◌%◌, Bool, true, false, not, ◌==◌, ◌&&◌, ◌||◌, nat_le, nat_lt, if◌then◌else◌, List, [], ◌∷◌, ◌++◌, Option, Some, None}
use Rattle.std.specs.List.{flat_map}
use Rattle.base_value.specs.Numerals.{is_digit}
use Rattle.base_json.specs.Numerals.{stands, is_exponent_mark}
use Rattle.base_json.specs.declared.writer.Mark.{Mark}
use Rattle.base_json.specs.declared.writer.Mark.TheVariants.{OpenList, CloseList, OpenObject, CloseObject, Comma, Colon}

-- section 7: the letter that stands for a character behind a backslash
abbrev pub letter_for : ℕ → Option ℕ
letter_for c =
    if c == 34 then Some 34
    else (if c == 92 then Some 92
    else (if c == 8 then Some 98
    else (if c == 9 then Some 116
    else (if c == 10 then Some 110
    else (if c == 12 then Some 102
    else (if c == 13 then Some 114 else None))))))

-- section 7: a character that stands for itself, which is neither a quotation mark nor a backslash nor below a space
abbrev pub is_plain : ℕ → Bool
is_plain c = nat_le 32 c && not (c == 34) && not (c == 92)

abbrev pub hex_digit : ℕ → ℕ
hex_digit d = if nat_lt d 10 then 48 + d else 87 + d

abbrev pub escaped_by : Option ℕ → ℕ → List ℕ
escaped_by (Some letter) c = 92 ∷ letter ∷ []
escaped_by None c = if nat_lt c 32 then 92 ∷ 117 ∷ 48 ∷ 48 ∷ hex_digit (c / 16) ∷ hex_digit (c % 16) ∷ [] else c ∷ []

-- section 7: a character of a string
unfoldable pub escaped : ℕ → List ℕ
escaped c = escaped_by (letter_for c) c

-- section 7: a string
abbrev pub printed_text : List ℕ → List ℕ
printed_text cs = 34 ∷ (flat_map escaped cs ++ 34 ∷ [])

-- section 3
abbrev pub printed_truth : Bool → List ℕ
printed_truth true = 116 ∷ 114 ∷ 117 ∷ 101 ∷ []
printed_truth false = 102 ∷ 97 ∷ 108 ∷ 115 ∷ 101 ∷ []

abbrev pub printed_null : List ℕ
printed_null = 110 ∷ 117 ∷ 108 ∷ 108 ∷ []

-- section 2: the structural characters
abbrev pub mark_of : Mark → ℕ
mark_of OpenList = 91
mark_of CloseList = 93
mark_of OpenObject = 123
mark_of CloseObject = 125
mark_of Comma = 44
mark_of Colon = 58

-- ---- what the laws speak of

-- the size of a number
abbrev pub size : ℤ → ℕ
size (pos n) = n
size (negsuc n) = suc n

-- a character with which a number literal could go on
abbrev pub goes_on : ℕ → Bool
goes_on c = is_digit c || (c == 46) || is_exponent_mark c

-- a number literal in front ends here
abbrev pub Ends : List ℕ → Type 0
Ends rest = stands goes_on rest ≡ false
