-- Ids: three characters of a prefix, and a number in twelve digits of base 62.
-- Source: Salesforce, "ID Field Type": 15 case-sensitive characters, or 18 whose last three tell which of the 15 are
-- capital letters. Which digits a number has is this product's own.
use Rattle.std.specs.Prelude.{◌≡◌, ℕ, ◌+◌, ◌-◌, ◌*◌, ◌^◌, Option, Some, None, Bool, ◌&&◌, ◌||◌, ◌==◌, nat_lt, nat_le, if◌then◌else◌, List, [], ◌∷◌, ◌++◌, length, map, take, drop, ◌⊎◌}
use Rattle.std.specs.List.{list_all}
use Rattle.std.specs.Str.{bytes_eq}
use Rattle.base_value.specs.Digits.{digits, digits_value}

-- the character of a digit from 0 to 61: `0` to `9`, `A` to `Z`, `a` to `z`
abbrev pub digit62 : ℕ → ℕ
digit62 d = if nat_lt d 10 then d + 48 else (if nat_lt d 36 then d + 55 else d + 61)

abbrev pub is_digit62 : ℕ → Bool
is_digit62 c = (nat_le 48 c && nat_le c 57) || (nat_le 65 c && nat_le c 90) || (nat_le 97 c && nat_le c 122)

-- the digit that a character stands for
abbrev pub value62 : ℕ → ℕ
value62 c = if nat_le c 57 then c - 48 else (if nat_le c 90 then c - 55 else c - 61)

-- the number that characters spell
unfoldable pub number62 : List ℕ → ℕ
number62 cs = digits_value 62 (map value62 cs)

-- the id with this prefix and number
unfoldable pub made : List ℕ → ℕ → List ℕ
made prefix n = prefix ++ map digit62 (digits 62 12 n)

-- the number below 10^15 that makes an id with this prefix, if one does
unfoldable pub number_in : List ℕ → List ℕ → Option ℕ
number_in prefix id = if bytes_eq (take 3 id) prefix && nat_lt (number62 (drop 3 id)) (10 ^ 15) then Some (number62 (drop 3 id)) else None

-- fifteen characters that are digits
abbrev pub is_id : List ℕ → Bool
is_id cs = (length cs == 15) && list_all is_digit62 cs

abbrev pub is_capital : ℕ → Bool
is_capital c = nat_le 65 c && nat_le c 90

-- bit i, the lowest first, says whether character i is a capital letter
abbrev pub capitals : List ℕ → ℕ
capitals [] = 0
capitals (c ∷ cs) = (if is_capital c then 1 else 0) + 2 * capitals cs

-- the character for five bits: `A` to `Z`, `0` to `5`
abbrev pub suffix_char : ℕ → ℕ
suffix_char n = if nat_lt n 26 then n + 65 else n + 22

-- one character for each group of five
abbrev pub suffix : List ℕ → List ℕ
suffix id = suffix_char (capitals (take 5 id)) ∷ suffix_char (capitals (take 5 (drop 5 id))) ∷ suffix_char (capitals (take 5 (drop 10 id))) ∷ []

-- the form of 18 characters
abbrev pub print18 : List ℕ → List ℕ
print18 id = id ++ suffix id

-- the two texts of an id
abbrev pub IsTextOf : List ℕ → List ℕ → Type 0
IsTextOf id text = (text ≡ id) ⊎ (text ≡ print18 id)

-- the id that a text spells, in 15 characters or in 18
unfoldable pub id_in : List ℕ → Option (List ℕ)
id_in text = if is_id (take 15 text) && (bytes_eq (drop 15 text) [] || bytes_eq (drop 15 text) (suffix (take 15 text))) then Some (take 15 text) else None
