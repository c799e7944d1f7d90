-- Classes of characters, and what stands behind a run of them. RFC 8259.
use Rattle.std.specs.Prelude.{ℕ, ◌+◌, ◌-◌, ◌*◌, Bool, ◌&&◌, ◌||◌, ◌==◌, nat_le, nat_lt, if◌then◌else◌, List, [], ◌∷◌, Option, Some, None}
use Rattle.std.specs.Char.{digit_value}
use Rattle.base_value.specs.Numerals.{is_digit}

-- a part of the grammar: a text, the value that its front spells, and the text behind
abbrev pub Part : Type 0 → Type 1
Part A = List ℕ → A → List ℕ → Type 0

-- section 2: space, tab, line feed, carriage return
abbrev pub is_space : ℕ → Bool
is_space c = (c == 32) || (c == 9) || (c == 10) || (c == 13)

-- section 2: what stands behind the white space at the front
abbrev pub after_spaces : List ℕ → List ℕ
after_spaces [] = []
after_spaces (c ∷ cs) = if is_space c then after_spaces cs else c ∷ cs

-- section 6: the digits at the front
abbrev pub digits_at : List ℕ → List ℕ
digits_at [] = []
digits_at (c ∷ cs) = if is_digit c then c ∷ digits_at cs else []

-- section 6: what stands behind them
abbrev pub after_digits : List ℕ → List ℕ
after_digits [] = []
after_digits (c ∷ cs) = if is_digit c then after_digits cs else c ∷ cs

-- section 7: what a backslash and this letter stand for, `\u` aside
abbrev pub short_escape : ℕ → Option ℕ
short_escape e =
    if e == 34 then Some 34
    else (if e == 92 then Some 92
    else (if e == 47 then Some 47
    else (if e == 98 then Some 8
    else (if e == 102 then Some 12
    else (if e == 110 then Some 10
    else (if e == 114 then Some 13
    else (if e == 116 then Some 9 else None)))))))

abbrev pub are_hex : ℕ → ℕ → ℕ → ℕ → Bool
are_hex a b c d = nat_lt (digit_value a) 16 && nat_lt (digit_value b) 16 && nat_lt (digit_value c) 16 && nat_lt (digit_value d) 16

-- section 7: the number that four hexadecimal digits of either case spell
unfoldable pub code_unit : ℕ → ℕ → ℕ → ℕ → Option ℕ
code_unit a b c d = if are_hex a b c d then Some (digit_value a * 4096 + digit_value b * 256 + digit_value c * 16 + digit_value d) else None

abbrev pub is_high : ℕ → Bool
is_high u = nat_le 55296 u && nat_lt u 56320

abbrev pub is_low : ℕ → Bool
is_low u = nat_le 56320 u && nat_lt u 57344

-- section 7: the character outside the Basic Multilingual Plane that two units stand for
abbrev pub paired : ℕ → ℕ → ℕ
paired high low = 65536 + (high - 55296) * 1024 + (low - 56320)
