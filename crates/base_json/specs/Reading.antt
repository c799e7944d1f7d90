-- Reading by functions: the value at the front of a text, and what stands behind it.
use Rattle.std.specs.Prelude.{ℕ, zero, suc, Bool, true, false, ◌||◌, ◌==◌, nat_lt, if◌then◌else◌, List, [], ◌∷◌, ◌++◌, length, Option, Some, None}
use Rattle.std.specs.Str.{chars, is_utf8}
use Rattle.base_value.specs.Numerals.{exactly, is_digit, of_digits, signed}
use Rattle.base_json.specs.Characters.{after_spaces, digits_at, after_digits, short_escape, code_unit, is_high, is_low, paired}
use Rattle.base_json.specs.Numerals.{Parts, has_leading_zero, is_exponent_mark, up_of, down_of}
use Rattle.base_json.specs.Grammar.{depth}
use Rattle.base_json.specs.declared.tree.Num.{Num}
use Rattle.base_json.specs.declared.tree.Num.TheVariants.{Exact, Beyond}
use Rattle.base_json.specs.declared.tree.Json.{Json}
use Rattle.base_json.specs.declared.tree.Json.TheVariants as j
use Rattle.base_json.specs.declared.tree.Member.{Member}

abbrev pub Found : Type 0 → Type 0
Found A = Option (A × List ℕ)

abbrev pub Reader : Type 0 → Type 0
Reader A = List ℕ → Found A

infixl 10 ◌>>=◌
abbrev pub ◌>>=◌ : {X Y : Type 0} → Option X → (X → Option Y) → Option Y
(Some x) >>= f = f x
None >>= f = None

-- what stands behind this character
abbrev pub behind : ℕ → List ℕ → Option (List ℕ)
behind c [] = None
behind c (x ∷ xs) = if x == c then Some xs else None

-- ---- numbers

abbrev pub some_digits : List ℕ → List ℕ → Found (List ℕ)
some_digits [] rest = None
some_digits (d ∷ ds) rest = Some (d ∷ ds, rest)

unfoldable pub digits : Reader (List ℕ)
digits cs = some_digits (digits_at cs) (after_digits cs)

abbrev pub signed_by : List ℕ → Option (List ℕ) → Bool × List ℕ
signed_by cs None = (false, cs)
signed_by cs (Some rest) = (true, rest)

unfoldable pub minus : List ℕ → Bool × List ℕ
minus cs = signed_by cs (behind 45 cs)

unfoldable pub whole : Reader (List ℕ)
whole cs = digits cs >>= λ d. if has_leading_zero d.0 then None else Some d

abbrev pub fraction_by : List ℕ → Option (List ℕ) → Found (List ℕ)
fraction_by cs None = Some ([], cs)
fraction_by cs (Some after) = digits after

unfoldable pub fraction : Reader (List ℕ)
fraction cs = fraction_by cs (behind 46 cs)

unfoldable pub power_sign : List ℕ → Bool × List ℕ
power_sign [] = (false, [])
power_sign (c ∷ cs) = if c == 45 then (true, cs) else (if c == 43 then (false, cs) else (false, c ∷ cs))

abbrev pub power : Bool × List ℕ → Found (Bool × List ℕ)
power sign = digits sign.1 >>= λ d. Some ((sign.0, d.0), d.1)

unfoldable pub exponent : Reader (Bool × List ℕ)
exponent [] = Some ((false, []), [])
exponent (c ∷ cs) = if is_exponent_mark c then power (power_sign cs) else Some ((false, []), c ∷ cs)

unfoldable pub literal : Reader Parts
literal cs =
    whole (minus cs).1 >>= λ w. fraction w.1 >>= λ f. exponent f.1 >>= λ e.
    Some (record { minus = (minus cs).0; whole = w.0; fraction = f.0; down = e.0.0; power = e.0.1 }, e.1)

abbrev pub num_of : Bool → Option ℕ → Num
num_of sign None = Beyond
num_of sign (Some n) = Exact (signed sign n)

unfoldable pub amount : Parts → Num
amount p = num_of p.minus (exactly (of_digits (p.whole ++ p.fraction)) (length p.fraction) (up_of p) (down_of p))

unfoldable pub numeral : Reader Num
numeral cs = literal cs >>= λ p. Some (amount p.0, p.1)

-- ---- repetition: a turn gives what it read, whether another one follows, and what stands behind

abbrev pub Turn : Type 0 → Type 0
Turn A = List A × Bool × List ℕ

abbrev pub go_on : {A : Type 0} → (List ℕ → Found (List A)) → Turn A → Found (List A)
go_on next t = if t.1 then (next t.2 >>= λ got. Some (t.0 ++ got.0, got.1)) else Some (t.0, t.2)

-- the number bounds the turns
unfoldable pub collect : {A : Type 0} → (List ℕ → Option (Turn A)) → ℕ → List ℕ → Found (List A)
collect turn zero cs = None
collect turn (suc n) cs = turn cs >>= go_on (collect turn n)

-- with as many turns as there can be
unfoldable pub repeated : {A : Type 0} → (List ℕ → Option (Turn A)) → Reader (List A)
repeated turn cs = collect turn (suc (length cs)) cs

-- what was read before, in front
abbrev pub with_front : {A : Type 0} → List A → Found (List A) → Found (List A)
with_front front found = found >>= λ got. Some (front ++ got.0, got.1)

-- ---- strings

unfoldable pub unit_of : Reader ℕ
unit_of [] = None
unit_of (a ∷ []) = None
unit_of (a ∷ b ∷ []) = None
unit_of (a ∷ b ∷ c ∷ []) = None
unit_of (a ∷ b ∷ c ∷ d ∷ rest) = code_unit a b c d >>= λ u. Some (u, rest)

unfoldable pub second_unit : Reader ℕ
second_unit cs = behind 92 cs >>= λ after. behind 117 after >>= unit_of

unfoldable pub low_unit : ℕ → Reader ℕ
low_unit high cs = second_unit cs >>= λ low. if is_low low.0 then Some (paired high low.0, low.1) else None

abbrev pub surrogate : ℕ × List ℕ → Found ℕ
surrogate u = if is_high u.0 then low_unit u.0 u.1 else (if is_low u.0 then None else Some u)

unfoldable pub escape : Reader ℕ
escape [] = None
escape (e ∷ cs) = if e == 117 then (unit_of cs >>= surrogate) else (short_escape e >>= λ u. Some (u, cs))

unfoldable pub character_turn : List ℕ → Option (Turn ℕ)
character_turn [] = None
character_turn (c ∷ cs) =
    if c == 34 then Some ([], false, cs)
    else (if c == 92 then (escape cs >>= λ u. Some (u.0 ∷ [], true, u.1))
    else (if nat_lt c 32 then None else Some (c ∷ [], true, cs)))

unfoldable pub content : Reader (List ℕ)
content cs = repeated character_turn cs

unfoldable pub quoted : Reader (List ℕ)
quoted cs = behind 34 cs >>= content

-- ---- values

-- whether a comma stands here, where else only the end may
unfoldable pub separator : ℕ → Reader Bool
separator end [] = None
separator end (c ∷ cs) = if c == 44 then Some (true, cs) else (if c == end then Some (false, cs) else None)

unfoldable pub item_turn : {A : Type 0} → Reader A → ℕ → List ℕ → Option (Turn A)
item_turn item end cs = item cs >>= λ x. separator end x.1 >>= λ s. Some (x.0 ∷ [], s.0, s.1)

abbrev pub listed_by : {A : Type 0} → Option (List ℕ) → Found (List A) → Found (List A)
listed_by (Some rest) found = Some ([], rest)
listed_by None found = found

unfoldable pub listed : {A : Type 0} → Reader A → ℕ → Reader (List A)
listed item end cs = listed_by (behind end (after_spaces cs)) (repeated (item_turn item end) cs)

unfoldable pub element : Reader Json → Reader Json
element value cs = value (after_spaces cs) >>= λ v. Some (v.0, after_spaces v.1)

unfoldable pub pair : Reader Json → Reader Member
pair value cs =
    quoted (after_spaces cs) >>= λ name. behind 58 (after_spaces name.1) >>= λ next. element value next >>= λ v.
    Some (record { name = name.0; value = v.0 }, v.1)

unfoldable pub after_word : List ℕ → List ℕ → Option (List ℕ)
after_word [] cs = Some cs
after_word (w ∷ ws) cs = behind w cs >>= after_word ws

unfoldable pub named : Reader Json
named [] = None
named (c ∷ cs) =
    if c == 110 then (after_word (117 ∷ 108 ∷ 108 ∷ []) cs >>= λ rest. Some (j.Null, rest))
    else (if c == 116 then (after_word (114 ∷ 117 ∷ 101 ∷ []) cs >>= λ rest. Some (j.Bool true, rest))
    else (if c == 102 then (after_word (97 ∷ 108 ∷ 115 ∷ 101 ∷ []) cs >>= λ rest. Some (j.Bool false, rest)) else None))

abbrev pub read_never : {A : Type 0} → Reader A
read_never cs = None

unfoldable pub value_of : Reader (List Json) → Reader (List Member) → Reader Json
value_of lists objects [] = None
value_of lists objects (c ∷ cs) =
    if c == 34 then (content cs >>= λ t. Some (j.Text t.0, t.1))
    else (if c == 91 then (lists cs >>= λ xs. Some (j.List xs.0, xs.1))
    else (if c == 123 then (objects cs >>= λ ms. Some (j.Object ms.0, ms.1))
    else (if (c == 45) || is_digit c then (numeral (c ∷ cs) >>= λ n. Some (j.Number n.0, n.1))
    else named (c ∷ cs))))

unfoldable pub value : ℕ → Reader Json
value zero = value_of read_never read_never
value (suc levels) = value_of (listed (element (value levels)) 93) (listed (pair (value levels)) 125)

-- what stands behind an opening bracket, by the levels that are left
abbrev pub lists_at : ℕ → Reader (List Json)
lists_at zero = read_never
lists_at (suc levels) = listed (element (value levels)) 93

abbrev pub objects_at : ℕ → Reader (List Member)
objects_at zero = read_never
objects_at (suc levels) = listed (pair (value levels)) 125

abbrev pub at_end : {A : Type 0} → A → List ℕ → Option A
at_end v [] = Some v
at_end v (c ∷ cs) = None

unfoldable pub text : List ℕ → Option Json
text cs = element (value depth) cs >>= λ v. at_end v.0 v.1

-- the value that bytes spell, by their characters
abbrev pub value_in : List ℕ → Option Json
value_in bytes = if is_utf8 bytes then text (chars bytes) else None
