-- The bytes of a value whose order is that of values: a byte for the kind, and the value.
-- Source of the spelling of texts: RFC 3629, UTF-8.
use Rattle.std.specs.Prelude.{ℕ, ◌-◌, ◌*◌, ◌^◌, true, false, List, [], ◌∷◌, encode_utf8_all, ℤ, pos, neg_ℤ, ◌+ℤ◌, ◌≤ℤ◌, ◌<ℤ◌, unsigned_abs}
use Rattle.caseless.specs.Caseless.{default_case_fold}
use Rattle.base_value.specs.Digits.{digits}
use Rattle.base_value.specs.Values.{kind_place}
use Rattle.base_value.specs.declared.value.Value.{Value}
use Rattle.base_value.specs.declared.value.Value.TheVariants as value

-- a signed number of so many bytes, the highest byte first, raised by half of their range
unfoldable pub raised : ℕ → ℤ → List ℕ
raised bytes z = digits 256 bytes (unsigned_abs (z +ℤ pos (2 ^ (8 * bytes - 1))))

-- the bytes after the kind
abbrev pub ordered_bytes : Value → List ℕ
ordered_bytes value.Null = []
ordered_bytes (value.Text cs) = encode_utf8_all (default_case_fold cs)
ordered_bytes (value.Num count) = raised 16 count
ordered_bytes (value.Day day) = raised 4 day
ordered_bytes (value.Moment second) = raised 8 second
ordered_bytes (value.Ref id) = id
ordered_bytes (value.Bool false) = 0 ∷ []
ordered_bytes (value.Bool true) = 1 ∷ []

-- the order key of a value
unfoldable pub order_key : Value → List ℕ
order_key v = kind_place v ∷ ordered_bytes v

-- a signed number of so many bytes
abbrev pub IsSigned : ℕ → ℤ → Type 0
IsSigned bytes z = (neg_ℤ (pos (2 ^ (8 * bytes - 1))) ≤ℤ z) × (z <ℤ pos (2 ^ (8 * bytes - 1)))

-- the numbers of a value fit their types, as those of every `Value` do
abbrev pub Fits : Value → Type 0
Fits (value.Num count) = IsSigned 16 count
Fits (value.Day day) = IsSigned 4 day
Fits (value.Moment second) = IsSigned 8 second
Fits _ = Unit {0}
