-- Validity and comparison of values.
-- Source of the kinds: Salesforce, "Field Types". The limits are this product's own.
use Rattle.std.specs.Prelude.{ℕ, ◌+◌, ◌-◌, ◌^◌, ◌%◌, Bool, true, false, ◌&&◌, ◌==◌, nat_lt, if◌then◌else◌, List, length, Option, Some, None, bytes_eq, ℤ, unsigned_abs}
use Rattle.std.specs.List.{list_any}
use Rattle.std.specs.Str.{all_scalars}
use Rattle.std.specs.declared.cmp.Ordering.{Ordering}
use Rattle.std.specs.Bool.{beq}
use Rattle.std.specs.Ordering.{nat_cmp, int_cmp, int_eq, bool_cmp, is_eq}
use Rattle.std.specs.Cmp.Lexicographic.{slice_cmp}
use Rattle.base_value.specs.Id.{is_id}
use Rattle.base_value.specs.Texts.{text_cmp}
use Rattle.base_value.specs.Numerals.{is_within}
use Rattle.base_value.specs.Dates.{is_day, is_moment}
use Rattle.base_value.specs.declared.fail.ValueFail.{ValueFail}
use Rattle.base_value.specs.declared.fail.ValueFail.TheVariants.{WrongType, TooLong, OutOfRange, NotListed}
use Rattle.base_value.specs.declared.value.FieldType.{FieldType}
use Rattle.base_value.specs.declared.value.FieldType.TheVariants as type
use Rattle.base_value.specs.declared.value.Value.{Value}
use Rattle.base_value.specs.declared.value.Value.TheVariants as value

-- ---- validity
-- a count of 10^-8 of at most so many digits, of which so many are decimals
abbrev pub is_number : ℕ → ℕ → ℤ → Bool
is_number digits decimals count = (unsigned_abs count % 10 ^ (8 - decimals) == 0) && nat_lt (unsigned_abs count) (10 ^ (digits - decimals + 8))

-- a value of a type; each type but Checkbox has null
abbrev pub valid : FieldType → Value → Bool
valid type.Checkbox (value.Bool truth) = true
valid type.Checkbox _ = false
valid _ value.Null = true
valid (type.Text most) (value.Text cs) = all_scalars cs && is_within 1 most (length cs)
valid (type.Number digits decimals) (value.Num count) = is_number digits decimals count
valid type.Day (value.Day day) = is_day day
valid type.Moment (value.Moment second) = is_moment second
valid (type.Picklist values) (value.Text cs) = list_any (bytes_eq cs) values
valid (type.Lookup object on_delete) (value.Ref id) = is_id id
valid (type.Master object) (value.Ref id) = is_id id
valid _ _ = false

-- why a value that isn't valid isn't: it is outside the bounds of its type, or a value of another kind
abbrev pub fault : FieldType → Value → ValueFail
fault (type.Text most) (value.Text cs) = if nat_lt most (length cs) then TooLong else WrongType
fault (type.Number digits decimals) (value.Num count) = OutOfRange
fault type.Day (value.Day day) = OutOfRange
fault type.Moment (value.Moment second) = OutOfRange
fault (type.Picklist values) (value.Text cs) = NotListed
fault _ _ = WrongType

-- ---- comparison
-- the kinds of values in their order
abbrev pub kind_place : Value → ℕ
kind_place value.Null = 0
kind_place (value.Text cs) = 1
kind_place (value.Num count) = 2
kind_place (value.Day day) = 3
kind_place (value.Moment second) = 4
kind_place (value.Ref id) = 5
kind_place (value.Bool truth) = 6

-- texts by their folded characters, numbers, days and moments by size, false before true, ids by bytes; values of different
-- kinds, which no field has, by their kinds
abbrev pub cmp : Value → Value → Ordering
cmp (value.Text a) (value.Text b) = text_cmp a b
cmp (value.Num a) (value.Num b) = int_cmp a b
cmp (value.Day a) (value.Day b) = int_cmp a b
cmp (value.Moment a) (value.Moment b) = int_cmp a b
cmp (value.Ref a) (value.Ref b) = slice_cmp nat_cmp a b
cmp (value.Bool a) (value.Bool b) = bool_cmp a b
cmp a b = nat_cmp (kind_place a) (kind_place b)

-- equal under the comparison
abbrev pub equal : Value → Value → Bool
equal a b = is_eq (cmp a b)

-- ---- the same value, character by character
abbrev pub same_value : Value → Value → Bool
same_value value.Null value.Null = true
same_value (value.Text a) (value.Text b) = bytes_eq a b
same_value (value.Num a) (value.Num b) = int_eq a b
same_value (value.Day a) (value.Day b) = int_eq a b
same_value (value.Moment a) (value.Moment b) = int_eq a b
same_value (value.Ref a) (value.Ref b) = bytes_eq a b
same_value (value.Bool a) (value.Bool b) = beq a b
same_value _ _ = false

-- ---- references
-- the id that a reference names
abbrev pub ref_of : Value → Option (List ℕ)
ref_of (value.Ref id) = Some id
ref_of _ = None
