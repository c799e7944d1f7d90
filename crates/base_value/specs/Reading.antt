-- The value that a text reads as in a type.
-- Sources: ISO 8601 and RFC 3339 for days and moments. What each type accepts is this product's own.
use Rattle.std.specs.Prelude.{ℕ, Bool, true, false, ◌||◌, nat_le, if◌then◌else◌, List, [], ◌∷◌, length, codes, bytes_eq, Option, Some, None, Result, Ok, Err, ℤ}
use Rattle.std.specs.List.{list_any}
use Rattle.base_value.specs.Id.{id_in}
use Rattle.base_value.specs.Texts.{lower}
use Rattle.base_value.specs.Numerals.{is_numeral, is_negative, without_sign, size_of, signed}
use Rattle.base_value.specs.Dates.{is_written_day, day_number, is_moment_form, moment_seconds, is_moment}
use Rattle.base_value.specs.Values.{is_number}
use Rattle.base_value.specs.declared.fail.ValueFail.{ValueFail}
use Rattle.base_value.specs.declared.fail.ValueFail.TheVariants.{NotAnId, WrongType, TooLong, OutOfRange, NotListed}
use Rattle.base_value.specs.declared.value.FieldType.{FieldType}
use Rattle.base_value.specs.declared.value.FieldType.TheVariants as type
use Rattle.base_value.specs.declared.value.Value.{Value}
use Rattle.base_value.specs.declared.value.Value.TheVariants as value

-- ---- numbers
-- the count of this size, if it is valid
abbrev pub in_bounds : ℕ → ℕ → ℤ → Result ℤ ValueFail
in_bounds digits decimals count = if is_number digits decimals count then Ok count else Err OutOfRange

-- the count, from its size where there is one
abbrev pub of_size : ℕ → ℕ → Bool → Option ℕ → Result ℤ ValueFail
of_size digits decimals negative None = Err OutOfRange
of_size digits decimals negative (Some n) = in_bounds digits decimals (signed negative n)

-- the count of 10^-8 that a number spells
unfoldable pub read_number : ℕ → ℕ → List ℕ → Result ℤ ValueFail
read_number digits decimals cs = if is_numeral cs then of_size digits decimals (is_negative cs) (size_of (without_sign cs)) else Err WrongType

-- ---- the other kinds
-- a truth value
unfoldable pub read_truth : List ℕ → Result Bool ValueFail
read_truth cs =
    if bytes_eq (lower cs) (codes "true") || bytes_eq cs (codes "1") then Ok true
    else (if bytes_eq (lower cs) (codes "false") || bytes_eq cs (codes "0") then Ok false else Err WrongType)

-- a day, counted from 1970-01-01
unfoldable pub read_day : List ℕ → Result ℤ ValueFail
read_day cs = if is_written_day cs then Ok (day_number cs) else Err WrongType

-- a moment, in seconds from 1970-01-01T00:00:00Z
unfoldable pub read_moment : List ℕ → Result ℤ ValueFail
read_moment cs =
    if is_moment_form cs
    then (if is_moment (moment_seconds cs) then Ok (moment_seconds cs) else Err OutOfRange)
    else Err WrongType

-- an id
abbrev pub as_id : Option (List ℕ) → Result (List ℕ) ValueFail
as_id None = Err NotAnId
as_id (Some id) = Ok id

-- ---- any type
-- a value, or why there is none
abbrev pub Read : Type 0
Read = Result Value ValueFail

-- what was read, as a value
abbrev pub as_value : {X : Type 0} → (X → Value) → Result X ValueFail → Read
as_value make (Ok x) = Ok (make x)
as_value make (Err why) = Err why

-- null, and false for Checkbox
abbrev pub empty_value : FieldType → Value
empty_value type.Checkbox = value.Bool false
empty_value _ = value.Null

-- what a text that isn't empty reads as
abbrev pub read_written : FieldType → List ℕ → Read
read_written (type.Text most) cs = if nat_le (length cs) most then Ok (value.Text cs) else Err TooLong
read_written (type.Number digits decimals) cs = as_value (λ count. value.Num count) (read_number digits decimals cs)
read_written type.Checkbox cs = as_value (λ truth. value.Bool truth) (read_truth cs)
read_written type.Day cs = as_value (λ day. value.Day day) (read_day cs)
read_written type.Moment cs = as_value (λ second. value.Moment second) (read_moment cs)
read_written (type.Picklist values) cs = if list_any (bytes_eq cs) values then Ok (value.Text cs) else Err NotListed
read_written (type.Lookup object on_delete) cs = as_value (λ id. value.Ref id) (as_id (id_in cs))
read_written (type.Master object) cs = as_value (λ id. value.Ref id) (as_id (id_in cs))

-- the empty text is null, and false for Checkbox; no blank is trimmed
abbrev pub read_value : FieldType → List ℕ → Read
read_value kind [] = Ok (empty_value kind)
read_value kind (c ∷ cs) = read_written kind (c ∷ cs)
