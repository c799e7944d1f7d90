-- Conversion of values between types. Which types convert, and how, is this product's own.
use Rattle.std.specs.Prelude.{Bool, true, false, if◌then◌else◌, Option, Some, None, Ok, Err, ℤ, pos, ◌*ℤ◌}
use Rattle.std.specs.Ordering.{int_cmp, is_eq}
use Rattle.base_value.specs.Printing.{scale, day_of_moment, print_value}
use Rattle.base_value.specs.Reading.{Read, empty_value, read_value}
use Rattle.base_value.specs.Values.{valid}
use Rattle.base_value.specs.declared.value.FieldType.{FieldType}
use Rattle.base_value.specs.declared.value.FieldType.TheVariants as type
use Rattle.base_value.specs.declared.value.Value.{Value}
use Rattle.base_value.specs.declared.value.Value.TheVariants as value

-- which types convert: references to and from nothing; numbers not to days and moments; these not to numbers and truth
-- values; truth values not to these; all others
abbrev pub convertible : FieldType → FieldType → Bool
convertible (type.Lookup object on_delete) _ = false
convertible (type.Master object) _ = false
convertible _ (type.Lookup object on_delete) = false
convertible _ (type.Master object) = false
convertible (type.Number digits decimals) type.Day = false
convertible (type.Number digits decimals) type.Moment = false
convertible type.Day (type.Number digits decimals) = false
convertible type.Day type.Checkbox = false
convertible type.Moment (type.Number digits decimals) = false
convertible type.Moment type.Checkbox = false
convertible type.Checkbox type.Day = false
convertible type.Checkbox type.Moment = false
convertible _ _ = true

-- the value, where it is valid
abbrev pub where_valid : FieldType → Value → Option Value
where_valid kind v = if valid kind v then Some v else None

-- the value that was read, if one was
abbrev pub where_read : Read → Option Value
where_read (Ok v) = Some v
where_read (Err why) = None

-- 1 and 0 as truth values
abbrev pub truth_of : ℤ → Option Value
truth_of count = if is_eq (int_cmp count (pos scale)) then Some (value.Bool true) else (if is_eq (int_cmp count (pos 0)) then Some (value.Bool false) else None)

-- a truth value as 1 or 0
abbrev pub number_of_truth : Bool → Value
number_of_truth true = value.Num (pos scale)
number_of_truth false = value.Num (pos 0)

-- the value in the new type, if it converts: truth values and numbers as 1 and 0, days as their first seconds, moments as
-- their days, all else as its printed text reads. The types are convertible; the old one shows in the value
abbrev pub convert : FieldType → Value → Option Value
convert to value.Null = Some (empty_value to)
convert (type.Number digits decimals) (value.Bool truth) = where_valid (type.Number digits decimals) (number_of_truth truth)
convert type.Checkbox (value.Num count) = truth_of count
convert type.Moment (value.Day day) = Some (value.Moment (day *ℤ pos 86400))
convert type.Day (value.Moment second) = Some (value.Day (day_of_moment second))
convert to v = where_read (read_value to (print_value v))
