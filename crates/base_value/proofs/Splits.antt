-- What the digits of a number say of it.
use Rattle.std.proofs.Common.{◌≡◌, ◌&&◌, false, List, [], ◌++◌, ℕ, length, nat_le, Option, Err, refl, ◌∙◌}
use Rattle.base_value.specs.Numerals.{exactly, is_negative, is_numeral, is_written_number, of_digits, size_of, without_sign}
use Rattle.base_value.specs.Reading.{of_size, read_number}
use Rattle.base_value.specs.declared.fail.ValueFail.TheVariants.{WrongType}
use Rattle.base_value.specs.inner.Splits.{IsSplit}

pub size_of-split : (whole fraction cs : List ℕ) → IsSplit whole fraction cs → exactly (of_digits (whole ++ fraction)) (length fraction) (of_digits []) 0 ≡ size_of cs
unfolding of_digits size_of
size_of-split whole fraction cs h = rw (h.before, h.after) refl

pub written-split : (whole fraction cs : List ℕ) → IsSplit whole fraction (without_sign cs) → is_written_number cs ≡ (nat_le (length whole) 18 && nat_le (length fraction) 8)
unfolding is_numeral is_written_number
written-split whole fraction cs h = rw (h.numeral, h.before, h.after) refl

pub written-none : (cs : List ℕ) → is_numeral cs ≡ false → is_written_number cs ≡ false
unfolding is_written_number
written-none cs h = rw h refl

module _ (digits decimals : ℕ) (cs : List ℕ) where
  pub read-split : (whole fraction : List ℕ) (size : Option ℕ) → IsSplit whole fraction (without_sign cs)
      → size ≡ exactly (of_digits (whole ++ fraction)) (length fraction) (of_digits []) 0 → of_size digits decimals (is_negative cs) size ≡ read_number digits decimals cs
  unfolding is_numeral read_number
  read-split whole fraction size h e = rw (h.numeral, e ∙ size_of-split whole fraction (without_sign cs) h) refl

  pub read-none : is_numeral cs ≡ false → read_number digits decimals cs ≡ Err WrongType
  unfolding read_number
  read-none h = rw h refl
