-- The sum of a moment's parts in 64 bits.
use Rattle.std.proofs.Common.{◌≡◌, ℕ, ◌^◌, ◌<◌, refl, arith, ℤ, pos, ◌+ℤ◌, ◌-ℤ◌, ◌*ℤ◌, FitsSigned, to_z, of_z, w64, unsigned_abs}
use Rattle.jiff_core.specs.Calendar.{IsEpochDay}
use Rattle.jiff_core.proofs.SignedLemmas.{signed_arith, back_small, one_part}

kept : (z : ℤ) → unsigned_abs z < 2 ^ 63 → to_z w64 (of_z w64 z) ≡ z
kept z h = back_small w64 z h

abbrev here : ℤ → ℤ → ℤ
here day clock = to_z w64 (of_z w64 (to_z w64 (of_z w64 day) *ℤ pos 86400)) +ℤ to_z w64 (of_z w64 clock)

here_is : (day : ℤ) (n : ℕ) → IsEpochDay day → n < 2 ^ 32 → here day (pos n) ≡ day *ℤ pos 86400 +ℤ pos n
here_is day n d small =
    let one = one_part day in
    rw (kept day (omega (arith, signed_arith)), kept (day *ℤ pos 86400) (omega (arith, signed_arith)), kept (pos n) (omega (arith, signed_arith))) refl

abbrev in_utc : ℤ → ℤ → ℤ → ℤ
in_utc day clock ahead = to_z w64 (of_z w64 (here day clock)) -ℤ to_z w64 (of_z w64 ahead)

pub in_utc_is : (day : ℤ) (n : ℕ) (ahead : ℤ) → IsEpochDay day → n < 2 ^ 32 → unsigned_abs ahead < 2 ^ 32 → in_utc day (pos n) ahead ≡ day *ℤ pos 86400 +ℤ pos n -ℤ ahead
in_utc_is day n ahead d small zone =
    let one = one_part day in
    let sum = day *ℤ pos 86400 +ℤ pos n in
    let part = one_part sum in
    rw (here_is day n d small, kept sum (omega (arith, signed_arith)), kept ahead (omega (arith, signed_arith))) refl

pub in_utc_fits : (day : ℤ) (n : ℕ) (ahead : ℤ) → IsEpochDay day → n < 2 ^ 32 → unsigned_abs ahead < 2 ^ 32 → FitsSigned w64 (in_utc day (pos n) ahead)
in_utc_fits day n ahead d small zone =
    let one = one_part day in
    let other = one_part ahead in
    rw (in_utc_is day n ahead d small zone) (omega (arith, signed_arith))

pub in_utc_kept : (day : ℤ) (n : ℕ) (ahead : ℤ) → IsEpochDay day → n < 2 ^ 32 → unsigned_abs ahead < 2 ^ 32 → to_z w64 (of_z w64 (in_utc day (pos n) ahead)) ≡ day *ℤ pos 86400 +ℤ pos n -ℤ ahead
in_utc_kept day n ahead d small zone =
    let one = one_part day in
    let other = one_part ahead in
    let sum = day *ℤ pos 86400 +ℤ pos n -ℤ ahead in
    let part = one_part sum in
    rw (in_utc_is day n ahead d small zone, kept sum (omega (arith, signed_arith))) refl
