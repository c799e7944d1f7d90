use Rattle.std.proofs.Common.{rules, ◌≡◌, ℕ, ◌^◌, ◌<◌, true, false, ◌&&◌, List, take, drop, pos, unsigned_abs, w32, to_z-of_z, Some, refl, sym, ap, ◌∙◌, arith}
use mir.Val.{SFits}
use Rattle.jiff_core.proofs.SignedLemmas.{one_part, signed_arith}
use Rattle.base_value.specs.Dates.{is_date, is_clock, clock_seconds, is_fraction_len, fraction_len, is_zone, zone_of, ahead, is_moment_form, moment_seconds, day_number}
use Rattle.base_value.proofs.Choices.{none_given, not_true, some_given}
use Rattle.base_value.proofs.WrittenDates.{day_kept, day_of_parts}
use Rattle.base_value.proofs.Seconds.{in_utc_fits, in_utc_kept}
use Rattle.base_value.proofs.dates.moment_of.Goals as goal

pub returns-in_err-date_of : goal.returns-in_err-date_of
unfolding is_moment_form
returns-in_err-date_of c =
    let date : is_date (take 10 c.args.chars.now) ≡ false = ap is_date (sym c.prefix.ensures) ∙ not_true (is_date c.prefix.result.now) c.in_err-date_of.ensures.some.1 in
    c.from_residual.ensures ∙ rw date refl

pub returns-in_err-seconds : goal.returns-in_err-seconds
unfolding is_moment_form
returns-in_err-seconds c =
    let cs = c.args.chars.now in
    let date : is_date (take 10 cs) ≡ true = ap is_date (sym c.prefix.ensures) ∙ c.in_ok-date_of.ensures.some.0 refl in
    let piece : c.prefix-2.result.now ≡ take 9 (drop 10 cs) = c.prefix-2.ensures ∙ ap (take 9) c.rest.ensures in
    let clock : is_clock (take 9 (drop 10 cs)) ≡ false = ap is_clock (sym piece) ∙ none_given (is_clock c.prefix-2.result.now) (clock_seconds c.prefix-2.result.now) c.in_err-seconds.ensures in
    c.from_residual-in_err-seconds.ensures ∙ rw (date, clock) refl

pub returns-in_err-ahead : goal.returns-in_err-ahead
unfolding is_moment_form
returns-in_err-ahead c =
    let cs = c.args.chars.now in
    let date : is_date (take 10 cs) ≡ true = ap is_date (sym c.prefix.ensures) ∙ c.in_ok-date_of.ensures.some.0 refl in
    let piece : c.prefix-2.result.now ≡ take 9 (drop 10 cs) = c.prefix-2.ensures ∙ ap (take 9) c.rest.ensures in
    let clock : is_clock (take 9 (drop 10 cs)) ≡ true = ap is_clock (sym piece) ∙ (some_given (is_clock c.prefix-2.result.now) (clock_seconds c.prefix-2.result.now) c.in_ok-seconds.seconds c.in_ok-seconds.ensures).0 in
    let zone = λ (cs : List ℕ). is_fraction_len (fraction_len cs) && is_zone (zone_of cs) in
    let end : zone (drop 19 cs) ≡ false = ap zone (sym c.rest-2.ensures) ∙ none_given (zone c.rest-2.result.now) (ahead (zone_of c.rest-2.result.now)) c.in_err-ahead.ensures in
    c.from_residual-in_err-ahead.ensures ∙ rw (date, clock, end) refl

day_in : (c : goal.After-from-3) → c.from.result ≡ c.to_unix_epoch_day-day.result
day_in c = c.from.ensures ∙ day_kept c.to_unix_epoch_day-day.result c.to_unix_epoch_day-day.ensures.bound

ahead_in : (c : goal.After-from-3) → (c.from-3.result ≡ c.in_ok-ahead.ahead) × (unsigned_abs c.in_ok-ahead.ahead < 2 ^ 32)
ahead_in c =
    let fits : SFits w32 c.in_ok-ahead.ahead = search rules in
    (c.from-3.ensures ∙ to_z-of_z fits, omega (arith, signed_arith, one_part c.in_ok-ahead.ahead))

pub overflow_sub-result : goal.overflow_sub-result
overflow_sub-result c =
    let day = day_in c in
    let ahead = ahead_in c in
    let seconds : c.from-2.result ≡ pos c.in_ok-seconds.seconds = c.from-2.ensures in
    rw (day, ahead.0, seconds) (in_utc_fits c.to_unix_epoch_day-day.result c.in_ok-seconds.seconds c.in_ok-ahead.ahead c.to_unix_epoch_day-day.ensures.bound (omega arith) ahead.1)

pub returns : goal.returns
unfolding is_moment_form moment_seconds
returns c =
    let cs = c.args.chars.now in
    let date : is_date (take 10 cs) ≡ true = ap is_date (sym c.prefix.ensures) ∙ c.in_ok-date_of.ensures.some.0 refl in
    let piece : c.prefix-2.result.now ≡ take 9 (drop 10 cs) = c.prefix-2.ensures ∙ ap (take 9) c.rest.ensures in
    let time = some_given (is_clock c.prefix-2.result.now) (clock_seconds c.prefix-2.result.now) c.in_ok-seconds.seconds c.in_ok-seconds.ensures in
    let clock : is_clock (take 9 (drop 10 cs)) ≡ true = ap is_clock (sym piece) ∙ time.0 in
    let zone = λ (cs : List ℕ). is_fraction_len (fraction_len cs) && is_zone (zone_of cs) in
    let offset = some_given (zone c.rest-2.result.now) (ahead (zone_of c.rest-2.result.now)) c.in_ok-ahead.ahead c.in_ok-ahead.ensures in
    let end : zone (drop 19 cs) ≡ true = ap zone (sym c.rest-2.ensures) ∙ offset.0 in
    let day : c.to_unix_epoch_day-day.result ≡ day_number (take 10 cs) = c.to_unix_epoch_day-day.ensures.value ∙ day_of_parts c.prefix.result.now c.in_ok-date_of.field-0 c.in_ok-date_of.ensures.parts ∙ ap day_number c.prefix.ensures in
    let seconds : c.in_ok-seconds.seconds ≡ clock_seconds (take 9 (drop 10 cs)) = time.1 ∙ ap clock_seconds piece in
    let behind : c.in_ok-ahead.ahead ≡ ahead (zone_of (drop 19 cs)) = offset.1 ∙ ap (λ (cs : List ℕ). ahead (zone_of cs)) c.rest-2.ensures in
    let before = ahead_in c in
    rw (date, clock, end, day_in c, before.0, c.from-2.ensures)
    (ap Some (in_utc_kept c.to_unix_epoch_day-day.result c.in_ok-seconds.seconds c.in_ok-ahead.ahead c.to_unix_epoch_day-day.ensures.bound (omega arith) before.1 ∙ rw (day, seconds, behind) refl))
