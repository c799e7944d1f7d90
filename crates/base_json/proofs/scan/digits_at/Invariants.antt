use Rattle.std.proofs.Common.{◌≡◌, ◌++◌, length}
use denote.Text.{Utf8}
use denote.Shadow.{shadow}
use Rattle.std.specs.Str.{chars}
use Rattle.base_json.specs.Characters.{digits_at, after_digits}
use Rattle.base_json.proofs.scan.digits_at.Given as goal

abbrev pub invariant-digits : goal.invariant-digits
invariant-digits l = record {
  utf8 : shadow (Utf8 l.rest);
  front : l.front ++ digits_at (chars l.rest) ≡ digits_at (chars l.fn.text);
  back : after_digits (chars l.rest) ≡ after_digits (chars l.fn.text);
}

abbrev pub decreases-digits : goal.decreases-digits
decreases-digits l = length (chars l.rest)
