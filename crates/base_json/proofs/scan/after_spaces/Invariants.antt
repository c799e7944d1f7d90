use Rattle.std.proofs.Common.{◌≡◌, ◌≤◌, length}
use denote.Text.{Utf8}
use denote.Shadow.{shadow}
use Rattle.std.specs.Str.{chars}
use Rattle.base_json.specs.Characters.{after_spaces}
use Rattle.base_json.proofs.scan.after_spaces.Given as goal

abbrev pub invariant-spaces : goal.invariant-spaces
invariant-spaces l = record {
  utf8 : shadow (Utf8 l.rest);
  same : after_spaces (chars l.rest) ≡ after_spaces (chars l.fn.text);
  shorter : length (chars l.rest) ≤ length (chars l.fn.text);
}

abbrev pub decreases-spaces : goal.decreases-spaces
decreases-spaces l = length (chars l.rest)
