use Rattle.std.proofs.Common.{◌≡◌, ◌≤◌, length}
use denote.Text.{Utf8}
use denote.Shadow.{shadow}
use Rattle.std.specs.Str.{chars}
use Rattle.std.specs.String.{string_bytes}
use Rattle.base_json.specs.Reading.{with_front, repeated, character_turn}
use Rattle.base_json.proofs.quoted.content.Given as goal

abbrev pub invariant-turns : goal.invariant-turns
invariant-turns l = record {
  utf8 : shadow (Utf8 l.rest);
  same : with_front (chars (string_bytes l.content)) (repeated character_turn (chars l.rest)) ≡ repeated character_turn (chars l.fn.text);
  shorter : length (chars l.rest) ≤ length (chars l.fn.text);
}

abbrev pub decreases-turns : goal.decreases-turns
decreases-turns l = length (chars l.rest)
