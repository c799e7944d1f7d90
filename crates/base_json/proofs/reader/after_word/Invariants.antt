use Rattle.std.proofs.Common.{◌≡◌, ◌≤◌, length}
use denote.Text.{Utf8}
use denote.Shadow.{shadow}
use Rattle.std.specs.Str.{chars}
use Rattle.base_json.specs.Reading.{after_word}
use Rattle.base_json.proofs.reader.after_word.Given as goal

abbrev pub invariant-letters : goal.invariant-letters
invariant-letters l = record {
  utf8 : shadow (Utf8 l.rest);
  same : after_word l.left (chars l.rest) ≡ after_word l.word (chars l.fn.text);
  shorter : length (chars l.rest) ≤ length (chars l.fn.text);
}

abbrev pub decreases-letters : goal.decreases-letters
decreases-letters l = length l.left
