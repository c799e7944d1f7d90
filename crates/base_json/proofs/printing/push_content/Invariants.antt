use Rattle.std.proofs.Common.{◌≡◌, ◌++◌, length}
use denote.Text.{Utf8}
use denote.Shadow.{shadow}
use Rattle.std.specs.List.{flat_map}
use Rattle.std.specs.Str.{chars, encode_utf8_all}
use Rattle.std.specs.String.{string_bytes}
use Rattle.base_json.specs.Printing.{escaped}
use Rattle.base_json.specs.Outcomes.{BeginsWith}
use Rattle.base_json.proofs.printing.push_content.Given as goal

abbrev pub invariant-runs : goal.invariant-runs
invariant-runs l = record {
  utf8 : shadow (Utf8 l.rest);
  same : string_bytes l.out ++ encode_utf8_all (flat_map escaped (chars l.rest)) ≡ string_bytes l.fn.out ++ encode_utf8_all (flat_map escaped (chars l.fn.value));
  front : BeginsWith (string_bytes l.out) (string_bytes l.fn.out);
}

abbrev pub decreases-runs : goal.decreases-runs
decreases-runs l = length (chars l.rest)
