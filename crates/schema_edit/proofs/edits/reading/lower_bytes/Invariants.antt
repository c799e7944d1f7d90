use Rattle.std.proofs.Common.{◌≡◌, take}
use Rattle.std.specs.Str.{encode_utf8_all}
use Rattle.std.specs.String.{string_bytes}
use Rattle.base_value.specs.Texts.{lower}
use Rattle.schema_edit.proofs.edits.reading.lower_bytes.Given as goal

abbrev pub invariant-loop-c : goal.invariant-loop-c
invariant-loop-c l = string_bytes l.lower ≡ encode_utf8_all (lower (take l.c-index l.c-items))
