use Rattle.std.proofs.Common.{◌≡◌, take}
use Rattle.std.specs.Str.{encode_utf8_all}
use Rattle.std.specs.String.{string_bytes}
use Rattle.api_read.proofs.describe.texts.text_of.Given as goal

abbrev pub invariant-loop-c : goal.invariant-loop-c
invariant-loop-c l = string_bytes l.string ≡ encode_utf8_all (take l.c-index l.chars)
