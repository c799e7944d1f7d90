use Rattle.std.proofs.Common.{◌≡◌}
use Rattle.std.specs.Str.{encode_utf8_all}
use Rattle.std.specs.String.{string_bytes}
use Rattle.base_value.specs.Texts.{lower}
use Rattle.api_input.proofs.members.lower_name.Given as goal

abbrev pub invariant-characters : goal.invariant-characters
invariant-characters l = string_bytes l.string ≡ encode_utf8_all (lower l.yielded)
