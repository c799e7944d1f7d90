-- The parts of a path as texts.
-- Source of percent triplets: RFC 3986, section 2.1.
use Rattle.std.specs.Prelude.{ℕ, if◌then◌else◌, List, encode_utf8_all, Option, Some, None}
use Rattle.std.specs.Str.{chars, is_utf8}
use Rattle.percent_encoding.specs.Percent.{percent_decode}

-- the value in a path, with its percent triplets decoded; none where these bytes aren't UTF-8
abbrev pub value_part : List ℕ → Option (List ℕ)
value_part part = let bytes = percent_decode (encode_utf8_all part) in if is_utf8 bytes then Some (chars bytes) else None
