-- The turns of a repetition, as the code hands them out.
use Rattle.std.specs.Prelude.{◌≡◌, ℕ, ◌≤◌, ◌<◌, true, false, List, [], ◌∷◌, Option, Some, None, Result, Ok, Err}
use Rattle.std.specs.Char.{digit_value}
use Rattle.base_json.specs.Reading.{Turn}
use Rattle.base_json.specs.declared.JsonFail.{JsonFail}

-- a turn with the item that was read, or the last one, which reads none
abbrev pub turn_by : {A : Type 0} → Option A → List ℕ → Turn A
turn_by None rest = ([], false, rest)
turn_by (Some x) rest = (x ∷ [], true, rest)

-- the value of a hexadecimal digit, or none where it isn't one
abbrev pub HexDigit : ℕ → Result ℕ JsonFail → Type 0
HexDigit c (Ok d) = (d ≡ digit_value c) × (d < 16)
HexDigit c (Err e) = 16 ≤ digit_value c
