-- The parts that a literal of the code holds.
use Rattle.base_json.specs.Numerals.{Parts}
use Rattle.base_json.specs.declared.numeral.Literal.{Literal}

abbrev pub parts_of : Literal → Parts
parts_of l = record { minus = l.minus; whole = l.whole; fraction = l.fraction; down = l.down; power = l.power }
