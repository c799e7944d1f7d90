use Rattle.std.proofs.Common.{◌≡◌, ◌<◌, ◌≤◌, ◌^◌, ◌++◌}
use Rattle.std.specs.String.{string_bytes}
use Rattle.base_value.specs.Printing.{print_places}
use Rattle.base_value.proofs.decimal.push_places.Given as goal

abbrev pub invariant-places : goal.invariant-places
invariant-places l = record {
  same : string_bytes l.text ++ print_places l.places l.rest ≡ string_bytes l.fn.text ++ print_places 8 l.fraction;
  small : l.rest < 10 ^ l.places;
  places : l.places ≤ 8;
}

abbrev pub decreases-places : goal.decreases-places
decreases-places l = l.places
