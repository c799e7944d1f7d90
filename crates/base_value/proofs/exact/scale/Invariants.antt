use Rattle.std.proofs.Common.{◌≡◌, ◌<◌, ◌*◌, ◌^◌}
use Rattle.base_value.specs.Numerals.{exact_bound}
use Rattle.base_value.proofs.exact.scale.Given as goal

abbrev pub invariant-places : goal.invariant-places
invariant-places l = record { is : l.value ≡ l.n * 10 ^ l._place; some : 0 < l.value; small : l.value < exact_bound }
