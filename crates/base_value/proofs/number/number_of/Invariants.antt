use Rattle.std.proofs.Common.{◌≡◌, ◌≤◌, ◌<◌, ◌-◌, ◌^◌, map, take}
use Rattle.base_value.specs.Digits.{digits_value}
use Rattle.base_value.specs.Id.{value62}
use Rattle.base_value.proofs.number.number_of.Given as goal

abbrev pub invariant-loop-place : goal.invariant-loop-place
invariant-loop-place l = record {
  within : l.place ≤ 12;
  low : l.number < 62 ^ l.place;
  read : l.number ≡ digits_value 62 (map value62 (take l.place l.characters));
}

abbrev pub decreases-loop-place : goal.decreases-loop-place
decreases-loop-place l = 12 - l.place
