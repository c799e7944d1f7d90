use Rattle.std.proofs.Common.{◌≡◌, ◌≤◌, ◌-◌, ◌++◌, length, map, take, drop}
use Rattle.base_value.specs.Digits.{digits}
use Rattle.base_value.specs.Id.{digit62}
use Rattle.base_value.proofs.id.Id.new.Given as goal

abbrev pub invariant-loop-place : goal.invariant-loop-place
invariant-loop-place l = record {
  above : 3 ≤ l.place;
  within : l.place ≤ 15;
  size : length l.characters ≡ 15;
  prefix : take 3 l.characters ≡ l.fn.prefix;
  written : map digit62 (digits 62 (l.place - 3) l.rest) ++ drop l.place l.characters ≡ map digit62 (digits 62 12 l.fn.number);
}

abbrev pub decreases-loop-place : goal.decreases-loop-place
decreases-loop-place l = l.place - 3
