use Rattle.std.proofs.Common.{◌≡◌, ◌++◌, drop, true}
use Rattle.std.specs.List.{list_all}
use Rattle.csv.specs.Records.{fields_of}
use Rattle.cmd_csvq.specs.Organisation.{given_of}
use Rattle.model_invariant.specs.Fit.{is_spelled}
use Rattle.cmd_csvq.proofs.given.given_of.Given as goal

abbrev pub invariant-loop-place : goal.invariant-loop-place
invariant-loop-place l = record {
  same : l.given.items ++ given_of (drop l.place (fields_of l.heading)) (drop l.place (fields_of l.row)) ≡ given_of (fields_of l.heading) (fields_of l.row);
  spelled : list_all (λ x. is_spelled x.given) l.given.items ≡ true;
}
