use Rattle.std.proofs.Common.{◌≡◌, ◌++◌, drop, map}
use Rattle.model_reads.specs.PeopleJson.{principal_json}
use Rattle.api_read.proofs.people.principals_json.Given as goal

abbrev pub invariant-loop-principal : goal.invariant-loop-principal
invariant-loop-principal l = l.told ++ map principal_json (drop l.principal-index l.principals) ≡ map principal_json l.principals
