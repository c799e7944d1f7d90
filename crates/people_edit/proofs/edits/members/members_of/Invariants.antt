use Rattle.std.proofs.Common.{◌≡◌, ◌++◌, drop, map}
use Rattle.std.specs.List.{AllByRecursion}
use Rattle.model.specs.Principals.{bad_id, principal_of}
use Rattle.model.specs.Rules.{first_of}
use Rattle.store_codec.specs.Composed.{FitsPrincipal}
use Rattle.people_edit.proofs.edits.members.members_of.Given as goal

abbrev pub invariant-loop-one : goal.invariant-loop-one
invariant-loop-one l = record {
  passes : first_of (λ p. bad_id p.text) (drop l.one-index l.spelled) ≡ first_of (λ p. bad_id p.text) l.spelled;
  made : l.members.items ++ map principal_of (drop l.one-index l.spelled) ≡ map principal_of l.spelled;
  fit : AllByRecursion FitsPrincipal l.members.items;
}
