use Rattle.std.proofs.Common.{◌≡◌, Some, drop}
use Rattle.store_kv.specs.Draft.{DraftTells, tables_of}
use Rattle.model.specs.Principals.{not_there}
use Rattle.model.specs.Rules.{first_of}
use Rattle.model.specs.Tenant.{Tenant}
use Rattle.std.specs.Str.{chars}
use Rattle.store_abstraction.specs.Calls.{Calls, done}
use Rattle.store_abstraction.specs.Local.{StandsIn}
use Rattle.store_abstraction.specs.Plan.{OrgPlan}
use Rattle.people_edit.proofs.edits.members.find_members.Given as goal

abbrev pub invariant-loop-member : goal.invariant-loop-member
invariant-loop-member g l = record {
  calls : Calls g.K.Keeper.state 0 done l.fn.draft l.draft;
  passes : DraftTells g.K.Keeper.state l.fn.draft l.draft → (q : OrgPlan) (t : Tenant) → StandsIn l.org q (tables_of g.K.Keeper.state l.fn.draft) (Some t)
      → first_of (not_there t (chars l.name)) (drop l.member-index l.members) ≡ first_of (not_there t (chars l.name)) l.members;
}
