use Rattle.std.proofs.Common.{◌≡◌, Some, drop}
use Rattle.store_kv.specs.Draft.{DraftTells, tables_of}
use Rattle.model.specs.Rules.{first_of, rule_of}
use Rattle.model.specs.Tenant.{Tenant}
use Rattle.store_abstraction.specs.Calls.{Calls, done}
use Rattle.store_abstraction.specs.Local.{StandsIn}
use Rattle.store_abstraction.specs.Plan.{OrgPlan}
use Rattle.access_rules.specs.inner.Adding.{there_rules}
use Rattle.access_rules.proofs.members.find_principals.Given as goal

abbrev pub invariant-loop-member : goal.invariant-loop-member
invariant-loop-member g l = record {
  calls : Calls g.K.Keeper.state 0 done l.fn.draft l.draft;
  passes : DraftTells g.K.Keeper.state l.fn.draft l.draft → (q : OrgPlan) (t : Tenant) → StandsIn l.org q (tables_of g.K.Keeper.state l.fn.draft) (Some t)
      → first_of (rule_of (there_rules t l.new)) (drop l.member-index l.members) ≡ first_of (rule_of (there_rules t l.new)) l.members;
}
