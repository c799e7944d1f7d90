use Rattle.std.proofs.Common.{◌≡◌, drop}
use Rattle.model.specs.Rules.{first_of, rule_of}
use Rattle.access_rules.specs.inner.Adding.{id_rules}
use Rattle.access_rules.proofs.members.check_ids.Given as goal

abbrev pub invariant-loop-member : goal.invariant-loop-member
invariant-loop-member l = first_of (rule_of (id_rules l.new)) (drop l.member-index l.members) ≡ first_of (rule_of (id_rules l.new)) l.members
