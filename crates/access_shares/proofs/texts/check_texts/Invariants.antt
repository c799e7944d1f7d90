use Rattle.std.proofs.Common.{◌≡◌, drop}
use Rattle.model.specs.Rules.{first_of, rule_of}
use Rattle.access_shares.specs.inner.Finding.{member_rules}
use Rattle.access_shares.proofs.texts.check_texts.Given as goal

abbrev pub invariant-loop-member : goal.invariant-loop-member
invariant-loop-member l = first_of (rule_of (member_rules l.new)) (drop l.member-index l.members) ≡ first_of (rule_of (member_rules l.new)) l.members
