use Rattle.std.proofs.Common.{◌≡◌, drop}
use Rattle.model.specs.Rules.{first_of}
use Rattle.query_check.specs.Rules.{key_rule}
use Rattle.query_check.proofs.tails.keys_refusal.Given as goal

abbrev pub invariant-loop-key : goal.invariant-loop-key
invariant-loop-key l = first_of (key_rule l.layouts l.layout) l.keys ≡ first_of (key_rule l.layouts l.layout) (drop l.key-index l.keys)
