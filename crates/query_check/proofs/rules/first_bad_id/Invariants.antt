use Rattle.std.proofs.Common.{◌≡◌, drop}
use Rattle.model.specs.Asking.{text_no_id}
use Rattle.model.specs.Rules.{first_of}
use Rattle.query_check.proofs.rules.first_bad_id.Given as goal

abbrev pub invariant-loop-literal : goal.invariant-loop-literal
invariant-loop-literal l = first_of text_no_id l.literals ≡ first_of text_no_id (drop l.literal-index l.literals)
