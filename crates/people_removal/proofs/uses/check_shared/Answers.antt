use Rattle.model.specs.Rules.{first_refusal}
use Rattle.store_edit.proofs.StepByStep.{passed_on}
use Rattle.people_removal.specs.inner.Naming.{rules_with, shared_with, shares_with}
use Rattle.people_removal.proofs.Judging.{fails_first}
use Rattle.people_removal.proofs.uses.check_shared.Goals as goal

pub returns-in_err-check_rules-clause-passes : goal.returns-in_err-check_rules-clause-passes
returns-in_err-check_rules-clause-passes g c told q t s =
    let n = c.args.named.now in
    let e = c.in_err-check_rules.field-0.0 in
    passed_on (first_refusal (shared_with t n)) (λ (x : Unit {0}). Unit {0}) c.from_residual.result e c.from_residual.ensures.1
    (fails_first (rules_with t n) (shares_with t n) e (c.in_err-check_rules.ensures.passes told q t s))
