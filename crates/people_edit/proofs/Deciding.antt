-- What an edit comes to where the step that judges it fails.
use Rattle.std.proofs.Common.{◌≡◌, ℕ, Some}
use Rattle.std.specs.Prelude.{IsErrAnd, Result}
use Rattle.store_edit.proofs.Judged as edits
use Rattle.store_edit.specs.declared.decided.Decided.{Decided}
use Rattle.store_edit.specs.Edits.{Decides}
use Rattle.store_kv.specs.Tables.{Tables}
use Rattle.model.specs.Paths.{Asked}
use Rattle.model.specs.Rules.{Rule}
use Rattle.model.specs.Verdict.{Done, Verdict, unless}
use Rattle.store_abstraction.specs.declared.fail.EditFail.{EditFail}
use Rattle.store_abstraction.specs.Local.{StandsIn}
use Rattle.store_abstraction.specs.Plan.{OrgPlan}
use Rattle.store_edit.specs.Judging.{FailsRule}
use Rattle.people_edit.proofs.Joining.{SamePlan}
use Rattle.store_edit.proofs.StepByStep.{rule_fails}

-- it is refused by the rules of its verdict, or stops
pub decides_not : {X : Type 0} {answered : X → Done} (org : ℕ) (rule : Asked → Rule) (after : Asked → Verdict) (fits : Asked → Type 0) (m : Tables) (e : EditFail) (out : Result (Decided X) EditFail)
    → IsErrAnd out (λ y. y ≡ e) → ((q : OrgPlan) (a : Asked) → StandsIn org q m (Some a.tenant) → FailsRule (rule a) e)
    → Decides org (λ a. unless (rule a) a.tenant (after a)) answered SamePlan fits m out
decides_not {answered = answered} org rule after fits m e out passed fails =
    edits.passed_on {answered = answered} org (λ a. unless (rule a) a.tenant (after a)) SamePlan fits m e out passed (λ q a s f. rule_fails (rule a) a.tenant (after a) e (fails q a s))
