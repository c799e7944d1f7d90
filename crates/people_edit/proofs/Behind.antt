-- Rules that stand behind others, none of which refuses.
use Rattle.std.proofs.Common.{◌≡◌, List, [], ◌∷◌, ◌++◌, None, Some}
use Rattle.std.specs.Prelude.{Err, IfOk, Ok, Result}
use Rattle.model.specs.Rules.{Rule, first_refusal}
use Rattle.store_abstraction.specs.declared.fail.EditFail.{EditFail}
use Rattle.store_edit.specs.Judging.{FailsRule, Passes}

fails_behind : (front back : List Rule) (e : EditFail) → first_refusal front ≡ None → FailsRule (first_refusal back) e → FailsRule (first_refusal (front ++ back)) e
fails_behind [] back e none h = h
fails_behind (None ∷ front) back e none h = fails_behind front back e none h
fails_behind (Some r ∷ front) back e none h = absurd cc

all_pass : (front back : List Rule) → first_refusal front ≡ None → first_refusal back ≡ None → first_refusal (front ++ back) ≡ None
all_pass [] back none h = h
all_pass (None ∷ front) back none h = all_pass front back none h
all_pass (Some r ∷ front) back none h = absurd cc

-- what those behind come to all come to
pub then_passes : {X : Type 0} (front back : List Rule) (P M : X → Type 0) (r : Result X EditFail) → first_refusal front ≡ None → Passes (first_refusal back) (λ x. Unit {0}) r → IfOk r M → ((x : X) → M x → P x)
    → Passes (first_refusal (front ++ back)) P r
then_passes front back P M (Ok x) none h made so = (all_pass front back none h.0, so x made)
then_passes front back P M (Err e) none h made so = fails_behind front back e none h
