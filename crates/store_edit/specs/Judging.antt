-- What judging an edit step by step comes to: each step has its rule.
-- That rules are judged in a fixed order is this product's own.
use Rattle.std.specs.Prelude.{◌≡◌, ◌≢◌, Some, None, Result, Ok, Err}
use Rattle.store_rows.specs.declared.fail.StoreFail.TheVariants.{Damaged}
use Rattle.model.specs.Rules.{Rule}
use Rattle.store_abstraction.specs.declared.fail.EditFail.{EditFail}
use Rattle.store_abstraction.specs.declared.fail.EditFail.TheVariants.{Refused, Store}

-- why judging ended: as the rule refuses, or since the work on the tables stopped, though they aren't damaged
abbrev pub FailsRule : Rule → EditFail → Type 0
FailsRule rule (Refused r) = rule ≡ Some r
FailsRule rule (Store e) = e ≢ Damaged

-- the rule doesn't refuse, and this holds of what is returned; or why nothing is
abbrev pub Passes : {X : Type 0} → Rule → (X → Type 0) → Result X EditFail → Type 0
Passes rule P (Ok x) = (rule ≡ None) × P x
Passes rule P (Err e) = FailsRule rule e
