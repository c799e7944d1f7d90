-- The name of a body's member, as it is compared, and the rule on the member.
use Rattle.std.proofs.Common.{◌≡◌, Bool, true, false, cond, subst}
use Rattle.std.specs.Prelude.{Result}
use Rattle.model.specs.Rules.{Rule}
use Rattle.store_abstraction.specs.declared.fail.EditFail.{EditFail}
use Rattle.store_edit.specs.Judging.{Passes}

-- the rule on this member, and that on another
module _ (b : Bool) (rule rest : Rule) (r : Result (Unit {0}) EditFail) where
  pub this_member : true ≡ b → Passes rule (λ x. Unit {0}) r → Passes (cond b rule rest) (λ x. Unit {0}) r
  this_member is h = subst (λ (c : Bool). Passes (cond c rule rest) (λ (x : Unit {0}). Unit {0}) r) is h

  pub other_member : false ≡ b → Passes rest (λ x. Unit {0}) r → Passes (cond b rule rest) (λ x. Unit {0}) r
  other_member is h = subst (λ (c : Bool). Passes (cond c rule rest) (λ (x : Unit {0}). Unit {0}) r) is h
