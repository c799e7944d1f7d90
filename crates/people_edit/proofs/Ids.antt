-- What a rule on a reference comes to.
use Rattle.std.proofs.Common.{◌≡◌, ◌∙◌, Bool, true, false, List, ℕ, None, Some, sym, ap}
use Rattle.model.specs.declared.refusal.Refusal.{Refusal}
use Rattle.model.specs.declared.refusal.Refusal.TheVariants.{InvalidReference}
use Rattle.model.specs.Rules.{refuse_if}

-- a rule on a reference that doesn't refuse, and one that refuses under the member's name
pub not_refused : (b : Bool) (r : Refusal) → b ≡ false → refuse_if b r ≡ None
not_refused b r e = ap (λ (x : Bool). refuse_if x r) e

pub refused_reference : (b : Bool) (member name : List ℕ) → b ≡ true → name ≡ member → refuse_if b (InvalidReference member) ≡ Some (InvalidReference name)
refused_reference b member name e same = ap (λ (x : Bool). refuse_if x (InvalidReference member)) e ∙ ap (λ (x : List ℕ). Some (InvalidReference x)) (sym same)
