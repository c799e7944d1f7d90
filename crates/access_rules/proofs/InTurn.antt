-- One rule for each of several, in their order.
use Rattle.std.proofs.Common.{◌≡◌, ◌∙◌, ◌<◌, ◌≤◌, ℕ, ◌+◌, List, ◌∷◌, length, map, get_or, drop, sym, ap, None, subst}
use Rattle.std.proofs.lemmas.List.{drop_all}
use Rattle.base_lemmas.proofs.Lists.{drop-cons_read as rest_is}
use Rattle.model.specs.Rules.{Rule, first_of, first_refusal}
use Rattle.store_abstraction.specs.declared.fail.EditFail.{EditFail}
use Rattle.store_edit.specs.Judging.{FailsRule}
use Rattle.store_edit.proofs.StepByStep.{fails_here}

module _ {X : Type 0} (rule : X → Rule) (xs : List X) (i : ℕ) (x : X) (in_list : i < length xs) (is : x ≡ get_or xs i x) where
  -- the first refusal of all is that of the rest; and it is this one's, where the rule on it fails
  pub this_fails : (e : EditFail) → first_of rule (drop i xs) ≡ first_of rule xs → FailsRule (rule x) e → FailsRule (first_of rule xs) e
  this_fails e same h = subst (λ (r : Rule). FailsRule r e) (sym (ap (first_of rule) (rest_is xs i x in_list is)) ∙ same) (fails_here (rule x) (map rule (drop (i + 1) xs)) e h)

  pub this_passes : first_of rule (drop i xs) ≡ first_of rule xs → rule x ≡ None → first_of rule (drop (i + 1) xs) ≡ first_of rule xs
  this_passes same none = sym (ap (first_of rule) (rest_is xs i x in_list is) ∙ ap (λ (r : Rule). first_refusal (r ∷ map rule (drop (i + 1) xs))) none) ∙ same

-- no rule is left behind the last
pub none_left : {X : Type 0} (rule : X → Rule) (xs : List X) (i : ℕ) → length xs ≤ i → first_of rule (drop i xs) ≡ None
none_left rule xs i past = ap (first_of rule) (drop_all i xs past)
