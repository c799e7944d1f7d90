-- The first refusal of what is selected, one after the other.
use Rattle.std.proofs.Common.{◌≡◌, ℕ, ◌+◌, ◌<◌, ◌≤◌, List, [], ◌∷◌, ◌++◌, Some, None, drop, length, get_or, sym, ap, ◌∙◌}
use Rattle.std.proofs.lemmas.List.{at_drop_all, at_drop_more}
use Rattle.model.specs.declared.refusal.Refusal.{Refusal}
use Rattle.model.specs.Rules.{Rule, first_refusal}
use Rattle.query_check.specs.Rules.{each_rule}
use Rattle.query_check.proofs.Tests.{one_rule}

module _ {X : Type 0} (name : X → List ℕ) (rule : List (List ℕ) → X → Rule) (xs : List X) (i : ℕ) (whole : Rule) (before : List (List ℕ)) where
  split : (x : X) → i < length xs → x ≡ get_or xs i x
      → each_rule name rule before (drop i xs) ≡ first_refusal (rule before x ∷ each_rule name rule (before ++ name x ∷ []) (drop (i + 1) xs) ∷ [])
  unfolding each_rule
  split x lt is =
      at_drop_more (λ rest. each_rule name rule before rest) xs i x lt
      ∙ ap (λ y. each_rule name rule before (y ∷ drop (i + 1) xs)) (sym is)

  pub selected_refused : (x : X) (r : Refusal) → i < length xs → x ≡ get_or xs i x → rule before x ≡ Some r
      → whole ≡ each_rule name rule before (drop i xs) → Some r ≡ whole
  selected_refused x r lt is e so_far =
      sym (so_far ∙ split x lt is ∙ ap (λ q. first_refusal (q ∷ each_rule name rule (before ++ name x ∷ []) (drop (i + 1) xs) ∷ [])) e)

  pub selected_on : (x : X) (after : List (List ℕ)) (its : List ℕ) → i < length xs → x ≡ get_or xs i x → rule before x ≡ None → its ≡ name x → after ≡ before ++ its ∷ []
      → whole ≡ each_rule name rule before (drop i xs) → whole ≡ each_rule name rule after (drop (i + 1) xs)
  selected_on x after its lt is e named pushed so_far =
      so_far ∙ split x lt is ∙ ap (λ q. first_refusal (q ∷ each_rule name rule (before ++ name x ∷ []) (drop (i + 1) xs) ∷ [])) e
      ∙ one_rule (each_rule name rule (before ++ name x ∷ []) (drop (i + 1) xs))
      ∙ ap (λ n. each_rule name rule (before ++ n ∷ []) (drop (i + 1) xs)) (sym named)
      ∙ ap (λ names. each_rule name rule names (drop (i + 1) xs)) (sym pushed)

  pub none_selected : length xs ≤ i → whole ≡ each_rule name rule before (drop i xs) → None ≡ whole
  unfolding each_rule
  none_selected le so_far = sym (so_far ∙ at_drop_all (λ rest. each_rule name rule before rest) xs i le)
