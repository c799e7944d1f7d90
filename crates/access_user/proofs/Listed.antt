-- What is picked of a list, one element further.
use Rattle.std.proofs.Common.{◌≡◌, ◌∙◌, ℕ, ◌+◌, ◌<◌, List, [], ◌∷◌, ◌++◌, length, take, get_or, Option, Some, None, sym, ap}
use Rattle.std.specs.Prelude.{filter_map}
use Rattle.std.specs.List.{cons_option}
use Rattle.std.proofs.lemmas.List.{take_more, append-nil as none_more}
use Rattle.std.proofs.lemmas.List.Elements.{filter_map-append}

module _ {X Y : Type 0} (h : X → Option Y) (xs : List X) (i : ℕ) (x : X) (lt : i < length xs) (is : x ≡ get_or xs i x) where
  abbrev picked : List Y
  picked = filter_map h (take i xs)

  next : filter_map h (take (i + 1) xs) ≡ picked ++ cons_option (h x) []
  next = ap (filter_map h) (take_more xs i x lt) ∙ filter_map-append h (take i xs) (get_or xs i x ∷ []) ∙ ap (λ (y : X). picked ++ cons_option (h y) []) (sym is)

  -- the next is picked, or isn't
  pub picked_next : (found : List Y) (y : Y) → found ≡ picked → Some y ≡ h x → found ++ (y ∷ []) ≡ filter_map h (take (i + 1) xs)
  picked_next found y e some = ap (λ (ys : List Y). ys ++ (y ∷ [])) e ∙ ap (λ (o : Option Y). picked ++ cons_option o []) some ∙ sym next

  pub left_out : (found : List Y) → found ≡ picked → None ≡ h x → found ≡ filter_map h (take (i + 1) xs)
  left_out found e none = e ∙ sym (none_more picked) ∙ ap (λ (o : Option Y). picked ++ cons_option o []) none ∙ sym next
