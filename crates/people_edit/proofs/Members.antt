-- Members of a group: one rule for each, in their order, and the principals that they spell.
use Rattle.std.proofs.Common.{◌≡◌, ◌∙◌, ◌<◌, ◌≤◌, ℕ, ◌+◌, List, [], ◌∷◌, ◌++◌, length, map, get_or, drop, refl, sym, ap, None, subst, append_assoc, append-nil}
use Rattle.std.proofs.lemmas.List.{drop_all}
use Rattle.model.specs.Rules.{Rule, first_of, first_refusal}
use Rattle.store_abstraction.specs.declared.fail.EditFail.{EditFail}
use Rattle.std.specs.Prelude.{IsTrue}
use Rattle.base_lemmas.proofs.Lists.{drop-cons_read as rest_is}
use Rattle.base_value.specs.Id.{is_id}
use Rattle.model.specs.declared.people_bodies.PrincipalKind.{PrincipalKind}
use Rattle.model.specs.declared.people_bodies.PrincipalKind.TheVariants as kind
use Rattle.model.specs.Principals.{kind_of}
use Rattle.store_codec.specs.Composed.{FitsPrincipal}
use Rattle.store_edit.specs.Judging.{FailsRule}
use Rattle.store_edit.proofs.StepByStep.{fails_here}

module _ {X : Type 0} (rule : X → Rule) (xs : List X) (i : ℕ) (x : X) (in_list : i < length xs) (is : x ≡ get_or xs i x) where
  -- the first refusal of all is that of the rest; and it is this one's, where the rule on it fails
  pub this_fails : (e : EditFail) → first_of rule (drop i xs) ≡ first_of rule xs → FailsRule (rule x) e → FailsRule (first_of rule xs) e
  this_fails e same h = subst (λ (r : Rule). FailsRule r e) (sym (ap (first_of rule) (rest_is xs i x in_list is)) ∙ same) (fails_here (rule x) (map rule (drop (i + 1) xs)) e h)

  pub this_passes : first_of rule (drop i xs) ≡ first_of rule xs → rule x ≡ None → first_of rule (drop (i + 1) xs) ≡ first_of rule xs
  this_passes same none = sym (ap (first_of rule) (rest_is xs i x in_list is) ∙ ap (λ (r : Rule). first_refusal (r ∷ map rule (drop (i + 1) xs))) none) ∙ same

-- what is made of each, so far and of the rest
pub one_more_made : {X Y : Type 0} (f : X → Y) (xs : List X) (made : List Y) (i : ℕ) (x : X) → drop i xs ≡ x ∷ drop (i + 1) xs → made ++ map f (drop i xs) ≡ map f xs
    → (made ++ f x ∷ []) ++ map f (drop (i + 1) xs) ≡ map f xs
one_more_made {X} f xs made i x rest same = append_assoc made (f x ∷ []) (map f (drop (i + 1) xs)) ∙ ap (λ (ys : List X). made ++ map f ys) (sym rest) ∙ same

-- no rule is left behind the last
pub none_left : {X : Type 0} (rule : X → Rule) (xs : List X) (i : ℕ) → length xs ≤ i → first_of rule (drop i xs) ≡ None
none_left rule xs i past = ap (first_of rule) (drop_all i xs past)

-- the rules on what is made of each
pub first_mapped : {X Y : Type 0} (rule : Y → Rule) (f : X → Y) (xs : List X) → first_of rule (map f xs) ≡ first_of (λ x. rule (f x)) xs
first_mapped {X} rule f xs = ap first_refusal (mapped xs)
  where
    mapped : (xs : List X) → map rule (map f xs) ≡ map (λ x. rule (f x)) xs
    mapped [] = refl
    mapped (x ∷ xs) = ap (λ (rs : List Rule). rule (f x) ∷ rs) (mapped xs)

-- what was made of all
pub all_made : {X Y : Type 0} (f : X → Y) (xs : List X) (made : List Y) (i : ℕ) → length xs ≤ i → made ++ map f (drop i xs) ≡ map f xs → made ≡ map f xs
all_made {X} f xs made i past same = sym (append-nil made) ∙ ap (λ (ys : List X). made ++ map f ys) (sym (drop_all i xs past)) ∙ same

-- a principal of any kind with an id
pub kind_fits : (k : PrincipalKind) (i : List ℕ) → IsTrue (is_id i) → FitsPrincipal (kind_of k i)
kind_fits kind.User i h = h
kind_fits kind.Role i h = h
kind_fits kind.Subordinates i h = h
kind_fits kind.Group i h = h
