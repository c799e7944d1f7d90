-- The first refusal of conditions, one after the other.
use Rattle.std.proofs.Common.{◌≡◌, ℕ, ◌+◌, ◌<◌, List, ◌++◌, Some, None, drop, length, get_or, flat_map, refl, sym, ap, ◌∙◌}
use Rattle.std.proofs.lemmas.List.{at_drop_more}
use Rattle.soql.specs.declared.query.Cond.{Cond}
use Rattle.model.specs.declared.refusal.Refusal.{Refusal}
use Rattle.model.specs.Rules.{Rule, first_of}
use Rattle.model.specs.Tests.{Tested, tests_of}
use Rattle.query_check.proofs.Tests.{first_later, first_there}

module _ (f : Tested → Rule) (conds : List Cond) (i : ℕ) (x : Cond) where
  split : i < length conds → x ≡ get_or conds i x → first_of f (flat_map tests_of (drop i conds)) ≡ first_of f (tests_of x ++ flat_map tests_of (drop (i + 1) conds))
  split lt is =
      at_drop_more (λ rest. first_of f (flat_map tests_of rest)) conds i x lt
      ∙ ap (λ p. first_of f (tests_of p ++ flat_map tests_of (drop (i + 1) conds))) (sym is)

  pub refused : (r : Refusal) → i < length conds → x ≡ get_or conds i x → first_of f (tests_of x) ≡ Some r
      → first_of f (flat_map tests_of conds) ≡ first_of f (flat_map tests_of (drop i conds)) → Some r ≡ first_of f (flat_map tests_of conds)
  refused r lt is e so_far = sym (so_far ∙ split lt is ∙ first_there f (tests_of x) (flat_map tests_of (drop (i + 1) conds)) r e)

  pub goes_on : i < length conds → x ≡ get_or conds i x → first_of f (tests_of x) ≡ None
      → first_of f (flat_map tests_of conds) ≡ first_of f (flat_map tests_of (drop i conds)) → first_of f (flat_map tests_of conds) ≡ first_of f (flat_map tests_of (drop (i + 1) conds))
  goes_on lt is e so_far = so_far ∙ split lt is ∙ first_later f (tests_of x) (flat_map tests_of (drop (i + 1) conds)) e

-- what isn't a refusal is none
pub none_there : (o : Rule) → ((r : Refusal) → o ≡ Some r → ⊥) → o ≡ None
none_there None h = refl
none_there (Some r) h = absurd (h r refl)
