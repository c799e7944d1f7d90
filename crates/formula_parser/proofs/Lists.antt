-- The turns of the loop that reads formulas one behind the other.
use Rattle.std.proofs.Common.{◌≡◌, ℕ, suc, zero, ◌-◌, ◌≢◌, List, [], ◌∷◌, refl, arith}
use Rattle.base_grammar.specs.Part as part
use Rattle.base_grammar.specs.Reader as reader
use Rattle.base_grammar.proofs.Lists.{Takes, exact_takes}
use Rattle.base_grammar.proofs.Pairs.{after_exact}
use Rattle.formula.specs.grammar.Grammar as g
use Rattle.formula.specs.grammar.Reading as spec
use Rattle.formula.specs.grammar.Signs.{kind}
use Rattle.formula.specs.declared.grammar.sign.Sign.{Sign}
use Rattle.formula.proofs.Instances.{firsts, nested_exact}

-- a comma and a formula take a token
pub another_takes : (levels : ℕ) → Takes (reader.after kind 16 (spec.nested levels))
another_takes levels =
    exact_takes kind (part.after kind 16 (g.nested levels)) (reader.after kind 16 (spec.nested levels)) (16 ∷ []) []
    (after_exact kind 16 (g.nested levels) (spec.nested levels) firsts [] (nested_exact levels))

pub nested-suc : (levels : ℕ) (ts : List Sign) → levels ≢ 0 → spec.formula_over (spec.nested (levels - 1)) ts ≡ spec.nested levels ts
unfolding spec.nested
nested-suc zero ts h = absurd (h refl)
nested-suc (suc n) ts h = let e : suc n - 1 ≡ n = omega arith in rw e refl

pub nested-zero : (levels : ℕ) (ts : List Sign) → levels ≡ 0 → spec.plain ts ≡ spec.nested levels ts
unfolding spec.nested
nested-zero levels ts h = rw h refl
