-- The first refusal among rules.
use Rattle.std.proofs.Common.{◌≡◌, List, [], ◌∷◌, ◌++◌, Some, None, refl, ap}
use Rattle.std.specs.Prelude.{Err}
use Rattle.model.specs.Rules.{Rule, first_refusal}
use Rattle.model.specs.Tenant.{Tenant}
use Rattle.model.specs.Verdict.{Verdict, unless}
use Rattle.model.specs.declared.refusal.Refusal.{Refusal}

pub first_then : (xs ys : List Rule) → None ≡ first_refusal xs → first_refusal (xs ++ ys) ≡ first_refusal ys
first_then [] ys e = refl
first_then (Some r ∷ xs) ys e = absurd cc
first_then (None ∷ xs) ys e = first_then xs ys e

pub first_stays : (r : Refusal) (xs ys : List Rule) → Some r ≡ first_refusal xs → Some r ≡ first_refusal (xs ++ ys)
first_stays r [] ys e = absurd cc
first_stays r (Some x ∷ xs) ys e = e
first_stays r (None ∷ xs) ys e = first_stays r xs ys e

-- another rule in place of the second, which is the same unless the first refuses
pub same_unless : (first one two : Rule) (rest : List Rule) → (None ≡ first → one ≡ two) → first_refusal (first ∷ one ∷ rest) ≡ first_refusal (first ∷ two ∷ rest)
same_unless (Some r) one two rest same = refl
same_unless None one two rest same = ap (λ (x : Rule). first_refusal (x ∷ rest)) (same refl)

-- the first of the rules, and those behind it
pub first_passes : (first : Rule) (rest : List Rule) → None ≡ first → first_refusal (first ∷ rest) ≡ first_refusal rest
first_passes None rest e = refl
first_passes (Some r) rest e = absurd cc

pub first_refuses : (r : Refusal) (first : Rule) (rest : List Rule) → Some r ≡ first → Some r ≡ first_refusal (first ∷ rest)
first_refuses r (Some x) rest e = e
first_refuses r None rest e = absurd cc

-- where none refuses, the first doesn't, and none behind it
pub none_first : (first : Rule) (rest : List Rule) → None ≡ first_refusal (first ∷ rest) → None ≡ first
none_first None rest e = refl
none_first (Some r) rest e = absurd cc

pub none_behind : (first : Rule) (rest : List Rule) → None ≡ first_refusal (first ∷ rest) → None ≡ first_refusal rest
none_behind None rest e = e
none_behind (Some r) rest e = absurd cc

-- a rule that refuses, and what is answered if none does
pub refused_by : (r : Refusal) (rule : Rule) (t : Tenant) (it : Verdict) → Some r ≡ rule → (unless rule t it).answer ≡ Err r
refused_by r None t it e = absurd cc
refused_by r (Some x) t it e = let same : x ≡ r = cc in ap Err same
