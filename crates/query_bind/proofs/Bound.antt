-- Conditions of conditions hold where those of the query do.
use Rattle.std.proofs.Common.{◌≡◌, Bool, ◌&&◌, ◌||◌, List, [], ◌∷◌, Option, map, refl, sym, ap, ◌∙◌, ℤ, to_z, of_z}
use Rattle.std.specs.List.{list_all, list_any}
use Rattle.std.proofs.lemmas.Int.{to_z-of_z}
use Rattle.std.specs.Prelude.{FitsSigned}
use Rattle.std.specs.Int.{w64}
use Rattle.soql.specs.declared.query.Cond.{Cond}
use Rattle.model.specs.declared.record.Record.{Record}
use Rattle.model.specs.Paths.{Asked}
use Rattle.query_plan.specs.declared.check.Check.{Check}
use Rattle.query_plan.specs.Checks.{check_holds}

all_by : {X : Type 0} (p : X → Bool) (xs : List X) → list_all p xs ≡ list_all (λ (b : Bool). b) (map p xs)
all_by p [] = refl
all_by p (x ∷ xs) = ap (λ b. p x && b) (all_by p xs)

any_by : {X : Type 0} (p : X → Bool) (xs : List X) → list_any p xs ≡ list_any (λ (b : Bool). b) (map p xs)
any_by p [] = refl
any_by p (x ∷ xs) = ap (λ b. p x || b) (any_by p xs)

module _ (a : Asked) (far : List (Option Record)) (r : Record) (model : (c : Cond) → Bool) where
  pub all_bound : (checks : List Check) (conds : List Cond) → map (check_holds far r) checks ≡ map model conds → list_all (check_holds far r) checks ≡ list_all model conds
  all_bound checks conds e = all_by (check_holds far r) checks ∙ ap (list_all (λ (b : Bool). b)) e ∙ sym (all_by model conds)

  pub some_bound : (checks : List Check) (conds : List Cond) → map (check_holds far r) checks ≡ map model conds → list_any (check_holds far r) checks ≡ list_any model conds
  some_bound checks conds e = any_by (check_holds far r) checks ∙ ap (list_any (λ (b : Bool). b)) e ∙ sym (any_by model conds)

-- a number that fits its type is read back
pub same_day : (z : ℤ) → FitsSigned w64 z → to_z w64 (of_z w64 z) ≡ z
same_day z fits = to_z-of_z w64 z fits
