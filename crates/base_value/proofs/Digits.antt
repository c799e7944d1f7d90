-- Digits of a number.
use Rattle.std.proofs.Common.{◌≡◌, ℕ, zero, suc, ◌/◌, ◌%◌, ◌^◌, List, [], ◌∷◌, ◌++◌, length, refl, sym, ap, ap₂, ◌∙◌}
use Rattle.std.proofs.Math.Nat.{pow-zero, pow-succ', div-div-eq-div-mul, div-one}
use Rattle.base_value.specs.Digits.{digits}

-- the lowest digit is the last
pub digits-last : (B k n : ℕ) → digits B (suc k) n ≡ digits B k (n / B) ++ n % B ∷ []
unfolding digits
digits-last B zero n = ap (λ (z : ℕ). z % B ∷ []) (ap (λ (z : ℕ). n / z) (pow-zero B) ∙ div-one n)
digits-last B (suc k) n =
    let higher : n / B ^ suc k ≡ n / B / B ^ k = ap (λ (z : ℕ). n / z) (pow-succ' B k) ∙ sym (div-div-eq-div-mul n B (B ^ k)) in
    ap₂ (λ (z : ℕ) (zs : List ℕ). z % B ∷ zs) higher (digits-last B k n)

pub digits-none : (B n : ℕ) → digits B 0 n ≡ []
unfolding digits
digits-none B n = refl

pub digits-length : (B k n : ℕ) → length (digits B k n) ≡ k
unfolding digits
digits-length B zero n = refl
digits-length B (suc k) n = ap suc (digits-length B k n)
