-- The counts of rows shown.
use Rattle.std.proofs.lemmas.Bool.{cases_Bool}
use Rattle.std.specs.Cmp.{unsigned_Decides}
use Rattle.std.proofs.Common.{◌≡◌, ◌≢◌, ◌⊎◌, inl, inr, ℕ, zero, suc, ◌+◌, ◌-◌, ◌^◌, ◌<◌, ◌≤◌, ◌==◌, true, false, cond, List, length, set, slice_index, get_or-set_same, get_or-set_other, sym, ap, ◌∙◌, true≢false, arith}
use Rattle.base_value.specs.Causes.{up_to_last}
use Rattle.store_kv.specs.State.{more_shown}

pub counted_by : (xs : List ℕ) (k v n : ℕ) → k < length xs → slice_index xs k ≤ 2 ^ 64 - 1 → v ≡ up_to_last (slice_index xs k + n) → ◌≡◌ {A = ℕ → ℕ} (λ t. slice_index (set xs k v) t) (more_shown k n (λ t. slice_index xs t))
counted_by xs k v zero low fits is = λ i t. at t (cases_Bool (t == k)) i
  where
    at : (t : ℕ) → ((t == k) ≡ true) ⊎ ((t == k) ≡ false) → slice_index (set xs k v) t ≡ slice_index xs t
    at t (inl here) =
        let same : t ≡ k = (unsigned_Decides t k).0 here in
        let value : v ≡ slice_index xs k = omega arith in
        ap (λ u. slice_index (set xs k v) u) same ∙ get_or-set_same xs k v 0 low ∙ value ∙ ap (λ u. slice_index xs u) (sym same)
    at t (inr other) = let apart : t ≢ k = λ e. true≢false (sym ((unsigned_Decides t k).1 e) ∙ other) in rw get_or-set_other
counted_by xs k v (suc n) low fits is = λ i t. at t (cases_Bool (t == k)) i
  where
    at : (t : ℕ) → ((t == k) ≡ true) ⊎ ((t == k) ≡ false) → slice_index (set xs k v) t ≡ cond (t == k) (up_to_last (slice_index xs t + suc n)) (slice_index xs t)
    at t (inl here) =
        let same : t ≡ k = (unsigned_Decides t k).0 here in
        rw here (ap (λ u. slice_index (set xs k v) u) same ∙ get_or-set_same xs k v 0 low ∙ is ∙ ap (λ u. up_to_last (slice_index xs u + suc n)) (sym same))
    at t (inr other) = let apart : t ≢ k = λ e. true≢false (sym ((unsigned_Decides t k).1 e) ∙ other) in rw other (rw get_or-set_other)
