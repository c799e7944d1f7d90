-- From what was read of a text's tokens to what its reader returns.
use Rattle.std.proofs.Common.{◌≡◌, ◌-◌, ◌==◌, if◌then◌else◌, ℕ, List, [], ◌∷◌, length, Option, Some, None, Result, Ok, Err, IfOk, slice_index_or, refl, sym, ◌∙◌, subst, ap, map, suc}
use Rattle.std.proofs.Math.Dec.{eqb-suc-zero}
use Rattle.std.specs.Option.{ok_or}
use Rattle.base_grammar.specs.Exact.{left}
use Rattle.base_grammar.specs.Place.{IsOrMemory, OnMalformed, UnlessMemory, at_end, if_last, starts, whole_of}
use Rattle.base_grammar.specs.Reader.{Outcome}
use Rattle.base_grammar.specs.declared.fail.ParseFail.{ParseFail}
use Rattle.base_grammar.specs.declared.fail.ParseFail.TheVariants.{Malformed, Memory}
use Rattle.base_grammar.specs.declared.token.Placed.{Placed}

-- the value and the place, each computed
pub both_computed : {K A : Type 0} (ss : List ℕ) (ts : List K) (end : ℕ) → length ss ≡ length ts → (o : Outcome K A)
    → at_end ss end o ≡ ok_or (whole_of o) (slice_index_or ss (length ts - left o) end)
both_computed {K = K} {A = A} ss ts end len (Ok got) = go got.1
  where
    go : (rest : List K)
        → (if length rest == 0 then Ok got.0 else Err (slice_index_or ss (length ss - length rest) end))
        ≡ ok_or (if_last got.0 rest) (slice_index_or ss (length ts - length rest) end)
    go [] = refl
    go (token ∷ more) = rw (eqb-suc-zero (length more), len) refl
both_computed ss ts end len (Err n) = rw len refl

-- what is returned by both is what each says, if the value is what is spelled and the place the refused one
module _ {A : Type 0} (Spells : A → Type 0) (IsRefusedAt : ℕ → Type 0) (value : Option A) (place : ℕ)
    (spelled : (a : A) → value ≡ Some a → Spells a) (computed : (a : A) → Spells a → value ≡ Some a) (refused : value ≡ None → IsRefusedAt place) where
  value_in : (v : Option A) (a : A) → ok_or v place ≡ Ok a → v ≡ Some a
  value_in (Some b) a e = cc
  value_in None a e = absurd (cc)

  none_in : (v : Option A) (at : ℕ) → ok_or v place ≡ Err at → v ≡ None
  none_in (Some b) at e = absurd (cc)
  none_in None at e = refl

  place_in : (v : Option A) (at : ℕ) → ok_or v place ≡ Err at → place ≡ at
  place_in (Some b) at e = absurd (cc)
  place_in None at e = cc

  pub found_by : (r : Result A ParseFail) → UnlessMemory r (λ read. ok_or value place ≡ read) → IfOk r Spells
  found_by (Ok a) h = spelled a (value_in value a h)
  found_by (Err e) h = tt

  pub only_by : (r : Result A ParseFail) → UnlessMemory r (λ read. ok_or value place ≡ read) → (a : A) → Spells a → IsOrMemory r a
  only_by (Ok b) h a sp = let one = sym (value_in value b h) in let other = computed a sp in cc
  only_by (Err (Malformed at)) h a sp = let none = none_in value at h in let some = computed a sp in absurd (cc)
  only_by (Err Memory) h a sp = tt

  pub place_by : (r : Result A ParseFail) → UnlessMemory r (λ read. ok_or value place ≡ read) → OnMalformed r IsRefusedAt
  place_by (Ok a) h = tt
  place_by (Err (Malformed at)) h = subst IsRefusedAt (place_in value at h) (refused (none_in value at h))
  place_by (Err Memory) h = tt

-- as many tokens as places
pub as_many : {K : Type 0} (sign_of : Placed → K) (all : List Placed) → length (starts all) ≡ length (map sign_of all)
as_many sign_of [] = refl
as_many sign_of (placed ∷ more) = ap suc (as_many sign_of more)

-- what is returned, if this was read
pub returned : {A : Type 0} (r : Result A ParseFail) (found read : Result A ℕ) → found ≡ read → UnlessMemory r (λ outcome. outcome ≡ found)
    → UnlessMemory r (λ outcome. read ≡ outcome)
returned (Ok a) found read e h = sym e ∙ sym h
returned (Err (Malformed at)) found read e h = sym e ∙ sym h
returned (Err Memory) found read e h = tt
