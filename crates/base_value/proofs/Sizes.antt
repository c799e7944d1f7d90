-- The exact size of a number, from its digits without the zeros at their end.
use Rattle.std.proofs.Common.{◌≡◌, ◌≢◌, ℕ, ◌+◌, ◌-◌, ◌*◌, ◌/◌, ◌%◌, ◌^◌, ◌<◌, ◌≤◌, ◌⊎◌, nat_lt, Bool, true, false, if◌then◌else◌, List, [], ◌∷◌, ◌++◌, length, take, get_or, Option, Some, None, refl, sym, ◌∙◌, ap, inl, inr, arith, eqb-true, lit<}
use Rattle.std.proofs.Math.Nat.{one-le-pow, pow-le-pow_right, mul-le-mul_left, mul-le-mul_right, mul-div_cancel, mul-mod_left}
use Rattle.std.proofs.lemmas.Grind.{get_or_default_zero}
use Rattle.std.proofs.lemmas.List.{take_more}
use Rattle.std.proofs.lemmas.Nat.{pow-add, div-add-mod'}
use Rattle.std.proofs.lemmas.Bool.{cases_lt, and_parts as both_true}
use Rattle.std.proofs.lemmas.Bool.Decides.{nat_tests}
use Rattle.std.specs.Prelude.{MatchOption}
use Rattle.std.proofs.lemmas.Option.{cond_some as chosen}
use Rattle.base_value.specs.Numerals.{digit_of, exact_bound, exactly, of_digits_behind, quotient}
use Rattle.base_value.specs.inner.Mantissas.{IsMantissa, IsCapped, IsScaled, IsShifted, places_up, places_down, power_cap, size_by}

pub ten_pos : (k : ℕ) → 0 < 10 ^ k
ten_pos k = one-le-pow k 10 (lit< tt)

pub cancel : (a b k : ℕ) → a * 10 ^ k ≡ b * 10 ^ k → a ≡ b
cancel a b k h = sym (mul-div_cancel a (ten_pos k)) ∙ ap (λ x. x / 10 ^ k) h ∙ mul-div_cancel b (ten_pos k)

pub up_is : (n m d e : ℕ) → n * 10 ^ d ≡ m * 10 ^ (e + d) → n ≡ m * 10 ^ e
up_is n m d e h = cancel n (m * 10 ^ e) d (h ∙ rw (pow-add 10 e d) (omega arith))

pub grows : (m e : ℕ) → m ≤ m * 10 ^ e
grows m e = omega (arith, mul-le-mul_left m (ten_pos e))

pub big : (m e : ℕ) → 0 < m → 26 ≤ e → exact_bound ≤ m * 10 ^ e
big m e p h = let g : 10 ^ 26 ≤ 10 ^ e = pow-le-pow_right (lit< tt) h in omega (arith, mul-le-mul_left m g, mul-le-mul_right (10 ^ 26) p)

pub ten_divides : (n e : ℕ) → 0 < e → n * 10 ^ e % 10 ≡ 0
ten_divides n e h =
    let one_less : (e - 1) + 1 ≡ e = omega arith in
    let split : 10 ^ ((e - 1) + 1) ≡ 10 ^ (e - 1) * 10 = pow-add 10 (e - 1) 1 in
    let product : n * 10 ^ e ≡ n * 10 ^ (e - 1) * 10 = ap (λ x. n * 10 ^ x) (sym one_less) ∙ (ap (λ p. n * p) split ∙ (omega arith)) in
    rw product (mul-mod_left (n * 10 ^ (e - 1)) 10)

-- ---- a quotient

pub quotient_is : (a b n : ℕ) → quotient exact_bound a b ≡ Some n → (n * b ≡ a) × (n < exact_bound)
quotient_is a b n h =
    let c = chosen _ (a / b) n h in
    let t = both_true _ _ c.0 in
    let whole : a % b ≡ 0 = eqb-true _ _ t.0 in
    let small : a / b < exact_bound = grind (arith, nat_tests, t.1) in
    rw (← c.1) (omega (arith, div-add-mod' a b), small)

pub quotient_some : (a b n : ℕ) → 0 < b → n * b ≡ a → n < exact_bound → quotient exact_bound a b ≡ Some n
quotient_some a b n p e h =
    let whole : a % b ≡ 0 = rw (← e) (mul-mod_left n b) in
    let q : a / b ≡ n = rw (← e) (mul-div_cancel n p) in
    let small : nat_lt n exact_bound ≡ true = grind (arith, nat_tests, h) in
    rw (whole, q, small) refl

pub quotient_none : (a b : ℕ) → ((n : ℕ) → n * b ≡ a → n < exact_bound → ⊥) → quotient exact_bound a b ≡ None
quotient_none a b never = none (quotient exact_bound a b) refl
  where
    none : (o : Option ℕ) → quotient exact_bound a b ≡ o → quotient exact_bound a b ≡ None
    none None e = e
    none (Some n) e = let f = quotient_is a b n e in absurd (never n f.0 f.1)

-- ---- products with powers of ten

pub ten_more : (n k : ℕ) → n * 10 ^ (k + 1) ≡ n * 10 ^ k * 10
ten_more n k = omega (arith, ap (λ p. n * p) (pow-add 10 k 1))

pub ten_up_to : (n j k : ℕ) → j ≤ k → n * 10 ^ j ≤ n * 10 ^ k
ten_up_to n j k h = let g : 10 ^ j ≤ 10 ^ k = pow-le-pow_right (lit< tt) h in mul-le-mul_left n g

-- ---- what is exactly the size

-- n * 10^-8 is m * 10^(up - k - down), and smaller than 10^18
pub record IsExactly (m k up down n : ℕ) : Type 0 where
  pub same : n * 10 ^ (k + down) ≡ m * 10 ^ (8 + up)
  pub small : n < exact_bound

pub exactly_is : (m k up down n : ℕ) → exactly m k up down ≡ Some n → IsExactly m k up down n
unfolding exactly
exactly_is m k up down n h = let q = quotient_is _ _ n h in record { same = q.0; small = q.1 }

pub exactly_some : (m k up down n : ℕ) → IsExactly m k up down n → exactly m k up down ≡ Some n
unfolding exactly
exactly_some m k up down n h = quotient_some _ _ n (ten_pos (k + down)) h.same h.small

pub exactly_none : (m k up down : ℕ) → ((n : ℕ) → IsExactly m k up down n → ⊥) → exactly m k up down ≡ None
unfolding exactly
exactly_none m k up down never = quotient_none _ _ (λ n e h. never n (record { same = e; small = h }))

module _ (m k up down top zeros : ℕ) (same : m ≡ top * 10 ^ zeros) where
  -- m * 10 ^ (8 + up), by the digits that are kept
  shift : m * 10 ^ (8 + up) ≡ top * 10 ^ (zeros + (8 + up))
  shift = rw same (omega (arith, ap (λ p. top * p) (pow-add 10 zeros (8 + up))))

  pub none_great : (e : ℕ) → e + (k + down) ≡ zeros + (8 + up) → exact_bound ≤ top * 10 ^ e → exactly m k up down ≡ None
  none_great e sum great = exactly_none m k up down (λ n h.
      let is : n ≡ top * 10 ^ e = up_is n top (k + down) e (h.same ∙ shift ∙ ap (λ x. top * 10 ^ x) (sym sum)) in
      let small : n < exact_bound = h.small in
      omega arith)

  pub some_small : (e : ℕ) → e + (k + down) ≡ zeros + (8 + up) → top * 10 ^ e < exact_bound → exactly m k up down ≡ Some (top * 10 ^ e)
  some_small e sum small = exactly_some m k up down _ (record {
    same =
        let p = pow-add 10 e (k + down) in
        sym (shift ∙ ap (λ x. top * 10 ^ x) (sym sum) ∙ rw p (omega arith));
    small = small;
  })

  pub none_broken : (e : ℕ) → 0 < e → e + (zeros + (8 + up)) ≡ k + down → 0 < top → top % 10 ≢ 0 → exactly m k up down ≡ None
  none_broken e pos sum some last = exactly_none m k up down (λ n h.
      let is : top ≡ n * 10 ^ e = up_is top n (zeros + (8 + up)) e (sym shift ∙ sym h.same ∙ ap (λ x. n * 10 ^ x) (sym sum)) in
      last (rw is (ten_divides n e pos)))

  pub nothing : top ≡ 0 → exactly m k up down ≡ Some 0
  nothing z = exactly_some m k up down 0 (record { same = rw same (rw z (omega arith)); small = lit< tt })

-- ---- digits one by one

pub scaled_none : (n power place value : ℕ) → value ≡ n * 10 ^ place → 10 ^ 25 ≤ value → place < power → exact_bound ≤ n * 10 ^ power
scaled_none n power place value e great lt = omega (arith, ten_more n place, ten_up_to n (place + 1) power (omega arith))

pub shifted_small : (value n power digit : ℕ) → value ≡ n * 10 ^ power → 0 < power → value < exact_bound → digit < 10 → value + digit < exact_bound
shifted_small value n power digit e some small d =
    let z : value % 10 ≡ 0 = rw e (ten_divides n power some) in
    omega arith

pub zero_digit : (kept : Option ℕ) (zeros n digit : ℕ) → digit ≡ 0 → IsMantissa kept zeros n → IsMantissa kept (zeros + 1) (n * 10 + digit)
zero_digit kept zeros n digit z h = record {
  top = h.top;
  same = omega (arith, h.same, ten_more h.top zeros);
  known = h.known;
  last = h.last;
}

module _ (kept found : Option ℕ) (zeros n digit : ℕ) (some : 0 < digit) (below : digit < 10) (h : IsMantissa kept zeros n) where
  -- the digits that are kept, with those zeros and this digit
  next : ℕ
  next = h.top * 10 ^ (zeros + 1) + digit

  next_same : n * 10 + digit ≡ next * 10 ^ 0
  unfolding next
  next_same = omega (arith, h.same, ten_more h.top zeros)

  next_last : 0 < next → next % 10 ≢ 0
  unfolding next
  next_last p e =
      let z : h.top * 10 ^ (zeros + 1) % 10 ≡ 0 = ten_divides h.top (zeros + 1) (omega arith) in
      absurd (omega arith)

  next_grows : h.top ≤ next
  unfolding next
  next_grows = omega (arith, grows h.top (zeros + 1))

  known : (k f : Option ℕ) → MatchOption k (exact_bound ≤ h.top) (λ n. (n ≡ h.top) × (h.top < exact_bound)) → IsShifted k (zeros + 1) digit f
      → MatchOption f (exact_bound ≤ next) (λ v. (v ≡ next) × (next < exact_bound))
  unfolding next
  known None None was is = omega (arith, grows h.top (zeros + 1))
  known None (Some v) was is = absurd (cc)
  known (Some m) None was is =
      let great : exact_bound ≤ h.top * 10 ^ (zeros + 1) = rw was.0 at is in
      omega arith
  known (Some m) (Some v) was is =
      let e : v ≡ h.top * 10 ^ (zeros + 1) + digit = rw was.0 at is.0 in
      (e, omega (arith, is.1))

  pub next_digit : IsShifted kept (zeros + 1) digit found → IsMantissa found 0 (n * 10 + digit)
  next_digit is = record { top = next; same = next_same; known = known kept found h.known is; last = next_last }

-- ---- the size, once the digits are read

module _ (kept zeros n places : ℕ) (h : IsMantissa (Some kept) zeros n) where
  pub size_zero : (down : Bool) (t : ℕ) → kept ≡ 0 → Some 0 ≡ size_by n places down t
  size_zero down t z = sym (nothing n places _ _ h.top zeros h.same (sym h.known.0 ∙ z))

  weighed : (up down e : ℕ) (found : Option ℕ) → e + (places + down) ≡ zeros + (8 + up) → IsScaled kept e found → found ≡ exactly n places up down
  weighed up down e None sum is = sym (none_great n places up down h.top zeros h.same e sum (rw h.known.0 at is))
  weighed up down e (Some v) sum is =
      let small : v < exact_bound = is.1 in
      let v_is : v ≡ h.top * 10 ^ e = rw h.known.0 at is.0 in
      rw v_is (sym (some_small n places up down h.top zeros h.same e sum (omega arith)))

  great_none : (e : ℕ) (found : Option ℕ) → 0 < kept → 26 ≤ e → IsScaled kept e found → found ≡ None
  great_none e None some far is = refl
  great_none e (Some v) some far is = absurd (omega (arith, big kept e some far, is.0, is.1))

  pub sized : (down : Bool) (power t : ℕ) (found : Option ℕ) → IsCapped power t → 0 < kept → zeros < 2 ^ 65 → places < 2 ^ 64
      → places_down down places power ≤ places_up down zeros power → IsScaled kept (places_up down zeros power - places_down down places power) found → found ≡ size_by n places down t
  sized true power t found capped some z p le is = down_cases capped.is
    where
      down_cases : (power ≡ t) ⊎ ((power_cap ≤ power) × (power_cap ≤ t)) → found ≡ exactly n places 0 t
      down_cases (inl e) = weighed 0 t (zeros + 8 - (places + power)) found (omega arith) is
      down_cases (inr far) = absurd (omega (arith, far.0))
  sized false power t found capped some z p le is = up_cases capped.is
    where
      up_cases : (power ≡ t) ⊎ ((power_cap ≤ power) × (power_cap ≤ t)) → found ≡ exactly n places t 0
      up_cases (inl e) = weighed t 0 (zeros + 8 + power - places) found (omega arith) is
      up_cases (inr far) =
          let none : found ≡ None = great_none (zeros + 8 + power - places) found some (omega (arith, far.0)) is in
          let great : exact_bound ≤ h.top * 10 ^ (zeros + 8 + t - places) = rw (← h.known.0) (big kept (zeros + 8 + t - places) some (omega (arith, far.1))) in
          none ∙ sym (none_great n places t 0 h.top zeros h.same (zeros + 8 + t - places) (omega (arith, far.1)) great)

  pub unsized : (down : Bool) (power t : ℕ) → IsCapped power t → 0 < kept → zeros < 2 ^ 65 → places < 2 ^ 64
      → places_up down zeros power < places_down down places power → None ≡ size_by n places down t
  unsized true power t capped some z p lt = down_cases capped.is
    where
      broken : (e : ℕ) → 0 < e → e + (zeros + 8) ≡ places + t → None ≡ exactly n places 0 t
      broken e pos sum =
          let top : 0 < h.top = rw (← h.known.0) some in
          sym (none_broken n places 0 t h.top zeros h.same e pos (omega arith) top (h.last top))

      down_cases : (power ≡ t) ⊎ ((power_cap ≤ power) × (power_cap ≤ t)) → None ≡ exactly n places 0 t
      down_cases (inl e) = broken (places + t - (zeros + 8)) (omega arith) (omega arith)
      down_cases (inr far) = broken (places + t - (zeros + 8)) (omega (arith, far.1)) (omega (arith, far.1))
  unsized false power t capped some z p lt = up_cases capped.is
    where
      broken : (e : ℕ) → 0 < e → e + (zeros + 8 + t) ≡ places → None ≡ exactly n places t 0
      broken e pos sum =
          let top : 0 < h.top = rw (← h.known.0) some in
          sym (none_broken n places t 0 h.top zeros h.same e pos (omega arith) top (h.last top))

      up_cases : (power ≡ t) ⊎ ((power_cap ≤ power) × (power_cap ≤ t)) → None ≡ exactly n places t 0
      up_cases (inl e) = broken (places - (zeros + 8 + t)) (omega arith) (omega arith)
      up_cases (inr far) = absurd (omega (arith, far.0))

-- too many digits are too many with any exponent
pub size_none : (zeros n places : ℕ) (down : Bool) (t : ℕ) → IsMantissa None zeros n → None ≡ size_by n places down t
size_none zeros n places down t h = none (if down then 0 else t) (if down then t else 0)
  where
    some : 0 < h.top
    some = omega (arith, h.known)

    none : (up low : ℕ) → None ≡ exactly n places up low
    none up low =
        elim (cases_lt (zeros + (8 + up)) (places + low)) [
          | inl lt ↦ sym (none_broken n places up low h.top zeros h.same (places + low - (zeros + (8 + up))) (omega arith) (omega arith) some (h.last some))
          | inr le ↦ sym (none_great n places up low h.top zeros h.same (zeros + (8 + up) - (places + low)) (omega arith) (omega (arith, h.known, grows h.top (zeros + (8 + up) - (places + low)))))
        ]

pub of_digits_behind-append : (n : ℕ) (xs ys : List ℕ) → of_digits_behind n (xs ++ ys) ≡ of_digits_behind (of_digits_behind n xs) ys
of_digits_behind-append n [] ys = refl
of_digits_behind-append n (x ∷ xs) ys = of_digits_behind-append (n * 10 + digit_of x) xs ys

-- before the first digit
pub no_digits : IsMantissa (Some 0) 0 0
no_digits = record { top = 0; same = refl; known = (refl, lit< tt); last = λ p. absurd (omega arith) }

-- one digit more
pub of_digits_behind-more : (n : ℕ) (ds : List ℕ) (i : ℕ) → i < length ds → of_digits_behind n (take (i + 1) ds) ≡ of_digits_behind n (take i ds) * 10 + digit_of (get_or ds i 0)
of_digits_behind-more n ds i h = ap (of_digits_behind n) (take_more ds i 0 h) ∙ of_digits_behind-append n (take i ds) (get_or ds i 0 ∷ [])

pub capped_more : (value t digit d : ℕ) → digit ≡ d → digit < 10 → value < power_cap → IsCapped value t → IsCapped (value * 10 + digit) (t * 10 + d)
capped_more value t digit d e small low h = by_cases h.is
  where
    by_cases : (value ≡ t) ⊎ ((power_cap ≤ value) × (power_cap ≤ t)) → IsCapped (value * 10 + digit) (t * 10 + d)
    by_cases (inl same) = record { fits = omega arith; is = inl (omega arith) }
    by_cases (inr far) = absurd (omega (arith, far.0))

pub capped_full : (value t d : ℕ) → power_cap ≤ value → IsCapped value t → IsCapped value (t * 10 + d)
capped_full value t d great h = record { fits = h.fits; is = inr (great, by_cases h.is) }
  where
    by_cases : (value ≡ t) ⊎ ((power_cap ≤ value) × (power_cap ≤ t)) → power_cap ≤ t * 10 + d
    by_cases (inl same) = omega arith
    by_cases (inr far) = omega (arith, far.1)

-- an element that was read, whatever stands in for a missing one
pub digit-read : (ds : List ℕ) (i d : ℕ) → i < length ds → d ≡ get_or ds i d → d ≡ get_or ds i 0
digit-read ds i d h e = e ∙ get_or_default_zero ds i d h
