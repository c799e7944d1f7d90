-- The byte order of UTF-8 is the order of the characters' numbers.
use Rattle.std.proofs.Common.{◌≡◌, ℕ, ◌+◌, ◌*◌, ◌/◌, ◌%◌, ◌<◌, ◌≤◌, List, [], ◌∷◌, ◌++◌, refl, sym, ap, ap₂, ◌∙◌, ⊎_elim, arith}
use Rattle.std.specs.declared.cmp.Ordering.{Ordering}
use Rattle.std.specs.declared.cmp.Ordering.TheVariants.{Less, Equal, Greater}
use Rattle.std.specs.Ordering.{nat_cmp, ordering_then}
use Rattle.std.specs.Cmp.Lexicographic.{slice_cmp}
use Rattle.std.specs.Str.{encode_utf8_all}
use Rattle.std.proofs.lemmas.Bool.{cases_lt, lt-ltb, le-ltb}
use Rattle.std.proofs.lemmas.Bool.Decides.{nat_tests}
use Rattle.base_lemmas.proofs.Orders.{ordering_then-assoc as then_assoc, nat_cmp-less as cmp_less}
use lib.Utf8.{encode}
use Rattle.base_value.proofs.DigitOrder.{cmp_join, cmp_more}

three_turns : (a b c d : Ordering) → ordering_then (ordering_then a (ordering_then b c)) d ≡ ordering_then a (ordering_then b (ordering_then c d))
three_turns Less b c d = refl
three_turns Equal b c d = then_assoc b c d
three_turns Greater b c d = refl

four_turns : (a b c d e : Ordering) → ordering_then (ordering_then a (ordering_then b (ordering_then c d))) e ≡ ordering_then a (ordering_then b (ordering_then c (ordering_then d e)))
four_turns Less b c d e = refl
four_turns Equal b c d e = three_turns b c d e
four_turns Greater b c d e = refl

-- ---- the bytes of a character, by how many there are
pub data Size (x : ℕ) : Type 0 where
  one : x < 128 → Size x
  two : 128 ≤ x → x < 2048 → Size x
  three : 2048 ≤ x → x < 65536 → Size x
  four : 65536 ≤ x → Size x

pub size_of : (x : ℕ) → Size x
size_of x = ⊎_elim (λ h. one h) (λ g. ⊎_elim (λ h. two g h) (λ k. ⊎_elim (λ h. three k h) (λ l. four l) (cases_lt x 65536)) (cases_lt x 2048)) (cases_lt x 128)

abbrev pub spelled : (x : ℕ) → Size x → List ℕ
spelled x (one h) = x ∷ []
spelled x (two g h) = (192 + x / 64) ∷ (128 + x % 64) ∷ []
spelled x (three g h) = (224 + x / 4096) ∷ (128 + x / 64 % 64) ∷ (128 + x % 64) ∷ []
spelled x (four g) = (240 + x / 262144) ∷ (128 + x / 4096 % 64) ∷ (128 + x / 64 % 64) ∷ (128 + x % 64) ∷ []

pub encode_is : (x : ℕ) (s : Size x) → encode x ≡ spelled x s
unfolding encode
encode_is x (one h) = rw (lt-ltb x 128 h) refl
encode_is x (two g h) = rw (le-ltb x 128 g, lt-ltb x 2048 h) refl
encode_is x (three g h) = rw (le-ltb x 128 (omega arith), le-ltb x 2048 g, lt-ltb x 65536 h) refl
encode_is x (four g) = rw (le-ltb x 128 (omega arith), le-ltb x 2048 (omega arith), le-ltb x 65536 g) refl

-- ---- the order of two characters

raised_alike : (k a b : ℕ) → nat_cmp (k + a) (k + b) ≡ nat_cmp a b
raised_alike k a b = grind (arith, nat_tests)

-- six bits more
six_more : (x y : ℕ) → nat_cmp x y ≡ ordering_then (nat_cmp (x / 64) (y / 64)) (nat_cmp (x % 64) (y % 64))
six_more x y =
    ap₂ nat_cmp (parts x) (parts y) ∙ cmp_join 64 (x / 64) (y / 64) (x % 64) (y % 64) (omega arith) (omega arith)
  where
    parts : (n : ℕ) → n ≡ n / 64 * 64 + n % 64
    parts n = omega arith

by_4096 : (n : ℕ) → n / 64 / 64 ≡ n / 4096
by_4096 n = omega arith

by_262144 : (n : ℕ) → n / 64 / 4096 ≡ n / 262144
by_262144 n = omega arith

twelve_more : (x y : ℕ) → nat_cmp x y ≡ ordering_then (nat_cmp (x / 4096) (y / 4096)) (ordering_then (nat_cmp (x / 64 % 64) (y / 64 % 64)) (nat_cmp (x % 64) (y % 64)))
twelve_more x y =
    let low : Ordering = nat_cmp (x % 64) (y % 64) in
    let mid : Ordering = nat_cmp (x / 64 % 64) (y / 64 % 64) in
    six_more x y
    ∙ ap (λ (o : Ordering). ordering_then o low) (six_more (x / 64) (y / 64) ∙ ap₂ (λ (a b : ℕ). ordering_then (nat_cmp a b) mid) (by_4096 x) (by_4096 y))
    ∙ then_assoc (nat_cmp (x / 4096) (y / 4096)) mid low

eighteen_more : (x y : ℕ) → nat_cmp x y ≡ ordering_then (nat_cmp (x / 262144) (y / 262144)) (ordering_then (nat_cmp (x / 4096 % 64) (y / 4096 % 64)) (ordering_then (nat_cmp (x / 64 % 64) (y / 64 % 64)) (nat_cmp (x % 64) (y % 64))))
eighteen_more x y =
    let low : Ordering = nat_cmp (x % 64) (y % 64) in
    let mid : Ordering = nat_cmp (x / 64 % 64) (y / 64 % 64) in
    let high : Ordering = nat_cmp (x / 4096 % 64) (y / 4096 % 64) in
    six_more x y
    ∙ ap (λ (o : Ordering). ordering_then o low) (twelve_more (x / 64) (y / 64)
    ∙ ap₂ (λ (a b : ℕ). ordering_then (nat_cmp a b) (ordering_then (nat_cmp (x / 64 / 64 % 64) (y / 64 / 64 % 64)) mid)) (by_262144 x) (by_262144 y)
    ∙ ap₂ (λ (a b : ℕ). ordering_then (nat_cmp (x / 262144) (y / 262144)) (ordering_then (nat_cmp (a % 64) (b % 64)) mid)) (by_4096 x) (by_4096 y))
    ∙ then_assoc (nat_cmp (x / 262144) (y / 262144)) (ordering_then high mid) low
    ∙ ap (ordering_then (nat_cmp (x / 262144) (y / 262144))) (then_assoc high mid low)

-- the first byte decides
both_less : (a b x y : ℕ) (R S : Ordering) → a < b → x < y → ordering_then (nat_cmp a b) R ≡ ordering_then (nat_cmp x y) S
both_less a b x y R S h g = rw (cmp_less a b h, cmp_less x y g) refl

both_more : (a b x y : ℕ) (R S : Ordering) → b < a → y < x → ordering_then (nat_cmp a b) R ≡ ordering_then (nat_cmp x y) S
both_more a b x y R S h g = rw (cmp_more a b h, cmp_more x y g) refl

spelled_order : (x y : ℕ) (s : Size x) (t : Size y) (xs ys : List ℕ) → slice_cmp nat_cmp (spelled x s ++ xs) (spelled y t ++ ys) ≡ ordering_then (nat_cmp x y) (slice_cmp nat_cmp xs ys)
spelled_order x y (one h) (one k) xs ys = refl
spelled_order x y (one h) (two l k) xs ys = both_less x (192 + y / 64) x y _ _ (omega arith) (omega arith)
spelled_order x y (one h) (three l k) xs ys = both_less x (224 + y / 4096) x y _ _ (omega arith) (omega arith)
spelled_order x y (one h) (four l) xs ys = both_less x (240 + y / 262144) x y _ _ (omega arith) (omega arith)
spelled_order x y (two g h) (one k) xs ys = both_more (192 + x / 64) y x y _ _ (omega arith) (omega arith)
spelled_order x y (two g h) (two l k) xs ys =
    rw (raised_alike 192 (x / 64) (y / 64), raised_alike 128 (x % 64) (y % 64), six_more x y)
    (sym (then_assoc (nat_cmp (x / 64) (y / 64)) (nat_cmp (x % 64) (y % 64)) (slice_cmp nat_cmp xs ys)))
spelled_order x y (two g h) (three l k) xs ys = both_less (192 + x / 64) (224 + y / 4096) x y _ _ (omega arith) (omega arith)
spelled_order x y (two g h) (four l) xs ys = both_less (192 + x / 64) (240 + y / 262144) x y _ _ (omega arith) (omega arith)
spelled_order x y (three g h) (one k) xs ys = both_more (224 + x / 4096) y x y _ _ (omega arith) (omega arith)
spelled_order x y (three g h) (two l k) xs ys = both_more (224 + x / 4096) (192 + y / 64) x y _ _ (omega arith) (omega arith)
spelled_order x y (three g h) (three l k) xs ys =
    rw (raised_alike 224 (x / 4096) (y / 4096), raised_alike 128 (x / 64 % 64) (y / 64 % 64), raised_alike 128 (x % 64) (y % 64), twelve_more x y)
    (sym (three_turns (nat_cmp (x / 4096) (y / 4096)) (nat_cmp (x / 64 % 64) (y / 64 % 64)) (nat_cmp (x % 64) (y % 64)) (slice_cmp nat_cmp xs ys)))
spelled_order x y (three g h) (four l) xs ys = both_less (224 + x / 4096) (240 + y / 262144) x y _ _ (omega arith) (omega arith)
spelled_order x y (four g) (one k) xs ys = both_more (240 + x / 262144) y x y _ _ (omega arith) (omega arith)
spelled_order x y (four g) (two l k) xs ys = both_more (240 + x / 262144) (192 + y / 64) x y _ _ (omega arith) (omega arith)
spelled_order x y (four g) (three l k) xs ys = both_more (240 + x / 262144) (224 + y / 4096) x y _ _ (omega arith) (omega arith)
spelled_order x y (four g) (four l) xs ys =
    rw (raised_alike 240 (x / 262144) (y / 262144), raised_alike 128 (x / 4096 % 64) (y / 4096 % 64), raised_alike 128 (x / 64 % 64) (y / 64 % 64), raised_alike 128 (x % 64) (y % 64), eighteen_more x y)
    (sym (four_turns (nat_cmp (x / 262144) (y / 262144)) (nat_cmp (x / 4096 % 64) (y / 4096 % 64)) (nat_cmp (x / 64 % 64) (y / 64 % 64)) (nat_cmp (x % 64) (y % 64)) (slice_cmp nat_cmp xs ys)))

encode_order : (x y : ℕ) (xs ys : List ℕ) → slice_cmp nat_cmp (encode x ++ xs) (encode y ++ ys) ≡ ordering_then (nat_cmp x y) (slice_cmp nat_cmp xs ys)
encode_order x y xs ys = rw (encode_is x (size_of x), encode_is y (size_of y)) (spelled_order x y (size_of x) (size_of y) xs ys)

-- ---- the order of texts

some_byte_left : (y : ℕ) (t : Size y) (ys : List ℕ) → slice_cmp nat_cmp [] (spelled y t ++ ys) ≡ Less
some_byte_left y (one k) ys = refl
some_byte_left y (two l k) ys = refl
some_byte_left y (three l k) ys = refl
some_byte_left y (four l) ys = refl

some_byte_right : (x : ℕ) (s : Size x) (xs : List ℕ) → slice_cmp nat_cmp (spelled x s ++ xs) [] ≡ Greater
some_byte_right x (one k) xs = refl
some_byte_right x (two l k) xs = refl
some_byte_right x (three l k) xs = refl
some_byte_right x (four l) xs = refl

pub text_order : (xs ys : List ℕ) → slice_cmp nat_cmp (encode_utf8_all xs) (encode_utf8_all ys) ≡ slice_cmp nat_cmp xs ys
text_order [] [] = refl
text_order [] (y ∷ ys) = rw (encode_is y (size_of y)) (some_byte_left y (size_of y) (encode_utf8_all ys))
text_order (x ∷ xs) [] = rw (encode_is x (size_of x)) (some_byte_right x (size_of x) (encode_utf8_all xs))
text_order (x ∷ xs) (y ∷ ys) = encode_order x y (encode_utf8_all xs) (encode_utf8_all ys) ∙ ap (ordering_then (nat_cmp x y)) (text_order xs ys)
