-- Texts and the characters that they spell.
use Rattle.std.proofs.Common.{◌≡◌, ℕ, ◌==◌, arith, eqb-true, Bool, true, false, List, [], ◌∷◌, length, refl, sym, ap, ◌∙◌, true≢false}
use Rattle.std.specs.Prelude.{bytes_eq}
use Rattle.std.specs.Str.{IsUtf8, chars, encode_utf8_all}
use Rattle.std.proofs.lemmas.Slice.Eq.{bytes_eq-Decides}
use Rattle.std.proofs.lemmas.Str.{encodes-chars}

-- texts with the same characters are the same bytes
pub one_text : (a b : List ℕ) → IsUtf8 a → IsUtf8 b → chars a ≡ chars b → a ≡ b
one_text a b ua ub h = sym (encodes-chars a ua) ∙ ap encode_utf8_all h ∙ encodes-chars b ub

-- equality of texts is equality of their characters
pub same_text : (a b : List ℕ) → IsUtf8 a → IsUtf8 b → bytes_eq b a ≡ bytes_eq (chars a) (chars b)
same_text a b ua ub = go (bytes_eq b a) (bytes_eq (chars a) (chars b)) refl refl
  where
    go : (x y : Bool) → bytes_eq b a ≡ x → bytes_eq (chars a) (chars b) ≡ y → x ≡ y
    go true true p q = refl
    go false false p q = refl
    go true false p q = absurd (true≢false (sym ((bytes_eq-Decides (chars a) (chars b)).1 (ap chars (sym ((bytes_eq-Decides b a).0 p)))) ∙ q))
    go false true p q = absurd (true≢false (sym ((bytes_eq-Decides b a).1 (sym (one_text a b ua ub ((bytes_eq-Decides (chars a) (chars b)).0 q)))) ∙ p))

pub no_bytes : (bs : List ℕ) → (length bs == 0) ≡ true → bs ≡ []
no_bytes [] h = refl
no_bytes (b ∷ bs) h = absurd (omega (arith, eqb-true (length (b ∷ bs)) 0 h))

-- a text that isn't empty has a character
pub some_character : (bs : List ℕ) → IsUtf8 bs → (length bs == 0) ≡ false → (c : ℕ) × (cs : List ℕ) × (chars bs ≡ c ∷ cs)
some_character bs u some = go (chars bs) refl
  where
    go : (cs : List ℕ) → chars bs ≡ cs → (c : ℕ) × (rest : List ℕ) × (chars bs ≡ c ∷ rest)
    go [] h =
        let none : [] ≡ bs = sym (ap encode_utf8_all h) ∙ encodes-chars bs u in
        absurd (true≢false (ap (λ (xs : List ℕ). length xs == 0) none ∙ some))
    go (c ∷ cs) h = (c, cs, h)
