-- Texts: bytes, characters, and `bytes_eq`.
use Rattle.base_lemmas.proofs.Bools.{by_answer}
use Rattle.std.proofs.Common.{◌≡◌, ◌∙◌, ℕ, false, List, refl, sym, bytes_eq, ap, true, [], ◌∷◌, ◌++◌, ◌<◌, inl, inr, arith}
use Rattle.std.proofs.lemmas.Slice.Eq.{bytes_eq-Decides}
use Rattle.std.specs.Prelude.{encode_utf8_all}
use Rattle.std.specs.Str.{IsUtf8, chars, IsAscii, all_scalars}
use Rattle.std.proofs.lemmas.Bool.Decides.{same_from_decides}
use Rattle.std.proofs.lemmas.Str.{encodes-chars, chars-encodes, chars-append, IsUtf8-encode, IsUtf8-from_ascii, chars-IsAscii, scalars-chars}
use Rattle.std.proofs.Math.Utf8.{scalar, scalars, encode, scalar_cases}
use Rattle.std.proofs.lemmas.List.{append-nil}

pub bytes_eq_false_sym : (a b : List ℕ) → bytes_eq a b ≡ false → bytes_eq b a ≡ false
bytes_eq_false_sym a b e = by_answer (bytes_eq b a) (λ x. bytes_eq b a ≡ x → x ≡ false) (λ _ h. sym ((bytes_eq-Decides a b).1 (sym ((bytes_eq-Decides b a).0 h))) ∙ e) (λ _ h. refl) refl

pub bytes_eq-chars : (m a name : List ℕ) → a ≡ encode_utf8_all m → chars a ≡ m → IsUtf8 name → bytes_eq a name ≡ bytes_eq (chars name) m
bytes_eq-chars m a name e back u =
    let bytes = bytes_eq-Decides a name in
    let texts = bytes_eq-Decides (chars name) m in
    same_from_decides (bytes_eq a name) (bytes_eq (chars name) m)
    (λ h. bytes.0 h, λ h. bytes.1 h)
    (λ h. e ∙ ap encode_utf8_all (sym (texts.0 h)) ∙ encodes-chars name u, λ h. texts.1 (ap chars (sym h) ∙ back))

pub chars-encode : (c : ℕ) (bs : List ℕ) → scalar c ≡ true → chars (encode c ++ bs) ≡ c ∷ chars bs
chars-encode c bs s =
    let one : scalars (c ∷ []) ≡ true = rw s refl in
    let e : chars (encode c) ≡ c ∷ [] = ap chars (sym (append-nil (encode c))) ∙ chars-encodes (c ∷ []) one in
    chars-append (encode c) bs (IsUtf8-encode c s) ∙ ap (λ l. l ++ chars bs) e

pub scalar_below : (c : ℕ) → scalar c ≡ true → c < 1114112
scalar_below c s = elim (scalar_cases c s) [ inl h ↦ omega arith | inr h ↦ omega (arith, h.1) ]

pub scalars-ascii : (cs : List ℕ) → IsAscii cs → all_scalars cs ≡ true
scalars-ascii cs a = ap all_scalars (sym (chars-IsAscii cs a)) ∙ scalars-chars cs (IsUtf8-from_ascii cs a)

pub bytes_eq-self : (a : List ℕ) → bytes_eq a a ≡ true
bytes_eq-self a = (bytes_eq-Decides a a).1 refl

pub same_from_bytes_eq : (a b : List ℕ) → bytes_eq a b ≡ true → a ≡ b
same_from_bytes_eq a b = (bytes_eq-Decides a b).0
