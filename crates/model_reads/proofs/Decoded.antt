-- The value in a path, by the bytes that its percent triplets stand for.
use Rattle.std.proofs.Common.{◌≡◌, ◌∙◌, ◌⊎◌, ℕ, Bool, true, false, List, [], ◌++◌, Option, Some, None, ap, inl, inr, sym, IsUtf8}
use Rattle.std.specs.Prelude.{encode_utf8_all, if◌then◌else◌}
use Rattle.std.specs.Str.{chars, is_utf8}
use Rattle.std.proofs.lemmas.Bool.{cases_Bool}
use Rattle.std.proofs.lemmas.Str.{IsUtf8-from_is_utf8, is_utf8-from_IsUtf8}
use Rattle.percent_encoding.specs.Percent.{percent_decode}
use Rattle.model_reads.specs.Parts.{value_part}

-- these bytes as a text, if they are UTF-8
abbrev by_test : Bool → List ℕ → Option (List ℕ)
by_test utf8 bytes = if utf8 then Some (chars bytes) else None

pub text_part : (part bytes text : List ℕ) → bytes ≡ percent_decode (encode_utf8_all part) → text ≡ bytes → IsUtf8 bytes → Some (chars text) ≡ value_part part
text_part part bytes text is same utf8 =
    ap (λ (t : List ℕ). Some (chars t)) same ∙ ap (λ (b : Bool). by_test b bytes) (sym (is_utf8-from_IsUtf8 bytes utf8)) ∙ ap (λ (b : List ℕ). by_test (is_utf8 b) b) is

no_part : (part bytes : List ℕ) → bytes ≡ percent_decode (encode_utf8_all part) → is_utf8 bytes ≡ false → None ≡ value_part part
no_part part bytes is bad = ap (λ (b : Bool). by_test b bytes) (sym bad) ∙ ap (λ (b : List ℕ). by_test (is_utf8 b) b) is

pub no_text_part : (part bytes : List ℕ) → bytes ≡ percent_decode (encode_utf8_all part) → (IsUtf8 bytes → ⊥) → None ≡ value_part part
no_text_part part bytes is none = by (cases_Bool (is_utf8 bytes))
  where
    by : (is_utf8 bytes ≡ true) ⊎ (is_utf8 bytes ≡ false) → None ≡ value_part part
    by (inl good) = absurd (none (IsUtf8-from_is_utf8 bytes good))
    by (inr bad) = no_part part bytes is bad

-- the bytes behind none
pub decoded : (w0 w1 bytes part text input given : List ℕ) → bytes ≡ w1 → w1 ≡ w0 ++ given → w0 ≡ [] → given ≡ percent_decode input → input ≡ text → text ≡ encode_utf8_all part
    → bytes ≡ percent_decode (encode_utf8_all part)
decoded w0 w1 bytes part text input given e1 e2 e3 e4 e5 e6 = e1 ∙ e2 ∙ ap (λ (w : List ℕ). w ++ given) e3 ∙ e4 ∙ ap percent_decode (e5 ∙ e6)
