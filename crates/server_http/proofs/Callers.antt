-- The characters behind the word `Bearer`.
use Rattle.std.proofs.Common.{◌≡◌, ℕ, ◌<◌, Bool, true, false, ◌&&◌, cond, nat_lt, List, length, take, drop, Option, Some, None, codes, refl, sym, ap, ◌∙◌, inl, inr, IsUtf8, lt-ltb as is_lt}
use Rattle.std.specs.Str.{chars, str_eq_ignore_ascii_case, is_utf8}
use Rattle.std.proofs.lemmas.Bool.{cases_Bool}
use Rattle.std.proofs.lemmas.Str.{is_utf8-from_IsUtf8, IsUtf8-from_is_utf8}
use Rattle.server_http.specs.Framing.{credentials}

by_tests : (a b c : Bool) (x : Option (List ℕ)) → a ≡ true → b ≡ true → c ≡ true → cond (a && b && c) x None ≡ x
by_tests true true true x p q r = refl
by_tests true true false x p q r = cc
by_tests true false c x p q r = cc
by_tests false b c x p q r = cc

by_last : (a b c : Bool) (x : Option (List ℕ)) → c ≡ false → cond (a && b && c) x None ≡ None
by_last a b true x r = cc
by_last true true false x r = refl
by_last true false false x r = refl
by_last false b false x r = refl

pub text_credentials : (value rest text : List ℕ) → 6 < length value → str_eq_ignore_ascii_case (take 7 value) (codes "bearer ") ≡ true
    → rest ≡ drop 7 value → text ≡ rest → IsUtf8 rest → credentials value ≡ Some (chars text)
text_credentials value rest text long word behind same utf8 =
    by_tests (nat_lt 6 (length value)) (str_eq_ignore_ascii_case (take 7 value) (codes "bearer ")) (is_utf8 (drop 7 value)) (Some (chars (drop 7 value)))
    (is_lt 6 (length value) long) word (ap is_utf8 (sym behind) ∙ is_utf8-from_IsUtf8 rest utf8)
    ∙ ap (λ t. Some (chars t)) (sym (same ∙ behind))

pub no_text_credentials : (value rest : List ℕ) → rest ≡ drop 7 value → (IsUtf8 rest → ⊥) → credentials value ≡ None
no_text_credentials value rest behind none =
    by_last (nat_lt 6 (length value)) (str_eq_ignore_ascii_case (take 7 value) (codes "bearer ")) (is_utf8 (drop 7 value)) (Some (chars (drop 7 value)))
    (ap is_utf8 (sym behind) ∙ elim (cases_Bool (is_utf8 rest)) [
      | inl good ↦ absurd (none (IsUtf8-from_is_utf8 rest good))
      | inr bad ↦ bad
    ])
