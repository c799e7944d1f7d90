-- The characters of a secret are its bytes.
use Rattle.std.proofs.Common.{◌≡◌, ◌<◌, ℕ, true, zero, suc, lit<, List, [], ◌∷◌, sym, ap, ◌∙◌, arith}
use Rattle.std.specs.Prelude.{encode_utf8_all}
use Rattle.std.specs.List.{list_all}
use Rattle.std.specs.Str.{IsAscii, chars}
use Rattle.std.proofs.lemmas.Bool.Decides.{nat_tests}
use Rattle.std.proofs.lemmas.Str.{IsUtf8-from_ascii, chars-IsAscii, encodes-chars}
use Rattle.base_lemmas.proofs.Bools.{and_first, and_second, same_both_ways}
use Rattle.base_value.specs.Id.{is_digit62}
use Rattle.model.specs.Organisations.{is_secret}

digit_ascii : (c : ℕ) → is_digit62 c ≡ true → c < 128
digit_ascii c h = grind (arith, nat_tests)

digits_ascii : (cs : List ℕ) → list_all is_digit62 cs ≡ true → IsAscii cs
digits_ascii [] h i = lit< tt
digits_ascii (c ∷ cs) h zero = digit_ascii c (and_first (is_digit62 c) (list_all is_digit62 cs) h)
digits_ascii (c ∷ cs) h (suc i) = digits_ascii cs (and_second (is_digit62 c) (list_all is_digit62 cs) h) i

secret_ascii : (cs : List ℕ) → is_secret cs ≡ true → IsAscii cs
unfolding is_secret
secret_ascii cs h = digits_ascii cs (and_first (list_all is_digit62 cs) _ h)

-- a text is a secret by its characters exactly if it is by its bytes
pub same_secret : (text bytes : List ℕ) → bytes ≡ encode_utf8_all text → chars bytes ≡ text → is_secret bytes ≡ is_secret text
same_secret text bytes spelled back =
    same_both_ways (is_secret bytes) (is_secret text)
    (λ h. ap is_secret (sym back ∙ chars-IsAscii bytes (secret_ascii bytes h)) ∙ h)
    (λ h. let ascii = secret_ascii text h in ap is_secret (spelled ∙ (ap encode_utf8_all (sym (chars-IsAscii text ascii)) ∙ encodes-chars text (IsUtf8-from_ascii text ascii))) ∙ h)
