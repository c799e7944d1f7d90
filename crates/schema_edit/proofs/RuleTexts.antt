-- The names of rules in lower case.
use Rattle.std.proofs.Common.{◌≡◌, ◌∙◌, ℕ, ◌+◌, ◌<◌, List, [], ◌∷◌, ◌++◌, length, take, get_or, refl, sym, ap, append-nil, add-one, take-suc}
use Rattle.std.specs.Prelude.{encode_utf8_all}
use Rattle.std.specs.Char.{encode_utf8, to_ascii_lowercase}
use Rattle.std.proofs.lemmas.List.{map-append}
use Rattle.std.proofs.lemmas.Str.{encodes-append}
use Rattle.base_value.specs.Texts.{lower}

-- one character more
pub lower_more : (bytes cs : List ℕ) (n c : ℕ) → bytes ≡ encode_utf8_all (lower (take n cs)) → n < length cs → get_or cs n c ≡ c
    → bytes ++ encode_utf8 (to_ascii_lowercase c) ≡ encode_utf8_all (lower (take (n + 1) cs))
lower_more bytes cs n c same lt e =
    let last : encode_utf8_all (to_ascii_lowercase c ∷ []) ≡ encode_utf8 (to_ascii_lowercase c) = append-nil (encode_utf8 (to_ascii_lowercase c)) in
    let more : take (n + 1) cs ≡ take n cs ++ c ∷ [] = rw (add-one, take-suc cs n c lt, e) refl in
    ap (λ (x : List ℕ). x ++ encode_utf8 (to_ascii_lowercase c)) same
    ∙ ap (λ (x : List ℕ). encode_utf8_all (lower (take n cs)) ++ x) (sym last)
    ∙ sym (encodes-append (lower (take n cs)) (to_ascii_lowercase c ∷ []))
    ∙ ap encode_utf8_all (sym (map-append to_ascii_lowercase (take n cs) (c ∷ [])))
    ∙ ap (λ (x : List ℕ). encode_utf8_all (lower x)) (sym more)
