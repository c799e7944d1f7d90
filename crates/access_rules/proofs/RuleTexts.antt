-- The names of rules in lower case, and texts and their bytes.
use Rattle.std.proofs.Common.{◌≡◌, ◌∙◌, ℕ, ◌+◌, ◌<◌, List, [], ◌∷◌, ◌++◌, length, take, get_or, refl, sym, ap, subst, append-nil, add-one, take-suc}
use Rattle.std.specs.Prelude.{Err, IfOk, Ok, OnOk, Result, encode_utf8_all}
use Rattle.std.specs.Char.{encode_utf8, to_ascii_lowercase}
use Rattle.std.proofs.lemmas.List.{map-append}
use Rattle.std.proofs.lemmas.Str.{encodes-append}
use Rattle.base_value.specs.Texts.{lower}
use Rattle.base_value.specs.Bytes.{IsBytes}
use Rattle.base_value.specs.declared.bytes.Bytes.{Bytes}

-- one character more
pub lower_more : (bytes cs : List ℕ) (n c : ℕ) → bytes ≡ encode_utf8_all (lower (take n cs)) → n < length cs → get_or cs n c ≡ c
    → bytes ++ encode_utf8 (to_ascii_lowercase c) ≡ encode_utf8_all (lower (take (n + 1) cs))
lower_more bytes cs n c same lt e =
    let last : encode_utf8_all (to_ascii_lowercase c ∷ []) ≡ encode_utf8 (to_ascii_lowercase c) = append-nil (encode_utf8 (to_ascii_lowercase c)) in
    let more : take (n + 1) cs ≡ take n cs ++ c ∷ [] = rw (add-one, take-suc cs n c lt, e) refl in
    ap (λ (x : List ℕ). x ++ encode_utf8 (to_ascii_lowercase c)) same
    ∙ ap (λ (x : List ℕ). encode_utf8_all (lower (take n cs)) ++ x) (sym last)
    ∙ sym (encodes-append (lower (take n cs)) (to_ascii_lowercase c ∷ []))
    ∙ ap encode_utf8_all (sym (map-append to_ascii_lowercase (take n cs) (c ∷ [])))
    ∙ ap (λ (x : List ℕ). encode_utf8_all (lower x)) (sym more)

pub if_bytes : {E : Type 0} (r : Result Bytes E) (bytes : List ℕ) → IfOk r (λ b. b ≡ bytes) → IsBytes bytes → IfOk r IsBytes
if_bytes (Ok b) bytes e h = subst IsBytes (sym e) h
if_bytes (Err x) bytes e h = tt

-- what holds holds where it is done
pub on_ok : {X E : Type 0} (r : Result X E) (P : Type 0) → P → OnOk r P
on_ok (Ok x) P h = h
on_ok (Err e) P h = tt
