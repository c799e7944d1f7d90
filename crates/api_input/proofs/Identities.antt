-- What tells principals apart, character by character.
use Rattle.std.proofs.Common.{◌≡◌, ◌++◌, ◌<◌, ◌+◌, ℕ, List, length, get_or, ◌∙◌, ap, sym, subst, take, [], ◌∷◌, append_assoc, append-nil, Option, Some, None, Result, Ok, Err}
use Rattle.std.specs.Prelude.{OnOk, if◌then◌else◌, is_ok, unwrap_or}
use Rattle.std.specs.declared.alloc.AllocError.{AllocError}
use Rattle.std.specs.Char.{encode_utf8}
use Rattle.std.specs.Str.{encode_utf8_all}
use Rattle.std.proofs.lemmas.List.{take_more}
use Rattle.std.proofs.lemmas.Str.{encodes-append}

-- a text, and one character more of those that are appended
pub character_more : (base so cs : List ℕ) (i c : ℕ) → so ≡ base ++ encode_utf8_all (take i cs) → c ≡ get_or cs i 0 → i < length cs → so ++ encode_utf8 c ≡ base ++ encode_utf8_all (take (i + 1) cs)
character_more base so cs i c same is within =
    ap (λ (x : List ℕ). x ++ encode_utf8 c) same
    ∙ append_assoc base (encode_utf8_all (take i cs)) (encode_utf8 c)
    ∙ ap (λ (x : List ℕ). base ++ (encode_utf8_all (take i cs) ++ x)) (sym (append-nil (encode_utf8 c)))
    ∙ ap (λ (x : List ℕ). base ++ x) (sym (encodes-append (take i cs) (c ∷ [])))
    ∙ ap (λ (d : ℕ). base ++ encode_utf8_all (take i cs ++ d ∷ [])) is
    ∙ ap (λ (x : List ℕ). base ++ encode_utf8_all x) (sym (take_more cs i 0 within))

-- the id that was found is appended
pub id_appended : (r : Result (Unit {0}) AllocError) (new old cs id text : List ℕ) (found : Option (List ℕ)) → OnOk r (new ≡ old ++ encode_utf8_all cs) → cs ≡ id → ◌≡◌ {A = Option (List ℕ)} (Some id) found
    → OnOk r (new ≡ old ++ encode_utf8_all (unwrap_or found text))
id_appended r new old cs id text found h same is =
    subst (λ (x : List ℕ). OnOk r (new ≡ old ++ encode_utf8_all x)) (same ∙ ap (λ (o : Option (List ℕ)). unwrap_or o text) is) h

-- or the text
pub text_appended : (r : Result (Unit {0}) AllocError) (new old bytes text : List ℕ) (found : Option (List ℕ)) → new ≡ (if is_ok r then old ++ bytes else old) → bytes ≡ encode_utf8_all text
    → ◌≡◌ {A = Option (List ℕ)} None found → OnOk r (new ≡ old ++ encode_utf8_all (unwrap_or found text))
text_appended (Ok x) new old bytes text found h same is =
    h ∙ ap (λ (x : List ℕ). old ++ x) same ∙ ap (λ (o : Option (List ℕ)). old ++ encode_utf8_all (unwrap_or o text)) is
text_appended (Err e) new old bytes text found h same is = tt

-- the mark of the kind, and what is behind it
pub identity_spelled : (none marked whole rest : List ℕ) (mark kind : ℕ) → none ≡ [] → marked ≡ none ++ encode_utf8 mark → mark ≡ kind → whole ≡ marked ++ encode_utf8_all rest → whole ≡ encode_utf8_all (kind ∷ rest)
identity_spelled none marked whole rest mark kind e more is last =
    last ∙ ap (λ (x : List ℕ). x ++ encode_utf8_all rest) (more ∙ ap (λ (x : List ℕ). x ++ encode_utf8 mark) e ∙ ap encode_utf8 is)
