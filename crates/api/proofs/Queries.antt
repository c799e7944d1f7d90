-- The first pair `q` among the pairs that are left.
use Rattle.std.proofs.Common.{◌≡◌, ℕ, true, List, [], ◌∷◌, refl, ap, sym, ◌∙◌, map}
use Rattle.std.specs.List.{find}
use Rattle.std.specs.Prelude.{bytes_eq, codes}
use Rattle.std.specs.Str.Lossy.{utf8_lossy}
use Rattle.form_urlencoded.specs.Form.{decode, DecodesTo}
use Rattle.model.specs.Step.{is_q, pair_text}

-- the pairs, decoded
abbrev pub decoded : List (List ℕ × List ℕ) → List (List ℕ × List ℕ)
decoded pairs = map (λ (name, value). (decode name, decode value)) pairs

-- a pair `q` is the first
pub find-found : (name value key text : List ℕ) (left rest : List (List ℕ × List ℕ)) → left ≡ (name, value) ∷ rest
    → DecodesTo name key → DecodesTo value text → bytes_eq key (codes "q") ≡ true
    → pair_text (find is_q (decoded left)) ≡ text
find-found name value key text left rest is named valued same =
    let test : bytes_eq (utf8_lossy (decode name)) (codes "q") ≡ true =
    ap (λ k. bytes_eq k (codes "q")) (sym named.2) ∙ same in
    rw (is, test) (sym valued.2)

-- without pairs there is no text
pub find-none : (left : List (List ℕ × List ℕ)) → left ≡ [] → pair_text (find is_q (decoded left)) ≡ []
find-none left is = rw is refl
