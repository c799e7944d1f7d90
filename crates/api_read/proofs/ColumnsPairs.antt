-- The first pair `fields` among the pairs that are left.
use Rattle.std.proofs.Common.{◌≡◌, ℕ, true, List, [], ◌∷◌, Option, Some, None, refl, ap, sym, ◌∙◌, map}
use Rattle.std.specs.List.{find}
use Rattle.std.specs.Option.{option_map}
use Rattle.std.specs.Prelude.{bytes_eq, codes}
use Rattle.std.specs.Str.{chars}
use Rattle.std.specs.Str.Lossy.{utf8_lossy}
use Rattle.form_urlencoded.specs.Form.{decode, DecodesTo}
use Rattle.model_reads.specs.RecordJson.{is_fields}

-- the pairs, decoded
abbrev pub decoded : List (List ℕ × List ℕ) → List (List ℕ × List ℕ)
decoded pairs = map (λ (name, value). (decode name, decode value)) pairs

-- the characters of what a pair has
abbrev pub pair_text : Option (List ℕ × List ℕ) → Option (List ℕ)
pair_text found = option_map (λ (pair : List ℕ × List ℕ). chars (utf8_lossy pair.1)) found

-- a pair `fields` is the first
pub find-found : (name value key text : List ℕ) (left rest : List (List ℕ × List ℕ)) → left ≡ (name, value) ∷ rest
    → DecodesTo name key → DecodesTo value text → bytes_eq key (codes "fields") ≡ true
    → pair_text (find is_fields (decoded left)) ≡ Some (chars text)
find-found name value key text left rest is named valued same =
    let test : bytes_eq (utf8_lossy (decode name)) (codes "fields") ≡ true =
    ap (λ k. bytes_eq k (codes "fields")) (sym named.2) ∙ same in
    rw (is, test) (ap (λ (x : List ℕ). Some (chars x)) (sym valued.2))

-- without pairs there is no text
pub find-none : (left : List (List ℕ × List ℕ)) → left ≡ [] → pair_text (find is_fields (decoded left)) ≡ None
find-none left is = rw is refl
