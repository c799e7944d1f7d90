-- Texts and their bytes.
use Rattle.std.proofs.Common.{◌≡◌, ◌∙◌, ℕ, ◌-◌, List, ◌++◌, length, take, sym, ap}
use Rattle.std.specs.Prelude.{codes, encode_utf8_all}
use Rattle.std.specs.Str.{IsUtf8, chars}
use Rattle.std.proofs.lemmas.Str.{chars-append, chars_from_encodes}
use Rattle.model.specs.Relationships.{parent_name}

-- the last three characters of a field's name are replaced
pub parent_is : (field kept name ending : List ℕ) → kept ≡ take (length field - 3) field → IsUtf8 name → name ≡ encode_utf8_all kept → ending ≡ codes "__r"
    → chars (name ++ ending) ≡ parent_name field
unfolding parent_name chars
parent_is field kept name ending cut u spelled e =
    ap (λ (x : List ℕ). chars (name ++ x)) e
    ∙ chars-append name (codes "__r") u
    ∙ ap (λ (x : List ℕ). x ++ codes "__r") (sym (chars_from_encodes kept name u (sym spelled)) ∙ cut)
