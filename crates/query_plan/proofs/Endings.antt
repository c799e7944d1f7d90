-- The name of a parent relationship: the name of a field with another ending.
use Rattle.std.proofs.Common.{◌≡◌, ◌-◌, ◌++◌, ℕ, List, length, take, refl}
use Rattle.std.specs.Prelude.{bytes_eq, codes}
use Rattle.std.specs.Char.{encode_utf8}
use Rattle.std.specs.Str.{IsUtf8, chars}
use Rattle.base_value.specs.Texts.{lower}
use Rattle.model.specs.Fields.{same_name}
use Rattle.model.specs.Relationships.{parent_name}

pub ending_text : IsUtf8 (codes "__r")
unfolding encode_utf8
ending_text = (codes "__r", (refl, refl))

pub ended : (field name : List ℕ) → bytes_eq (lower (take (length field - 3) field ++ chars (codes "__r"))) (lower name) ≡ same_name (parent_name field) name
unfolding parent_name chars
ended field name = refl
