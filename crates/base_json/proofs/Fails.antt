-- Failures that are passed on, and texts that grow by a character.
use Rattle.std.proofs.Common.{◌≡◌, ℕ, List, [], ◌∷◌, ◌++◌, length, Option, None, sym, ◌∙◌, ap, append-nil, arith}
use Rattle.std.specs.Str.{chars, IsUtf8}
use Rattle.std.specs.Char.{encode_utf8}
use Rattle.std.proofs.lemmas.Str.{chars-nil, encodes-append, encodes-chars, chars_from_encodes}
use Rattle.base_json.specs.Outcomes.{Misses}
use Rattle.base_json.specs.declared.JsonFail.{JsonFail}
use Rattle.base_json.specs.declared.JsonFail.TheVariants.{NotJson, Memory}

-- where nothing is read because a part isn't read
pub fails : (e : JsonFail) {Y W : Type 0} (part : Option Y) (whole : Option W) → (part ≡ None → whole ≡ None) → Misses e part → Misses e whole
fails NotJson part whole f h = f h
fails Memory part whole f h = tt

-- a text without bytes has no characters
pub no_chars : (bs rest : List ℕ) → bs ≡ rest → length rest ≡ 0 → chars bs ≡ []
no_chars [] rest e h = chars-nil
no_chars (b ∷ bs) rest e h = absurd (omega (arith, ap length e, h))

pub chars_pushed : (bs new : List ℕ) (c : ℕ) → IsUtf8 bs → IsUtf8 new → new ≡ bs ++ encode_utf8 c → chars new ≡ chars bs ++ c ∷ []
chars_pushed bs new c u v e =
    sym (chars_from_encodes (chars bs ++ c ∷ []) new v
    (encodes-append (chars bs) (c ∷ []) ∙ rw (encodes-chars bs u, append-nil (encode_utf8 c)) (sym e)))
