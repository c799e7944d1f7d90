-- Reading of bytes.
use Rattle.std.proofs.Common.{◌≡◌, ℕ, Bool, true, false, List, Option, Some, None, Result, Ok, Err, ◌⊎◌, refl, sym, ◌∙◌, ap, inl, inr}
use Rattle.std.specs.Prelude.{IfOk}
use Rattle.std.specs.Str.{chars, IsUtf8, is_utf8}
use Rattle.std.proofs.lemmas.Str.{IsUtf8-from_is_utf8, is_utf8-from_IsUtf8, encodes-chars, scalars-chars, chars_from_encodes}
use Rattle.base_json.specs.Grammar.{Spells}
use Rattle.base_json.specs.Reading.{text, value_in}
use Rattle.base_json.specs.Outcomes.{Gives}
use Rattle.base_json.specs.declared.JsonFail.{JsonFail}
use Rattle.base_json.specs.declared.JsonFail.TheVariants.{NotJson, Memory}
use Rattle.base_json.specs.declared.tree.Json.{Json}
use Rattle.base_json.proofs.Values.{text_told, text_whole}

-- bytes that are UTF-8 spell what their characters spell
pub value_of : (bytes : List ℕ) → IsUtf8 bytes → value_in bytes ≡ text (chars bytes)
value_of bytes u = rw (is_utf8-from_IsUtf8 bytes u) refl

-- others spell nothing
pub no_value : (bytes : List ℕ) → (IsUtf8 bytes → ⊥) → value_in bytes ≡ None
no_value bytes not_text = by_test (is_utf8 bytes) refl
  where
    by_test : (b : Bool) → is_utf8 bytes ≡ b → value_in bytes ≡ None
    by_test true e = absurd (not_text (IsUtf8-from_is_utf8 bytes e))
    by_test false e = rw e refl

pub spelled_by : (bytes : List ℕ) (v : Json) → IsUtf8 bytes → text (chars bytes) ≡ Some v → Spells bytes v
spelled_by bytes v u h = (chars bytes, sym (encodes-chars bytes u), scalars-chars bytes u, text_told (chars bytes) v h)

pub read_by : (bytes : List ℕ) (v : Json) → Spells bytes v → IsUtf8 bytes × (text (chars bytes) ≡ Some v)
read_by bytes v h =
    let u : IsUtf8 bytes = (h.0, (h.2, sym h.1)) in
    (u, ap text (sym (chars_from_encodes h.0 bytes u (sym h.1))) ∙ text_whole h.0 v h.3)

pub spelled_of : (r : Result Json JsonFail) (bytes : List ℕ) → IsUtf8 bytes → Gives (λ x. x) r (text (chars bytes)) → IfOk r (λ v. Spells bytes v)
spelled_of (Ok v) bytes u g = spelled_by bytes v u g
spelled_of (Err e) bytes u g = tt

-- a result that gives what is read is that value, or memory ran out
pub only_by : (r : Result Json JsonFail) (o : Option Json) (v : Json) → Gives (λ x. x) r o → o ≡ Some v → (r ≡ Ok v) ⊎ (r ≡ Err Memory)
only_by (Ok x) o v g e = let same : x ≡ v = some_is x v (sym g ∙ e) in inl (ap Ok same)
  where
    some_is : (a b : Json) → Some a ≡ Some b → a ≡ b
    some_is a b h = cc
only_by (Err NotJson) o v g e = let none : None ≡ Some v = sym g ∙ e in absurd (cc)
only_by (Err Memory) o v g e = inr refl
