-- What is read of bytes is the value that the definition of bodies finds there.
use Rattle.std.proofs.Common.{◌≡◌, ℕ, Bool, true, false, List, Option, Some, None, refl, sym, ap, subst, ◌∙◌}
use Rattle.std.specs.Prelude.{Result, if◌then◌else◌}
use Rattle.std.specs.Option.{ok_or, option_map}
use Rattle.std.specs.Str.{chars, is_utf8}
use Rattle.base_json.specs.Reading.{◌>>=◌, text, value_in}
use Rattle.base_json.specs.declared.tree.Json.{Json}
use Rattle.base_json.specs.declared.tree.Member.{Member}
use Rattle.model.specs.Members.{body_in, object_in}
use Rattle.api_input.specs.declared.fail.BodyFail.{BodyFail}
use Rattle.api_input.specs.declared.fail.BodyFail.TheVariants.{Form, Memory}
use Rattle.api_input.specs.inner.Outcomes.{Gives, Misses}
use Rattle.api_input.specs.inner.Spelled.{body_of}

-- the members of the value
pub body_in-value : (bytes : List ℕ) → body_in bytes ≡ value_in bytes >>= object_in
unfolding body_in
body_in-value bytes = by_text (is_utf8 bytes)
  where
    by_text : (b : Bool) → (if b then text (chars bytes) >>= object_in else None) ≡ (if b then text (chars bytes) else None) >>= object_in
    by_text true = refl
    by_text false = refl

-- the members of a value that was read
pub members_read : (bytes : List ℕ) (v : Json) (o : Option (List Member)) (r : Result (List Member) BodyFail) → value_in bytes ≡ Some v
    → option_map body_of o ≡ object_in v → r ≡ ok_or o Form → Gives body_of r (body_in bytes)
members_read bytes v o r e members is =
    let found : body_in bytes ≡ option_map body_of o = body_in-value bytes ∙ ap (λ w. w >>= object_in) e ∙ sym members in
    subst (λ (x : Result (List Member) BodyFail). Gives body_of x (body_in bytes)) (sym is) (by_option o found)
  where
    by_option : (p : Option (List Member)) → body_in bytes ≡ option_map body_of p → Gives body_of (ok_or p Form) (body_in bytes)
    by_option (Some ms) h = h
    by_option None h = h

-- where no value was read there are no members
pub members_missed : (bytes : List ℕ) (e : BodyFail) → Misses e (value_in bytes) → Misses e (body_in bytes)
members_missed bytes Form h = body_in-value bytes ∙ ap (λ w. w >>= object_in) h
members_missed bytes Memory h = tt
