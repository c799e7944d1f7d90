-- That the values which a body gives to fields are in JSON, and a moment as a count of seconds.
use Rattle.std.proofs.Common.{◌≡◌, ◌<◌, ◌^◌, ℕ, Bool, true, false, cond, IsTrue, List, [], ◌∷◌, map, filter, not, refl, ap, subst, ◌∙◌, pos, Option, Some, None, Result, Ok, Err}
use Rattle.std.specs.Option.{option_map}
use Rattle.std.specs.Prelude.{IfOk, bytes_eq, codes}
use Rattle.std.specs.declared.alloc.AllocError.{AllocError}
use Rattle.base_lemmas.proofs.Numbers.{seconds_below as few_seconds}
use Rattle.api_edit.specs.inner.Edits.{form_of}
use Rattle.api_input.specs.Bodies.{request_in, values_request}
use Rattle.record_input.specs.Given.{IsInJson}
use Rattle.base_json.specs.Reading.{◌>>=◌}
use Rattle.model.specs.declared.record_bodies.Assignment.{Assignment}
use Rattle.model.specs.declared.record_bodies.Given.TheVariants as gives
use Rattle.model.specs.Members.{Body, assignments, body_in, member_names}
use Rattle.model_requests.specs.Requests.{Request, creates}
use Rattle.base_value.specs.Dates.{is_moment}
use Rattle.base_value.specs.Texts.{lower, texts_differ}

-- ---- in JSON

all_json : (b : Body) → IsInJson (map (λ m. record { field = m.0; given = gives.Json m.1 }) b)
all_json [] = refl
all_json (m ∷ b) = all_json b

kept_json : (same : Bool) (b : Body) (given : List Assignment) → cond same (Some (map (λ m. record { field = m.0; given = gives.Json m.1 }) b)) None ≡ Some given → IsInJson given
kept_json true b given e = subst IsInJson (some_is _ given e) (all_json b)
  where
    some_is : (x y : List Assignment) → ◌≡◌ {A = Option (List Assignment)} (Some x) (Some y) → x ≡ y
    some_is x y e = cc
kept_json false b given e = absurd cc

assigned_json : (b : Body) (given : List Assignment) → assignments b ≡ Some given → IsInJson given
unfolding assignments
assigned_json b given e = kept_json (texts_differ (map lower (member_names b))) (filter (λ m. not (bytes_eq m.0 (codes "attributes"))) b) given e

made_json : (o : Option (List Assignment)) (b : Body) (given : List Assignment) → assignments b ≡ o → Some (creates [] given) ≡ option_map (creates []) o → IsInJson given
made_json None b given is e = absurd cc
made_json (Some x) b given is e = assigned_json b given (is ∙ ap (λ y. Some y) (same x given e))
  where
    same : (x y : List Assignment) → ◌≡◌ {A = Option Request} (Some (creates [] y)) (Some (creates [] x)) → x ≡ y
    same x y e = cc

body_json : (o : Option Body) (given : List Assignment) → Some (creates [] given) ≡ (o >>= values_request (creates [])) → IsInJson given
body_json None given e = absurd cc
body_json (Some b) given e = made_json (assignments b) b given refl e

-- what is read of a body
pub given_json : (body : List ℕ) (read : Result (Option (List Assignment)) AllocError)
    → IfOk read (λ values. (make : List Assignment → Request) → option_map make values ≡ request_in (values_request make) body)
    → IfOk (form_of read) IsInJson
given_json body (Ok (Some given)) e = body_json (body_in body) given (e (creates []))
given_json body (Ok None) e = tt
given_json body (Err x) e = tt

-- ---- moments

pub moment_small : (n : ℕ) → IsTrue (is_moment (pos n)) → n < 2 ^ 63
moment_small n h = few_seconds n h
