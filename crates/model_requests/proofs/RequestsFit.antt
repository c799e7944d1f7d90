-- Every request that is read has its form, and so the answer to any message leaves a sound organisation.
use Rattle.std.proofs.Common.{◌≡◌, ℕ, Bool, true, false, not, ◌&&◌, cond, List, [], ◌∷◌, map, filter, Option, Some, None, Result, Ok, Err, refl, ap, subst, ◌∙◌, bytes_eq, codes}
use Rattle.std.specs.List.{list_all}
use Rattle.std.specs.Option.{option_map}
use Rattle.std.specs.Str.{all_scalars, chars, is_utf8}
use Rattle.std.proofs.lemmas.Str.{IsUtf8-from_is_utf8, scalars-chars}
use Rattle.std.proofs.lemmas.Option.{same_Some as some_is}
use Rattle.base_json.specs.Reading.{◌>>=◌}
use Rattle.base_json.specs.declared.tree.Json.{Json}
use Rattle.soql.specs.declared.query.Query.{Query}
use Rattle.soql.specs.grammar.Spelling.{reads_query}
use Rattle.base_value.specs.Texts.{lower, texts_differ}
use Rattle.model.specs.declared.refusal.Refusal.{Refusal}
use Rattle.model_requests.specs.declared.route.Route.{Route}
use Rattle.model_requests.specs.declared.route.Route.TheVariants as route
use Rattle.model.specs.Cases.{in_case}
use Rattle.model_requests.specs.Forms.{field_request, object_change_request, object_request, share_request, sharing_rule_request, validation_request}
use Rattle.model.specs.declared.record_bodies.Given.TheVariants as gives
use Rattle.model.specs.declared.record_bodies.Assignment.{Assignment}
use Rattle.model.specs.Given.{json_text}
use Rattle.model.specs.Members.{Body, as_text, as_text_or_null, as_truth, assignments, body_in, changing, formed, if_any, member_names, principal_in, text_in, text_or_null_in, truth_in}
use Rattle.model.specs.Organisations.{is_secret}
use Rattle.model.specs.Paths.{Asked}
use Rattle.model_requests.specs.PeopleForms.{as_principals, group_change_request, group_request, organisation_request, retype_request, role_change_request, role_request, user_change_request, user_request}
use Rattle.model_requests.specs.RequestOf.{by_body, query_or, request_of, request_or}
use Rattle.model_reads.specs.Parts.{value_part}
use Rattle.model_requests.specs.Requests.{Request, adds_group, adds_role, asks, cancels_retype, creates, deletes, gets_retype, removes_group, removes_role, removes_sharing_rule, removes_validation_rule, sets_group, sets_organisation, sets_role, unshares, updates, upserts}
use Rattle.model.specs.Sound.{IsSound}
use Rattle.model.specs.Step.{query_text}
use Rattle.model_requests.specs.Fit.{IsFit}
use Rattle.model_invariant.specs.Fit.{is_spelled}
use Rattle.model_invariant.proofs.BodyTexts.{ReadAsSpelled, body_spells, bound}
use Rattle.model_requests.proofs.FormsFit.{field_fits, mapped, object_change_fits, object_fits, retype_fits, rule_fits, share_fits, validation_fits, where_is}
use Rattle.model_invariant.proofs.SoundParts.{parts}
use Rattle.model_invariant.proofs.GivenFits.{ReadLaw, key_fits, spelled_fits}
use Rattle.model_invariant.proofs.RuleTexts.{AreSpelled}

abbrev was_request : Request → Result Request Refusal
was_request x = Ok x

request_is : (x y : Request) → was_request x ≡ was_request y → x ≡ y
request_is x y e = cc

-- the body, and the request that its form makes
of_body : (bytes : List ℕ) (form : Body → Option Request) (x : Request) → by_body bytes form ≡ Ok x → (b : Body) × (body_in bytes ≡ Some b) × (form b ≡ Some x)
of_body bytes form x e = bound (body_in bytes) form x (by (body_in bytes >>= form) refl e)
  where
    by : (o : Option Request) → (body_in bytes >>= form) ≡ o → request_or o ≡ Ok x → (body_in bytes >>= form) ≡ Some x
    by (Some y) w e = w ∙ ap Some (request_is y x e)
    by None w e = absurd cc

-- ---- what is given
given_spelled : (b : Body) → list_all (λ (m : List ℕ × Json). all_scalars (json_text m.1)) b ≡ true
    → list_all (λ (x : Assignment). is_spelled x.given) (map (λ (m : List ℕ × Json). record { field = m.0; given = gives.Json m.1 }) (filter (λ (m : List ℕ × Json). not (bytes_eq m.0 (codes "attributes"))) b)) ≡ true
given_spelled [] h = refl
given_spelled (m ∷ b) h = by (all_scalars (json_text m.1)) (not (bytes_eq m.0 (codes "attributes"))) refl h (given_spelled b)
  where
    by : (s keep : Bool) → all_scalars (json_text m.1) ≡ s → (s && list_all (λ (m : List ℕ × Json). all_scalars (json_text m.1)) b) ≡ true
        → (list_all (λ (m : List ℕ × Json). all_scalars (json_text m.1)) b ≡ true → list_all (λ (x : Assignment). is_spelled x.given) (map (λ (m : List ℕ × Json). record { field = m.0; given = gives.Json m.1 }) (filter (λ (m : List ℕ × Json). not (bytes_eq m.0 (codes "attributes"))) b)) ≡ true)
        → list_all (λ (x : Assignment). is_spelled x.given) (map (λ (m : List ℕ × Json). record { field = m.0; given = gives.Json m.1 }) (cond keep (m ∷ filter (λ (m : List ℕ × Json). not (bytes_eq m.0 (codes "attributes"))) b) (filter (λ (m : List ℕ × Json). not (bytes_eq m.0 (codes "attributes"))) b))) ≡ true
    by true true w h more = rw w (more h)
    by true false w h more = more h
    by false keep w h more = absurd cc

assigned : ReadAsSpelled → (bytes : List ℕ) (b : Body) (given : List Assignment) → body_in bytes ≡ Some b → assignments b ≡ Some given → list_all (λ (x : Assignment). is_spelled x.given) given ≡ true
unfolding assignments
assigned spelled bytes b given w e = by (texts_differ (map lower (member_names b))) e
  where
    by : (c : Bool) → cond c (Some (map (λ (m : List ℕ × Json). record { field = m.0; given = gives.Json m.1 }) (filter (λ (m : List ℕ × Json). not (bytes_eq m.0 (codes "attributes"))) b))) None ≡ Some given
        → list_all (λ (x : Assignment). is_spelled x.given) given ≡ true
    by true e = subst (λ (z : List Assignment). list_all (λ (x : Assignment). is_spelled x.given) z ≡ true) (some_is _ given e) (given_spelled b (body_spells spelled bytes b w))
    by false e = absurd cc

-- the value in the path of an upsert is of characters
decoded_scalars : (bytes : List ℕ) → in_case (cond (is_utf8 bytes) (Some (chars bytes)) None) true all_scalars ≡ true
decoded_scalars bytes = by (is_utf8 bytes) refl
  where
    by : (b : Bool) → is_utf8 bytes ≡ b → in_case (cond b (Some (chars bytes)) None) true all_scalars ≡ true
    by true w = scalars-chars bytes (IsUtf8-from_is_utf8 bytes w)
    by false w = refl

value_scalars : (part : List ℕ) → in_case (value_part part) true all_scalars ≡ true
value_scalars part = decoded_scalars _

-- ---- people: their bodies need no more
user_fits : (a : Asked) (body : Body) (x : Request) → user_request body ≡ Some x → IsFit a x
user_fits a body x e =
    let b = bound (formed (codes "name" ∷ codes "secret" ∷ codes "role" ∷ codes "admin" ∷ []) [] body) _ x e in
    let name = bound (text_in b.0 (codes "name")) _ x b.2 in
    let secret = bound (text_in b.0 (codes "secret")) _ x name.2 in
    let role = bound (text_or_null_in b.0 (codes "role")) _ x secret.2 in
    let admin = bound (truth_in b.0 (codes "admin")) _ x role.2 in
    subst (IsFit a) (where_is (is_secret secret.0) _ x admin.2).1 tt

user_change_fits : (a : Asked) (id : List ℕ) (body : Body) (x : Request) → user_change_request id body ≡ Some x → IsFit a x
user_change_fits a id body x e =
    let b = bound (changing (codes "role" ∷ codes "name" ∷ codes "secret" ∷ codes "admin" ∷ codes "active" ∷ []) body) _ x e in
    let role = bound (if_any as_text_or_null b.0 (codes "role")) _ x b.2 in
    let name = bound (if_any as_text b.0 (codes "name")) _ x role.2 in
    let secret = bound (if_any as_text b.0 (codes "secret")) _ x name.2 in
    let admin = bound (if_any as_truth b.0 (codes "admin")) _ x secret.2 in
    let active = bound (if_any as_truth b.0 (codes "active")) _ x admin.2 in
    subst (IsFit a) (where_is (in_case secret.0 true is_secret) _ x active.2).1 tt

role_fits : (a : Asked) (body : Body) (x : Request) → role_request body ≡ Some x → IsFit a x
role_fits a body x e =
    let b = bound (formed (codes "name" ∷ codes "parent" ∷ []) [] body) _ x e in
    let name = bound (text_in b.0 (codes "name")) _ x b.2 in
    let parent = bound (text_or_null_in b.0 (codes "parent")) _ x name.2 in
    subst (IsFit a) (some_is (adds_role name.0 parent.0) x parent.2) tt

role_change_fits : (a : Asked) (id : List ℕ) (body : Body) (x : Request) → role_change_request id body ≡ Some x → IsFit a x
role_change_fits a id body x e =
    let b = bound (changing (codes "parent" ∷ codes "name" ∷ []) body) _ x e in
    let parent = bound (if_any as_text_or_null b.0 (codes "parent")) _ x b.2 in
    let name = bound (if_any as_text b.0 (codes "name")) _ x parent.2 in
    subst (IsFit a) (some_is (sets_role id (record { parent = parent.0; name = name.0 })) x name.2) tt

group_fits : (a : Asked) (body : Body) (x : Request) → group_request body ≡ Some x → IsFit a x
group_fits a body x e =
    let b = bound (formed (codes "name" ∷ []) [] body) _ x e in
    let name = bound (text_in b.0 (codes "name")) _ x b.2 in
    subst (IsFit a) (some_is (adds_group name.0) x name.2) tt

group_change_fits : (a : Asked) (id : List ℕ) (body : Body) (x : Request) → group_change_request id body ≡ Some x → IsFit a x
group_change_fits a id body x e =
    let b = bound (changing (codes "members" ∷ codes "name" ∷ []) body) _ x e in
    let members = bound (if_any as_principals b.0 (codes "members")) _ x b.2 in
    let name = bound (if_any as_text b.0 (codes "name")) _ x members.2 in
    subst (IsFit a) (some_is (sets_group id (record { members = members.0; name = name.0 })) x name.2) tt

organisation_fits : (a : Asked) (body : Body) (x : Request) → organisation_request body ≡ Some x → IsFit a x
organisation_fits a body x e =
    let b = bound (formed (codes "name" ∷ []) [] body) _ x e in
    let name = bound (text_in b.0 (codes "name")) _ x b.2 in
    subst (IsFit a) (some_is (sets_organisation name.0) x name.2) tt

query_fits : (a : Asked) (q : Result Query ℕ) (x : Request) → query_or q ≡ Ok x → IsFit a x
query_fits a (Ok q) x e = subst (IsFit a) (request_is (asks q) x e) tt
query_fits a (Err place) x e = absurd cc

-- ---- any route
-- a form whose requests all fit
by_form : (a : Asked) (bytes : List ℕ) (form : Body → Option Request) (x : Request) → ((b : Body) (y : Request) → form b ≡ Some y → IsFit a y) → by_body bytes form ≡ Ok x → IsFit a x
by_form a bytes form x fits e = let b = of_body bytes form x e in fits b.0 x b.2

-- the same of a form that also asks that texts are of characters
by_spelled : ReadAsSpelled → (a : Asked) (bytes : List ℕ) (form : Body → Option Request) (x : Request) → ((b : Body) (y : Request) → AreSpelled b → form b ≡ Some y → IsFit a y) → by_body bytes form ≡ Ok x → IsFit a x
by_spelled spelled a bytes form x fits e = let b = of_body bytes form x e in fits b.0 x (body_spells spelled bytes b.0 b.1) b.2

module _ (law : ReadLaw) (spelled : ReadAsSpelled) (a : Asked) (body : List ℕ) (x : Request) (sound : IsSound a.tenant) where
  -- a form of what is given
  by_given : (make : List Assignment → Request) → ((given : List Assignment) → list_all (λ (x : Assignment). is_spelled x.given) given ≡ true → IsFit a (make given))
      → by_body body (λ b. option_map make (assignments b)) ≡ Ok x → IsFit a x
  by_given make fits e =
      let b = of_body body (λ b. option_map make (assignments b)) x e in
      let given = mapped (assignments b.0) make x b.2 in
      subst (IsFit a) given.2 (fits given.0 (assigned spelled body b.0 given.0 b.1 given.1))

  pub request_fits : (r : Route) → request_of r body ≡ Ok x → IsFit a x
  unfolding request_of
  request_fits (route.Query pairs) e = query_fits a (reads_query (query_text pairs)) x e
  request_fits (route.Create object) e = by_given (creates object) (λ given h n o at. spelled_fits law a o given h) e
  request_fits (route.Update object key) e = by_given (updates object key) (λ given h n o at. spelled_fits law a o given h) e
  request_fits (route.Delete object key) e = subst (IsFit a) (request_is (deletes object key) x e) tt
  request_fits (route.Upsert object key value) e =
      by_given (upserts object key (value_part value)) (λ given h. key_fits law a key (value_part value) given (parts sound) h (value_scalars value)) e
  request_fits route.Share e = by_form a body share_request x (share_fits a) e
  request_fits (route.Unshare item part) e = subst (IsFit a) (request_is (unshares item part (principal_in part)) x e) tt
  request_fits route.AddObject e = by_form a body object_request x (object_fits a) e
  request_fits (route.SetObject object) e = by_form a body (object_change_request object) x (object_change_fits a object) e
  request_fits route.AddField e = by_form a body field_request x (field_fits a) e
  request_fits route.AddValidationRule e = by_spelled spelled a body validation_request x (validation_fits a) e
  request_fits (route.RemoveValidationRule object name) e = subst (IsFit a) (request_is (removes_validation_rule object name) x e) tt
  request_fits route.AddSharingRule e = by_spelled spelled a body sharing_rule_request x (rule_fits a) e
  request_fits (route.RemoveSharingRule name) e = subst (IsFit a) (request_is (removes_sharing_rule name) x e) tt
  request_fits route.AddUser e = by_form a body user_request x (user_fits a) e
  request_fits (route.SetUser id) e = by_form a body (user_change_request id) x (user_change_fits a id) e
  request_fits route.AddRole e = by_form a body role_request x (role_fits a) e
  request_fits (route.SetRole id) e = by_form a body (role_change_request id) x (role_change_fits a id) e
  request_fits (route.RemoveRole id) e = subst (IsFit a) (request_is (removes_role id) x e) tt
  request_fits route.AddGroup e = by_form a body group_request x (group_fits a) e
  request_fits (route.SetGroup id) e = by_form a body (group_change_request id) x (group_change_fits a id) e
  request_fits (route.RemoveGroup id) e = subst (IsFit a) (request_is (removes_group id) x e) tt
  request_fits route.SetOrganisation e = by_form a body organisation_request x (organisation_fits a) e
  request_fits route.BeginRetype e = by_form a body retype_request x (retype_fits a) e
  request_fits route.GetRetype e = subst (IsFit a) (request_is gets_retype x e) tt
  request_fits route.CancelRetype e = subst (IsFit a) (request_is cancels_retype x e) tt
