-- A fresh organisation that is asked one request after another, for rows worked by hand. A reader of the rules may pass it over.
use Rattle.std.specs.Prelude.{ℕ, Bool, true, false, List, [], ◌∷◌, ◌++◌, codes, Option, Some, None}
use Rattle.std.specs.Fmt.{decimal}
use Rattle.std.specs.Option.{option_map}
use Rattle.base_json.specs.declared.tree.Json.TheVariants as json
use Rattle.base_value.specs.Id.{made}
use Rattle.base_value.specs.declared.sharing.Access.{Access}
use Rattle.base_value.specs.declared.sharing.Access.TheVariants as access
use Rattle.model.specs.declared.refusal.Refusal.TheVariants.{InvalidSession}
use Rattle.model.specs.declared.reply.Reply.{Reply}
use Rattle.model.specs.Cases.{in_case}
use Rattle.model.specs.declared.record_bodies.Given.TheVariants as gives
use Rattle.model.specs.declared.record_bodies.Assignment.{Assignment}
use Rattle.model.specs.Jobs.{job_step}
use Rattle.model.specs.declared.metadata_bodies.SpelledType.{SpelledType}
use Rattle.model.specs.Organisations.{fresh}
use Rattle.model.specs.Paths.{Asked}
use Rattle.model.specs.Replies.{reply_of}
use Rattle.model_requests.specs.Requests.{Request, adds_field, adds_object, adds_role, adds_user, asks, creates, updates, verdict_on}
use Rattle.model.specs.Step.{refusal_reply}
use Rattle.model.specs.Tenant.{Tenant}
use Rattle.model.specs.World.{user_at, user_prefix}
use Rattle.model.specs.WorkedQueries.{ids_of, moment}

-- ---- requests in turn

-- a request, and the number of the user who makes it
pub record Call : Type 0 where
  pub user : ℕ
  pub request : Request

-- the user with this number, who asks once the organisation has made its step
abbrev pub user_asks : Tenant → ℕ → Option Asked
user_asks t n =
    option_map (λ u. record { tenant = job_step t; user = u; now = moment }) (user_at t.users (made user_prefix n))

-- the reply, and the organisation afterwards
abbrev pub called : Tenant → Call → Reply × Tenant
called t c =
    in_case (user_asks t c.user) (refusal_reply InvalidSession, t) (λ a.
    let v = verdict_on a c.request in (reply_of a v.answer, v.tenant))

abbrev pub after_calls : Tenant → List Call → Tenant
after_calls t [] = t
after_calls t (c ∷ cs) = after_calls (called t c).1 cs

-- the status and the body of the reply to the last call, after the others
abbrev pub said : Tenant → List Call → Call → ℕ × List ℕ
said t cs c = let r = (called (after_calls t cs) c).0 in (r.status, r.body)

-- ---- short words

abbrev pub by : ℕ → Request → Call
by n request = record { user = n; request = request }

abbrev pub by_admin : Request → Call
by_admin request = by 0 request

-- a new object, a new field and a new user
abbrev pub object_with : List ℕ → Access → Request
object_with name access = adds_object (record { members = codes "name" ∷ codes "access" ∷ []; name = name; access = access; hierarchy = true; master = None })

abbrev pub field_with : (object name : List ℕ) → SpelledType → (unique : Bool) → Request
field_with object name kind unique =
    adds_field
    (record {
      members = codes "object" ∷ codes "name" ∷ codes "type" ∷ [];
      object = object;
      name = name;
      kind = kind;
      required = false;
      unique = unique;
      indexed = false;
    })

abbrev pub user_with : (name role : List ℕ) → Request
user_with name role = adds_user (record { name = name; secret = codes "abcdefghijklmnop"; role = Some role; admin = false })

-- a text for a field
abbrev pub text_to : (field text : List ℕ) → Assignment
text_to field text = record { field = field; given = gives.Json (json.Text text) }

-- ---- replies

abbrev pub done_so : ℕ × List ℕ
done_so = (204, [])

abbrev pub made_so : List ℕ → ℕ × List ℕ
made_so id = (201, codes "{\"id\":\"" ++ id ++ codes "\",\"success\":true,\"errors\":[]}")

abbrev pub rows_so : ℕ → List ℕ → ℕ × List ℕ
rows_so n rows = (200, codes "{\"totalSize\":" ++ decimal n ++ codes ",\"done\":true,\"records\":[" ++ rows ++ codes "]}")

abbrev pub refused_so : ℕ → (code message : List ℕ) → ℕ × List ℕ
refused_so status code message = (status, codes "[{\"message\":\"" ++ message ++ codes "\",\"errorCode\":\"" ++ code ++ codes "\"}]")

abbrev pub not_found : ℕ × List ℕ
not_found = refused_so 404 (codes "NOT_FOUND") (codes "The requested resource does not exist")

abbrev pub denied_so : ℕ × List ℕ
denied_so = refused_so 403 (codes "INSUFFICIENT_ACCESS_OR_READONLY") (codes "insufficient access rights")

-- ---- an organisation, its people, and a deal

abbrev pub start : Tenant
start = fresh (codes "Acme") []

-- roles CEO (1), VP below CEO (2), Rep below VP (3), Other below CEO (4); Ron in Rep (5), Cea in CEO (6), Otto in Other (7)
abbrev pub people : List Call
people =
    by_admin (adds_role (codes "CEO") None)
    ∷ by_admin (adds_role (codes "VP") (Some (codes "00E000000000001")))
    ∷ by_admin (adds_role (codes "Rep") (Some (codes "00E000000000002")))
    ∷ by_admin (adds_role (codes "Other") (Some (codes "00E000000000001EAA")))
    ∷ by_admin (user_with (codes "Ron") (codes "00E000000000003"))
    ∷ by_admin (user_with (codes "Cea") (codes "00E000000000001"))
    ∷ by_admin (user_with (codes "Otto") (codes "00E000000000004"))
    ∷ []

abbrev pub deal_object : List ℕ
deal_object = codes "Deal__c"

abbrev pub add_deals : Call
add_deals = by_admin (object_with deal_object access.Private)

-- Ron makes deal 8
abbrev pub make_deal : Call
make_deal = by 5 (creates deal_object (text_to (codes "Name") (codes "Q1") ∷ []))

abbrev pub deal_made : List Call
deal_made = people ++ add_deals ∷ make_deal ∷ []

abbrev pub rename : (key : List ℕ) → Request
rename key = updates deal_object key (text_to (codes "Name") (codes "x") ∷ [])

-- `SELECT Id FROM name`
abbrev pub all_of : List ℕ → Request
all_of name = asks (ids_of name)

abbrev pub deal_row : List ℕ → List ℕ
deal_row id =
    codes "{\"attributes\":{\"type\":\"Deal__c\",\"url\":\"/services/data/v59.0/sobjects/Deal__c/" ++ id ++ codes "\"},\"Id\":\"" ++ id ++ codes "\"}"
