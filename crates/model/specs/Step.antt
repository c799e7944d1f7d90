-- A step of the world by whatever answers a caller's message: the reply, and the world after it. The organisation that the message's key names is
-- found first, and all else is a function of that tenant alone: so no request of another organisation changes a reply.
use Rattle.std.specs.Prelude.{ℕ, Bool, List, [], bytes_eq, codes, encode_utf8_all, Option, Some, None}
use Rattle.std.specs.List.{find}
use Rattle.std.specs.Option.{option_and_then, option_map}
use Rattle.std.specs.Str.Lossy.{utf8_lossy}
use Rattle.form_urlencoded.specs.Form.{parse as pairs_in}
use Rattle.model.specs.declared.caller.Caller.{Caller}
use Rattle.model.specs.declared.refusal.Refusal.{Refusal}
use Rattle.model.specs.declared.refusal.Refusal.TheVariants as refusal
use Rattle.model.specs.declared.reply.Reply.{Reply}
use Rattle.model.specs.Bodies.{refusal_body}
use Rattle.model.specs.Callers.{Named, caller_in, caller_of, named}
use Rattle.model.specs.Refusals.{status_of}
use Rattle.model.specs.Tenant.{Tenant}
use Rattle.model.specs.World.{World, tenant_at, with_tenant}

-- a message: its method, target and bearer as characters, and its body in bytes
pub record Message : Type 0 where
  pub method : List ℕ
  pub target : List ℕ
  pub bearer : Option (List ℕ)
  pub body : List ℕ

-- the reply that refuses so
abbrev pub refusal_reply : Refusal → Reply
refusal_reply r = record { status = status_of r; body = refusal_body r }

-- a refusal leaves the organisation as it is
abbrev pub refused : Refusal → Tenant → Reply × Tenant
refused r t = (refusal_reply r, t)

-- ---- the text of a query

-- whether a pair of a query string is named `q`
abbrev pub is_q : List ℕ × List ℕ → Bool
is_q pair = bytes_eq (utf8_lossy pair.0) (codes "q")

-- the text of a pair's value, in UTF-8; without a pair it is empty
abbrev pub pair_text : Option (List ℕ × List ℕ) → List ℕ
pair_text None = []
pair_text (Some pair) = utf8_lossy pair.1

-- the text of a query, in UTF-8: the value of the first pair `q` of the query string
unfoldable pub query_text : List ℕ → List ℕ
query_text pairs = pair_text (find is_q (pairs_in (encode_utf8_all pairs)))

-- ---- who asks

-- what the key of a message names, before any organisation is looked at
abbrev pub key_in : Message → Option Named
key_in m = option_and_then (λ key. named (encode_utf8_all key)) m.bearer

-- the number of the organisation that the key of a message names
abbrev pub org_named : Message → Option ℕ
org_named m = option_map (λ n. n.org) (key_in m)

-- the caller whom the key of a message names, if its secret is right
abbrev pub caller_by : World → Message → Option Caller
caller_by w m = option_and_then (λ key. caller_in w (encode_utf8_all key)) m.bearer

-- what answers a caller's message at this moment, with what becomes of the organisation
abbrev pub Answering : Type 0
Answering = Caller → Message → (now : ℕ) → Tenant → Reply × Tenant

-- a message of no caller is refused
abbrev pub if_called : Answering → Message → ℕ → Option Caller → Tenant → Reply × Tenant
if_called answers m now None t = refused refusal.InvalidSession t
if_called answers m now (Some c) t = answers c m now t

-- what a message with this key is answered in an organisation
abbrev pub answer_in : Answering → Named → Message → ℕ → Tenant → Reply × Tenant
answer_in answers n m now t = if_called answers m now (caller_of n t) t

-- ---- the world

-- a message is answered in an organisation, if there is one, which alone may change
abbrev pub in_tenant : World → ℕ → (Tenant → Reply × Tenant) → Option Tenant → Reply × World
in_tenant w org does None = (refusal_reply refusal.InvalidSession, w)
in_tenant w org does (Some t) = ((does t).0, with_tenant w org (does t).1)

-- the same in the organisation with this number
abbrev pub in_org : World → ℕ → (Tenant → Reply × Tenant) → Reply × World
in_org w org does = in_tenant w org does (tenant_at w org)

-- the same in the organisation that is named, if one is
abbrev pub in_key : Answering → World → Message → ℕ → Option Named → Reply × World
in_key answers w m now None = (refusal_reply refusal.InvalidSession, w)
in_key answers w m now (Some n) = in_org w n.org (answer_in answers n m now)

-- a step of the world by what answers a caller's message
abbrev pub step_by : Answering → World → Message → ℕ → Reply × World
step_by answers w m now = in_key answers w m now (key_in m)
