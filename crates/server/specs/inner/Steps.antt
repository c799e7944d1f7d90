-- A caller's request itself, behind a step or where there was none.
use Rattle.std.specs.Prelude.{◌≡◌, ℕ, Bool, List, Option, Some, Result, Ok, Err}
use Rattle.store_kv.specs.Tables.{Tables}
use Rattle.store_rows.specs.declared.fail.StoreFail.{StoreFail}
use Rattle.model.specs.declared.caller.Caller.{Caller}
use Rattle.model.specs.declared.reply.Reply.{Reply}
use Rattle.model.specs.Paths.{Asked}
use Rattle.model.specs.Replies.{reply_of}
use Rattle.model_requests.specs.RequestOf.{verdict_at}
use Rattle.model_requests.specs.Routing.{routed}
use Rattle.model.specs.Step.{Message}
use Rattle.model.specs.Tenant.{Tenant, User}
use Rattle.model.specs.Verdict.{Verdict}
use Rattle.api.specs.Forms.{IsRequestReply}
use Rattle.store_abstraction.specs.declared.judged.Judged.{Judged}
use Rattle.store_abstraction.specs.Local.{KeepsOthers, StandsFor, StandsIn}
use Rattle.store_abstraction.specs.Operations.{IsChange, Judges}
use Rattle.store_abstraction.specs.Plan.{OrgPlan}
use Rattle.model.specs.Asker.{IsAsking}
use Rattle.model.specs.Asker.{asking}
use Rattle.server.specs.Own.{bytes_of}
use Rattle.server.specs.Requests.{in_bytes}

-- what a message comes to of one who asks in the organisation with this number
abbrev pub verdict_of : (org : ℕ) → Message → Asked → Verdict
verdict_of org m a = verdict_at org a m.body (routed m.method m.target)

-- the same as an operation: the bytes of the reply, and what becomes of the organisation
abbrev pub request_does : (org : ℕ) → Message → (close : Bool) → Asked → Option Tenant → List ℕ × Option Tenant
request_does org m close a t = (bytes_of m close (reply_of a (verdict_of org m a).answer), Some (verdict_of org m a).tenant)

-- a caller's request, judged over these tables, of which those came: by its verdict, and no step is made
pub record JudgesRequest (c : Caller) (m : Message) (close : Bool) (now : ℕ) (before after : Tables) (result : Result (Judged (List ℕ)) StoreFail) : Type 0 where
  pub others : IsChange result → KeepsOthers c.org before after
  pub judged : (q : OrgPlan) (t : Tenant) (u : User) → StandsIn c.org q before (Some t) → IsAsking c now (asking t now u)
      → Judges (StandsFor c.org) (request_does c.org m close (asking t now u)) (Some t) after result

-- what was judged is a reply of the form of its route, in bytes
abbrev pub IsInForm : Message → (close : Bool) → Result (Judged (List ℕ)) StoreFail → Type 0
IsInForm m close (Ok j) = (r : Judged Reply) × IsRequestReply (routed m.method m.target) r × (j ≡ in_bytes m.method close r)
IsInForm m close (Err e) = Unit {0}
