-- The forms of replies to callers' requests.
-- Source: RFC 9110, 15.3.1, 15.3.2 and 15.3.5, of 200, 201 and 204.
use Rattle.std.specs.Prelude.{◌≡◌, ◌⊎◌, []}
use Rattle.model.specs.declared.reply.Reply.{Reply}
pub use Rattle.query_json.specs.Answers.{IsReadReply}
use Rattle.model_requests.specs.declared.route.Route.TheVariants.{GetRetype, Query}
use Rattle.model_requests.specs.declared.routed.Routed.{Routed}
use Rattle.model_requests.specs.declared.routed.Routed.TheVariants.{To, Reads, NotFound, NotAllowed}
use Rattle.store_abstraction.specs.declared.judged.Judged.{Judged}
use Rattle.store_abstraction.specs.declared.judged.Judged.TheVariants.{Changed, Same}

-- a reply that goes with a change: 204 without a body, or 200 or 201 with one
abbrev pub IsDoneReply : Reply → Type 0
IsDoneReply r = ((r.status ≡ 204) × (r.body ≡ [])) ⊎ ((r.status ≡ 200) ⊎ (r.status ≡ 201))

-- a request that may change something: neither a read nor a query nor one that asks how far the change of a type is, and none of no
-- such path or method
abbrev pub MayChange : Routed → Type 0
MayChange NotFound = ⊥
MayChange NotAllowed = ⊥
MayChange (Reads read) = ⊥
MayChange (To (Query pairs)) = ⊥
MayChange (To GetRetype) = ⊥
MayChange (To _) = Unit {0}

abbrev pub IsRequestReply : Routed → Judged Reply → Type 0
IsRequestReply routed (Same r) = IsReadReply r
IsRequestReply routed (Changed r) = MayChange routed × IsDoneReply r
