-- What one message comes to in the organisation that its key names, over any tables: those of others may be damaged.
use Rattle.std.specs.Prelude.{◌≡◌, ◌≢◌, ◌⊎◌, ◌<◌, ◌≤◌, ◌+◌, ◌^◌, ℕ, Bool, true, false, IfErr, IfOk, IsErrOf, IsTrue, List, Option, Some, None, Result, Ok, Err, is_ok}
use Rattle.retype_step.specs.Background.{IsUnderWay, step_changes, step_shown}
use Rattle.server_http.specs.declared.message.HttpMessage.{HttpMessage}
use Rattle.server_http.specs.Reply.{reply_to}
use Rattle.store_kv.specs.State.{KeeperCause, KeeperState, LeavesNoMore, Quiet, Reads, Shows, ShowsMost, Steps, Tells, TrustedAfter, data_table}
use Rattle.store_kv.specs.Tables.{Tables}
use Rattle.store_rows.specs.declared.fail.StoreFail.{StoreFail}
use Rattle.store_rows.specs.declared.fail.StoreFail.TheVariants.{Damaged, Keeper, Memory}
use Rattle.model_requests.specs.Answered.{answered}
use Rattle.model.specs.declared.caller.Caller.{Caller}
use Rattle.model.specs.declared.refusal.Refusal.TheVariants as refusal
use Rattle.model.specs.declared.reply.Reply.{Reply}
use Rattle.model.specs.Callers.{Named}
use Rattle.model_requests.specs.Routing.{routed}
use Rattle.model.specs.Step.{Message, key_in, refusal_reply}
use Rattle.model.specs.Tenant.{Tenant, User}
use Rattle.people_edit.specs.People.{FindsCaller}
use Rattle.api.specs.Forms.{IsRequestReply}
use Rattle.store_abstraction.specs.declared.judged.Judged.{Judged}
use Rattle.store_abstraction.specs.declared.judged.Judged.TheVariants.{Changed, Same}
use Rattle.store_abstraction.specs.Local.{KeepsOthers, StandsFor, StandsIn}
use Rattle.store_abstraction.specs.Operations.{DoesIn, IsChange, Judges}
use Rattle.store_abstraction.specs.Plan.{OrgPlan}
use Rattle.model.specs.Asker.{IsAsking}
use Rattle.model_requests.specs.Own.{own_step}
use Rattle.model.specs.Bounds.{request_changes}
use Rattle.model_requests.specs.FurtherShown.{routed_shown}
use Rattle.model.specs.Asker.{asking}
use Rattle.server.specs.Requests.{in_bytes, message_in}

-- the bytes of a reply to a message
abbrev pub bytes_of : Message → (close : Bool) → Reply → List ℕ
bytes_of m close r = reply_to m.method r.status r.body close

-- ---- in the organisation that the key names

-- a message as an operation there: the bytes of its reply, and what becomes of the organisation
abbrev pub own_does : Named → Message → (close : Bool) → (now : ℕ) → Option Tenant → List ℕ × Option Tenant
own_does n m close now t = (bytes_of m close (own_step n m now t).0, (own_step n m now t).1)

-- a caller's message, judged over these tables, of which those came
pub record JudgesCaller (c : Caller) (m : Message) (close : Bool) (now : ℕ) (before after : Tables) (result : Result (Judged (List ℕ)) StoreFail) : Type 0 where
  pub others : IsChange result → KeepsOthers c.org before after
  pub judged : (q : OrgPlan) (t : Tenant) (u : User) → StandsIn c.org q before (Some t) → IsAsking c now (asking t now u)
      → Judges (StandsFor c.org) (λ s. (bytes_of m close (answered c m now t).0, Some (answered c m now t).1)) (Some t) after result

-- a message whose key names these
pub record JudgesNamed (n : Named) (m : Message) (close : Bool) (now : ℕ) (before after : Tables) (result : Result (Judged (List ℕ)) StoreFail) : Type 0 where
  pub others : IsChange result → KeepsOthers n.org before after
  pub judged : (q : OrgPlan) (t : Option Tenant) → StandsIn n.org q before t → Judges (StandsFor n.org) (own_does n m close now) t after result

-- ---- of no organisation

abbrev pub unnamed_bytes : Message → (close : Bool) → List ℕ
unnamed_bytes m close = bytes_of m close (refusal_reply refusal.InvalidSession)

-- a message without a key, or whose key has a number that no organisation has: it is refused, and nothing changes
abbrev pub JudgesUnnamed : Message → (close : Bool) → Result (Judged (List ℕ)) StoreFail → Type 0
JudgesUnnamed m close (Ok (Same bytes)) = bytes ≡ unnamed_bytes m close
JudgesUnnamed m close (Ok (Changed bytes)) = ⊥
JudgesUnnamed m close (Err e) = e ≡ Memory

pub record DoesUnnamed (m : Message) (close : Bool) (old new : KeeperState) (result : Result (List ℕ) StoreFail) : Type 0 where
  pub reply : Tells old new → IfOk result (λ bytes. bytes ≡ unnamed_bytes m close)
  pub undamaged : Tells old new → IsErrOf result Damaged → ⊥
  pub kept : Tells old new → Shows new old.tables
  pub crash : old.tells → IsTrue old.trusted → LeavesNoMore old new

-- ---- any message

abbrev pub JudgesBy : Option Named → Message → (close : Bool) → (now : ℕ) → (before after : Tables) → Result (Judged (List ℕ)) StoreFail → Type 0
JudgesBy None m close now before after result = JudgesUnnamed m close result
JudgesBy (Some n) m close now before after result =
    (n.org < 2 ^ 32 → JudgesNamed n m close now before after result) × (2 ^ 32 ≤ n.org → JudgesUnnamed m close result)

abbrev pub DoesBy : Option Named → Message → (close : Bool) → (now : ℕ) → (old new : KeeperState) → Result (List ℕ) StoreFail → Type 0
DoesBy None m close now old new result = DoesUnnamed m close old new result
DoesBy (Some n) m close now old new result =
    (n.org < 2 ^ 32 → DoesIn n.org (own_does n m close now) old new result) × (2 ^ 32 ≤ n.org → DoesUnnamed m close old new result)

-- judged over a draft, and done over a keeper
abbrev pub JudgesMessage : HttpMessage → (now : ℕ) → (before after : Tables) → Result (Judged (List ℕ)) StoreFail → Type 0
JudgesMessage m now before after result = JudgesBy (key_in (message_in m)) (message_in m) m.close now before after result

abbrev pub DoesMessage : HttpMessage → (now : ℕ) → (old new : KeeperState) → Result (List ℕ) StoreFail → Type 0
DoesMessage m now old new result = DoesBy (key_in (message_in m)) (message_in m) m.close now old new result

-- ---- a step before the request

-- the most rows that are written for a message: those of a step of the change of a type that is under way, and of the request
abbrev pub message_changes : ℕ
message_changes = step_changes + request_changes

-- the data rows that are shown to a message's request at most, over a draft that removes so many
abbrev pub asked_shown : Message → (removed : ℕ) → ℕ
asked_shown m removed = routed_shown (routed m.method m.target) removed

-- the most data rows that are shown to a message
abbrev pub message_shown : Message → ℕ
message_shown m = step_shown + asked_shown m 0

-- the same over a draft that removes so many, which may be among those that the step reads, too
abbrev pub message_shown_beside : Message → (removed : ℕ) → ℕ
message_shown_beside m removed = (step_shown + removed) + asked_shown m removed

-- what is judged once a step was made, or where there was none: what a step changed is to be made, whatever the request changes
abbrev pub after_step : {X : Type 0} → (made : Bool) → Result (Judged X) StoreFail → Result (Judged X) StoreFail
after_step false judged = judged
after_step true (Ok (Same x)) = Ok (Changed x)
after_step true (Ok (Changed x)) = Ok (Changed x)
after_step true (Err e) = Err e

-- where these rows of the organisation with this number stand for a tenant, a change of a type is under way there
abbrev pub IsMoving : (org : ℕ) → Tables → Type 0
IsMoving n before = (q : OrgPlan) (t : Tenant) → StandsIn n q before (Some t) → IsUnderWay t

-- over these tables the message's key names a caller, by its secret, in whose organisation a step is made
abbrev pub IsStepped : Message → Tables → Type 0
IsStepped m before = (c : Caller) × FindsCaller (key_in m) before (Ok (Some c)) × IsMoving c.org before

-- ---- replies, whatever the tables have

-- small steps: where the request itself changes nothing, at most the rows of a step are changed
abbrev pub IsSmall : Judged Reply → (before after : ℕ) → Type 0
IsSmall (Same r) before after = after ≤ before + step_changes
IsSmall (Changed r) before after = Unit {0}

-- what was judged is a reply of the form of its route, in bytes, over a draft that had so many changes and then has so many. A
-- step was made before at most where `called` holds
pub record IsJudged (m : Message) (close : Bool) (called : Type 0) (before after : ℕ) (j : Judged (List ℕ)) : Type 0 where
  pub made : Bool
  pub reply : Judged Reply
  pub form : IsRequestReply (routed m.method m.target) reply
  pub judged : after_step made (Ok (in_bytes m.method close reply)) ≡ Ok j
  pub caller : made ≡ true → called
  pub small : IsSmall reply before after

abbrev pub JudgesReply : Message → (close : Bool) → (called : Type 0) → (before after : ℕ) → Result (Judged (List ℕ)) StoreFail → Type 0
JudgesReply m close called before after (Ok j) = IsJudged m close called before after j
JudgesReply m close called before after (Err e) = Unit {0}

-- the keeper after a request that itself changes nothing: at most the rows of a step are written, and none at all unless a caller
-- asks in whose organisation, where its rows stand for a tenant, a change of a type is under way
pub record SmallSteps (m : Message) (old new : KeeperState) : Type 0 where
  pub written : new.written ≤ old.written + step_changes
  pub kept : ((Tells old new → Shows new old.tables) × (new.written ≡ old.written)) ⊎ (Tells old new → IsStepped m old.tables)

-- the keeper, where the reply goes with no change that the request makes
abbrev pub KeepsIfSame : Message → Judged Reply → (old new : KeeperState) → Type 0
KeepsIfSame m (Same r) old new = SmallSteps m old new
KeepsIfSame m (Changed r) old new = Unit {0}

abbrev pub judged_bytes : Message → (close : Bool) → Judged Reply → List ℕ
judged_bytes m close (Same r) = bytes_of m close r
judged_bytes m close (Changed r) = bytes_of m close r

-- the reply is of the form of its route: one that refuses, or that has what was read, goes with no change that the request makes
abbrev pub Replies : Message → (close : Bool) → (old new : KeeperState) → Result (List ℕ) StoreFail → Type 0
Replies m close old new (Ok bytes) =
    (r : Judged Reply) × IsRequestReply (routed m.method m.target) r × (bytes ≡ judged_bytes m close r) × KeepsIfSame m r old new
Replies m close old new (Err e) = Unit {0}

-- ---- the keeper

-- what is asked before a message: rows are read, and if that was done the keeper is still trusted, as long as it is clean
pub record AsksFirst (old new : KeeperState) (result : Result (Unit {0}) StoreFail) : Type 0 where
  pub reads : Reads old new
  pub shown : new.shown data_table ≡ old.shown data_table
  pub trusted : TrustedAfter (is_ok result) new
  pub undamaged : IfErr result (λ e. e ≢ Damaged)
  pub cause : KeeperCause old new (IsErrOf result Keeper)
  pub quiet : Quiet old new (IsErrOf result Keeper)

-- what a message keeps of a keeper: a reply is made only while it is trusted, few rows are written, none where a row can't be read,
-- and few are shown
pub record Asks {X : Type 0} (m : Message) (old new : KeeperState) (result : Result X StoreFail) : Type 0 where
  pub steps : Steps old new
  pub trusted : TrustedAfter (is_ok result) new
  pub cause : KeeperCause old new (IsErrOf result Keeper)
  pub quiet : Quiet old new (IsErrOf result Keeper)
  pub written : new.written ≤ old.written + message_changes
  pub unwritten : Tells old new → IsErrOf result Damaged → new.written ≡ old.written
  pub shown : Tells old new → ShowsMost (message_shown m) old new
  pub told : Tells old new → new.tells
