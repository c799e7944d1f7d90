-- What a route's request comes to for who asks.
use Rattle.std.proofs.Common.{◌≡◌, ◌∙◌, ◌≤◌, ℕ, Bool, true, false, ◌&&◌, List, inl, inr, refl, sym, ap, subst, arith}
use Rattle.std.specs.Prelude.{Result, Ok, Err, IfOk, not, if◌then◌else◌}
use Rattle.api_edit.specs.Administration.{IsEditReply, is_edit}
use Rattle.store_kv.specs.Draft.{DraftReads, Held}
use Rattle.store_kv.specs.State.{KeeperState}
use Rattle.store_kv.specs.Tables.{Tables}
use Rattle.store_rows.specs.declared.fail.StoreFail.{StoreFail}
use Rattle.model.specs.declared.caller.Caller.{Caller}
use Rattle.model.specs.declared.refusal.Refusal.TheVariants.{AdminRequired}
use Rattle.model.specs.declared.reply.Reply.{Reply}
use Rattle.model_reads.specs.declared.read.Read.{Read}
use Rattle.model_reads.specs.Reads.{for_administrators, read_verdict}
use Rattle.model_requests.specs.declared.route.Route.{Route}
use Rattle.model_requests.specs.declared.route.Route.TheVariants.{AddGroup, AddRole, AddUser, Create, GetRetype, Query, Upsert}
use Rattle.model_requests.specs.declared.routed.Routed.TheVariants.{Reads, To}
use Rattle.model.specs.Paths.{Asked}
use Rattle.model_requests.specs.RequestOf.{request_of, unless_barred, verdict_at, verdict_or}
use Rattle.model.specs.Retyping.{get_retype}
use Rattle.model_requests.specs.Routing.{is_administration}
use Rattle.model.specs.Verdict.{Verdict, refuse}
use Rattle.store_abstraction.specs.Calls.{ended}
use Rattle.store_abstraction.specs.Operations.{Drafts, RepliesAt, Responds}
use Rattle.store_abstraction.specs.declared.judged.Judged.{Judged}
use Rattle.store_abstraction.specs.declared.judged.Judged.TheVariants.{Changed, Same}
use Rattle.model.specs.Asker.{IsAsking}
use Rattle.model.specs.Bounds.{edit_shown, request_changes, request_gone}
use Rattle.api.specs.Forms.{IsDoneReply, IsRequestReply, MayChange}
use Rattle.api.proofs.Responses.{MostOf}

-- it asks neither for records nor how far the change of a type is
pub record IsOther (r : Route) : Type 0 where
  pub no_query : (pairs : List ℕ) → r ≡ Query pairs → ⊥
  pub no_state : r ≡ GetRetype → ⊥

-- whether who asks is barred, by what was tested
pub barred : (asked for admin r v : Bool) → asked ≡ for → r ≡ (asked && not admin) → r ≡ v → (for && not admin) ≡ v
barred asked for admin r v is made e = ap (λ (b : Bool). b && not admin) (sym is) ∙ sym made ∙ e

-- the verdict by whether who asks is barred
unbarred : (a : Asked) (c : Caller) (now : ℕ) (for b : Bool) (w : Verdict) → IsAsking c now a → (for && not c.admin) ≡ b
    → unless_barred a for w ≡ (if b then refuse a.tenant AdminRequired else w)
unbarred a c now for b w asking e =
    ap (λ (x : Bool). if for && not x then refuse a.tenant AdminRequired else w) asking.admin
    ∙ ap (λ (x : Bool). if x then refuse a.tenant AdminRequired else w) e

module _ (r : Route) (body : List ℕ) (c : Caller) (now : ℕ) where
  -- the caller is no administrator, and has to be one
  pub administrator_lacks : (a : Asked) → IsAsking c now a → (is_administration r && not c.admin) ≡ true → verdict_at c.org a body (To r) ≡ refuse a.tenant AdminRequired
  administrator_lacks a asking e = unbarred a c now (is_administration r) true (verdict_or a (request_of r body)) asking e

  -- the request itself
  request_verdict : (a : Asked) → IsAsking c now a → (is_administration r && not c.admin) ≡ false → verdict_at c.org a body (To r) ≡ verdict_or a (request_of r body)
  request_verdict a asking e = unbarred a c now (is_administration r) false (verdict_or a (request_of r body)) asking e

-- the same of a read
module _ (r : Read) (body : List ℕ) (c : Caller) (now : ℕ) where
  pub read_refused : (a : Asked) → IsAsking c now a → (for_administrators r && not c.admin) ≡ true → verdict_at c.org a body (Reads r) ≡ refuse a.tenant AdminRequired
  read_refused a asking e = unbarred a c now (for_administrators r) true (read_verdict c.org a r) asking e

  pub read_allowed : (a : Asked) → IsAsking c now a → (for_administrators r && not c.admin) ≡ false → verdict_at c.org a body (Reads r) ≡ read_verdict c.org a r
  read_allowed a asking e = unbarred a c now (for_administrators r) false (read_verdict c.org a r) asking e

-- one that asks how far the change of a type is
pub state_asked : (r : Route) (body : List ℕ) (c : Caller) (now : ℕ) (a : Asked) → IsAsking c now a → r ≡ GetRetype → (is_administration r && not c.admin) ≡ false
    → verdict_at c.org a body (To r) ≡ get_retype a.tenant
unfolding request_of
state_asked r body c now a asking is may = request_verdict r body c now a asking may ∙ ap (λ (x : Route). verdict_or a (request_of x body)) is

module _ (r : Route) (body : List ℕ) (c : Caller) (now : ℕ) (may : (is_administration r && not c.admin) ≡ false) where
  -- a request for an edit
  pub edited : (org : ℕ) (m after : Tables) (result : Result (Judged Reply) StoreFail)
      → Responds org (IsAsking c now) (λ a. verdict_or a (request_of r body)) m after result → Responds org (IsAsking c now) (λ a. verdict_at c.org a body (To r)) m after result
  edited org m after result h = record {
    others = h.others;
    replied = λ p a s asking. subst (λ (v : Verdict). RepliesAt org a v after result) (sym (request_verdict r body c now a asking may)) (h.replied p a s asking);
  }

-- it asks for an edit
pub edit_asked : (r : Route) → IsOther r → is_edit r ≡ true
edit_asked (Query pairs) other = absurd (other.no_query pairs refl)
edit_asked GetRetype other = absurd (other.no_state refl)
edit_asked _ other = refl

-- ---- the form of the reply to an edit

may_change : (r : Route) → IsOther r → MayChange (To r)
may_change (Query pairs) other = absurd (other.no_query pairs refl)
may_change GetRetype other = absurd (other.no_state refl)
may_change _ other = tt

change_form : (r : Route) (reply : Reply) → IsEditReply r (Changed reply) → IsDoneReply reply
change_form (Create object) reply h = inr (inr h.0)
change_form (Upsert object key value) reply (inl e, some) = inr (inr e)
change_form (Upsert object key value) reply (inr e, some) = inr (inl e)
change_form AddUser reply h = inr (inr h.0)
change_form AddRole reply h = inr (inr h.0)
change_form AddGroup reply h = inr (inr h.0)
change_form _ reply h = inl h

judged_form : (r : Route) (j : Judged Reply) → IsOther r → IsEditReply r j → IsRequestReply (To r) j
judged_form r (Same reply) other h = inl h
judged_form r (Changed reply) other h = (may_change r other, change_form r reply h)

pub administered_form : (r : Route) (result : Result (Judged Reply) StoreFail) → IsOther r → IfOk result (IsEditReply r) → IfOk result (IsRequestReply (To r))
administered_form r (Ok j) other h = judged_form r j other h
administered_form r (Err e) other h = tt

-- ---- and what it leaves of the draft

pub administered_drafts : {K : Type 0} (state : K → KeeperState) → MostOf state → (larger : ℕ) (result : Result (Judged Reply) StoreFail) (a b : Held K) → edit_shown ≤ larger
    → Drafts state request_changes request_gone edit_shown result a b → Drafts state request_changes request_gone larger result a b
administered_drafts state most larger result a b few h = record {
  makes = most request_changes request_gone edit_shown request_changes request_gone larger (ended result) a b (omega arith) (omega arith) (λ _. few) h.makes;
  changing = h.changing;
  same = λ is. wider (h.same is);
}
  where
    wider : DraftReads state edit_shown a b → DraftReads state larger a b
    wider d = record { same_reference = d.same_reference; changes = d.changes; reads = d.reads; shows = λ told. let e = d.shows told in omega (arith, e, few) }
