-- A caller's request behind the step of a change of a type.
use Rattle.std.proofs.Common.{◌≡◌, ℕ, ◌+◌, ◌<◌, ◌≤◌, Bool, true, false, List, Option, Some, Result, Ok, Err, refl, sym, ap, subst, ◌∙◌, arith}
use Rattle.std.specs.FinMap as map
use Rattle.std.specs.Prelude.{length}
use Rattle.retype_step.specs.Background.{DraftsStep, StepsIn, StepsTo, step_changes}
use Rattle.store_kv.specs.Draft.{DraftReads, DraftWorks, Held, count_of, removals_of}
use Rattle.store_kv.specs.State.{KeeperState, data_table}
use Rattle.store_kv.specs.Tables.{Tables}
use Rattle.store_rows.specs.declared.fail.StoreFail.{StoreFail}
use Rattle.model_requests.specs.Answered.{answered}
use Rattle.model.specs.declared.caller.Caller.{Caller}
use Rattle.model.specs.declared.refusal.Refusal.TheVariants.{InvalidSession}
use Rattle.model.specs.declared.reply.Reply.{Reply}
use Rattle.model.specs.Cases.{in_case}
use Rattle.model.specs.Jobs.{job_step}
use Rattle.model.specs.Replies.{reply_of}
use Rattle.model_requests.specs.RequestOf.{answer_to}
use Rattle.model.specs.Step.{Message, refused}
use Rattle.model.specs.Tenant.{Tenant, User}
use Rattle.model.specs.World.{user_at}
use Rattle.store_abstraction.specs.Calls.{Ending, Makes, ended}
use Rattle.store_abstraction.specs.Local.{KeepsOthers, StandsFor, StandsIn}
use Rattle.store_abstraction.specs.Operations.{Drafts, IsChange, IsSame, Judges}
use Rattle.store_abstraction.specs.Plan.{OrgPlan}
use Rattle.store_abstraction.specs.declared.judged.Judged.{Judged}
use Rattle.store_abstraction.specs.declared.judged.Judged.TheVariants.{Changed, Same}
use Rattle.model.specs.Asker.{IsAsking}
use Rattle.model.specs.Bounds.{request_changes, request_gone}
use Rattle.model_requests.specs.FurtherShown.{routed_shown}
use Rattle.model_requests.specs.declared.routed.Routed.{Routed}
use Rattle.model_requests.specs.declared.routed.Routed.TheVariants.{Reads}
use Rattle.model.specs.Asker.{asking}
use Rattle.server.specs.Own.{IsJudged, IsSmall, JudgesCaller, JudgesReply, after_step, asked_shown, bytes_of, message_changes, message_shown_beside}
use Rattle.server.specs.Requests.{in_bytes}
use Rattle.server.specs.inner.Steps.{IsInForm, JudgesRequest, request_does, verdict_of}
use Rattle.server.proofs.Judging.{same_does}

abbrev Returned : Type 0
Returned = Result (Judged (List ℕ)) StoreFail

-- ---- what the request comes to

module _ (users_kept : (t : Tenant) → (job_step t).users ≡ t.users) (c : Caller) (m : Message) (close : Bool) (now : ℕ) where
  -- the caller is the same user after the step
  still_asks : (t : Tenant) (u : User) → IsAsking c now (asking t now u) → IsAsking c now (asking (job_step t) now u)
  still_asks t u h = record { user = ap (λ (users : List User). user_at users c.user) (users_kept t) ∙ h.user; admin = h.admin; now = h.now }

  -- what answers the caller is what answers the user after the step
  answered_is : (t : Tenant) (u : User) → IsAsking c now (asking t now u)
      → answered c m now t ≡ (reply_of (asking (job_step t) now u) (verdict_of c.org m (asking (job_step t) now u)).answer, (verdict_of c.org m (asking (job_step t) now u)).tenant)
  answered_is t u h = ap (λ o. in_case o (refused InvalidSession t) (λ v. answer_to c.org (asking t now v) m)) h.user

  -- a caller's message as an operation
  abbrev does_to : Tenant → Option Tenant → List ℕ × Option Tenant
  does_to t s = (bytes_of m close (answered c m now t).0, Some (answered c m now t).1)

  does_same : (t : Tenant) (u : User) → IsAsking c now (asking t now u) → (s : Option Tenant) → request_does c.org m close (asking (job_step t) now u) s ≡ does_to t s
  does_same t u h s = ap (λ (r : Reply × Tenant). (bytes_of m close r.0, Some r.1)) (sym (answered_is t u h))

  module _ (before mid after : Tables) where
    -- the organisation's rows behind the step
    met : (made : Bool) → (made ≡ false → mid ≡ before) → (q : OrgPlan) (t : Tenant) → StandsIn c.org q before (Some t) → StepsTo c.org t mid (Ok made) → StandsFor c.org mid (Some (job_step t))
    met false same q t s step = (q, subst (λ (x : Tables). StandsIn c.org q x (Some (job_step t))) (sym (same refl)) (subst (λ (x : Tenant). StandsIn c.org q before (Some x)) (sym step) s))
    met true same q t s step = step.1

    judged_behind : (made : Bool) (r : Returned) → (IsSame r → after ≡ mid) → (t : Tenant) → StepsTo c.org t mid (Ok made) → Judges (StandsFor c.org) (does_to t) (Some (job_step t)) after r → Judges (StandsFor c.org) (does_to t) (Some t) after (after_step made r)
    judged_behind false (Ok (Same x)) same t step h = (h.0, h.1 ∙ ap Some step)
    judged_behind false (Ok (Changed x)) same t step h = h
    judged_behind false (Err e) same t step h = h
    judged_behind true (Ok (Same x)) same t step h = (h.0, subst (λ (y : Tables). StandsFor c.org y (does_to t (Some t)).1) (sym (same tt)) (subst (StandsFor c.org mid) (sym h.1) step.1))
    judged_behind true (Ok (Changed x)) same t step h = h
    judged_behind true (Err e) same t step h = h

    others_behind : (made : Bool) (r : Returned) → (IsSame r → after ≡ mid) → KeepsOthers c.org before mid → (IsChange r → KeepsOthers c.org mid after) → IsChange (after_step made r) → KeepsOthers c.org before after
    others_behind false (Ok (Same x)) same first then change = absurd change
    others_behind false (Ok (Changed x)) same first then change = λ place other. then tt place other ∙ first place other
    others_behind false (Err e) same first then change = absurd change
    others_behind true (Ok (Same x)) same first then change = λ place other. ap (λ (y : Tables). map.get y place) (same tt) ∙ first place other
    others_behind true (Ok (Changed x)) same first then change = λ place other. then tt place other ∙ first place other
    others_behind true (Err e) same first then change = absurd change

    -- the request is judged over what the step left
    pub caller_judged : (made : Bool) (r : Returned) → (made ≡ false → mid ≡ before) → (IsSame r → after ≡ mid) → StepsIn c.org before mid (Ok made) → JudgesRequest c m close now mid after r → JudgesCaller c m close now before after (after_step made r)
    caller_judged made r same_before same_after step h = record {
      others = others_behind made r same_after step.others h.others;
      judged = λ q t u s asks.
          let there = met made same_before q t s (step.stepped q t s) in
          judged_behind made r same_after t (step.stepped q t s)
          (same_does (StandsFor c.org) (request_does c.org m close (asking (job_step t) now u)) (does_to t) (Some (job_step t)) after r (does_same t u asks (Some (job_step t)))
          (h.judged there.0 (job_step t) u there.1 (still_asks t u asks)));
    }

  pub caller_failed : (before after : Tables) (e : StoreFail) → StepsIn c.org before after (Err e) → JudgesCaller c m close now before after (Err e)
  caller_failed before after e h = record { others = λ none. absurd none; judged = λ q t u s asks. h.stepped q t s }

-- ---- the reply

module _ (m : Message) (close : Bool) (called : Type 0) (before after : ℕ) where
  small : (q : Judged Reply) (j : Judged (List ℕ)) → j ≡ in_bytes m.method close q → (IsSame {X = List ℕ} (Ok j) → after ≤ before + step_changes) → IsSmall q before after
  small (Same r) (Same x) is few = few tt
  small (Same r) (Changed x) is few = absurd cc
  small (Changed r) j is few = tt

  form_behind : (made : Bool) (j : Judged (List ℕ)) → IsInForm m close (Ok j) → (made ≡ true → called) → (IsSame {X = List ℕ} (Ok j) → after ≤ before + step_changes) → (k : Judged (List ℕ)) → after_step made (Ok j) ≡ Ok k → IsJudged m close called before after k
  form_behind made j (q, form, is) caller few k e = record { made = made; reply = q; form = form; judged = ap (λ (i : Judged (List ℕ)). after_step made (Ok i)) (sym is) ∙ e; caller = caller; small = small q j is few }

  -- a reply in its form, behind a step or where there was none
  pub form_judged : (made : Bool) (r : Returned) → IsInForm m close r → (made ≡ true → called) → (IsSame r → after ≤ before + step_changes) → JudgesReply m close called before after (after_step made r)
  form_judged false (Ok j) form caller few = form_behind false j form caller few j refl
  form_judged false (Err e) form caller few = tt
  form_judged true (Ok (Same x)) form caller few = form_behind true (Same x) form caller few (Changed x) refl
  form_judged true (Ok (Changed x)) form caller few = form_behind true (Changed x) form caller few (Changed x) refl
  form_judged true (Err e) form caller few = tt

-- a message of more, over a draft with as many changes before
pub form_more : (m : Message) (close : Bool) (called more : Type 0) (before first after : ℕ) (r : Returned) → first ≡ before → (called → more) → JudgesReply m close called first after r → JudgesReply m close more before after r
form_more m close called more before first after (Ok j) same wider h = record {
  made = h.made;
  reply = h.reply;
  form = h.form;
  judged = h.judged;
  caller = λ is. wider (h.caller is);
  small = subst (λ (n : ℕ). IsSmall h.reply n after) same h.small;
}
form_more m close called more before first after (Err e) same wider h = tt

-- ---- the draft

ended_same : (made : Bool) (r : Returned) → ended r ≡ ended (after_step made r)
ended_same false r = refl
ended_same true (Ok (Same x)) = refl
ended_same true (Ok (Changed x)) = refl
ended_same true (Err e) = refl

-- nothing changes where no step was made and the request changes nothing
not_made : (made : Bool) (r : Returned) → IsSame (after_step made r) → (made ≡ false) × IsSame r
not_made false r h = (refl, h)
not_made true (Ok (Same x)) h = absurd h
not_made true (Ok (Changed x)) h = absurd h
not_made true (Err e) h = absurd h

some_made : (made : Bool) (r : Returned) (mid after : ℕ) → (made ≡ true → 0 < mid) → (IsChange r → 0 < after) → (IsSame r → after ≡ mid) → IsChange (after_step made r) → 0 < after
some_made false r mid after first then same change = then change
some_made true (Ok (Same x)) mid after first then same change = subst (λ (n : ℕ). 0 < n) (sym (same tt)) (first refl)
some_made true (Ok (Changed x)) mid after first then same change = then tt
some_made true (Err e) mid after first then same change = absurd change

module _ {K : Type 0} (state : K → KeeperState) (m : Message) (a b d : Held K) (made : Bool) (r : Returned) where
  abbrev Most : ℕ
  Most = message_shown_beside m (removals_of state data_table a)

  module _ (first : DraftsStep state (Ok made) a b) (second : Drafts state request_changes request_gone (asked_shown m (removals_of state data_table b)) r b d) where
    -- unless the request changes something, the changes are those of the step
    pub same_count : IsSame r → count_of d ≡ count_of b
    same_count is = ap length (second.same is).changes

    -- a step that was made, and then a request
    makes_then : DraftWorks state message_changes request_gone Most a d → Makes state message_changes request_gone Most (ended r) a d
    makes_then works = record {
      works = works;
      stays = λ trusted is_done clean. second.makes.stays (first.makes.stays trusted refl (second.makes.works.reads.steps.was_clean clean)) is_done clean;
      cause = record {
        rose = λ fell. let rose = second.makes.cause.rose fell in omega (arith, rose, first.makes.works.reads.steps.counts);
        never = λ sure fell. second.makes.cause.never (first.makes.works.reads.steps.sure sure).0 fell;
      };
      quiet = λ none. second.makes.quiet none ∙ first.makes.quiet (λ fell. fell);
    }

    pub drafts_then : DraftWorks state message_changes request_gone Most a d → (made ≡ false → IsSame r → DraftReads state Most a d) → Drafts state message_changes request_gone Most (after_step made r) a d
    drafts_then works reads = record {
      makes = subst (λ (e : Ending). Makes state message_changes request_gone Most e a d) (ended_same made r) (makes_then works);
      changing = some_made made r (count_of b) (count_of d) (λ is. first.changing (ap Ok is)) second.changing same_count;
      same = λ is. let none = not_made made r is in reads none.0 none.1;
    }

-- over a draft that removes more no fewer are shown
pub shown_more : (r : Routed) (removed more : ℕ) → removed ≤ more → routed_shown r removed ≤ routed_shown r more
shown_more (Reads read) removed more few = omega arith
shown_more _ removed more few = omega arith

-- a step that failed
pub drafts_failed : {K : Type 0} (state : K → KeeperState) (m : Message) (a b : Held K) (e : StoreFail) → Makes state message_changes request_gone (message_shown_beside m (removals_of state data_table a)) (ended {X = Bool} (Err e)) a b
    → Drafts {X = List ℕ} state message_changes request_gone (message_shown_beside m (removals_of state data_table a)) (Err e) a b
drafts_failed state m a b e makes = record { makes = makes; changing = λ none. absurd none; same = λ none. absurd none }
