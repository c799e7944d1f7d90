-- What a caller asks, behind the step of a change of a type.
use Rattle.std.proofs.Common.{◌≡◌, ℕ, ◌<◌, Bool, true, false, List, Option, Some, Result, Ok, Err, refl, sym, ap, subst, ◌∙◌, arith}
use Rattle.std.specs.FinMap as map
use Rattle.std.specs.Prelude.{length}
use Rattle.retype_step.specs.Background.{DraftsStep, StepsIn, StepsTo}
use Rattle.store_kv.specs.Draft.{DraftReads, DraftWorks, Held, count_of, removals_of}
use Rattle.store_kv.specs.State.{KeeperState, data_table}
use Rattle.store_kv.specs.Tables.{Tables}
use Rattle.store_rows.specs.declared.fail.StoreFail.{StoreFail}
use Rattle.model.specs.declared.caller.Caller.{Caller}
use Rattle.model.specs.Cases.{in_case}
use Rattle.model.specs.Jobs.{job_step}
use Rattle.model.specs.Tenant.{Tenant, User}
use Rattle.model.specs.World.{user_at}
use Rattle.store_abstraction.specs.Calls.{Ending, Makes, ended}
use Rattle.store_abstraction.specs.Local.{KeepsOthers, StandsFor, StandsIn}
use Rattle.store_abstraction.specs.Operations.{Drafts, IsChange, IsSame, Judges}
use Rattle.store_abstraction.specs.Plan.{OrgPlan}
use Rattle.store_abstraction.specs.declared.judged.Judged.{Judged}
use Rattle.store_abstraction.specs.declared.judged.Judged.TheVariants.{Changed, Same}
use Rattle.model.specs.Asker.{IsAsking}
use Rattle.model.specs.Asker.{asking}
use Rattle.cmd_auth.specs.Asking.{Doing, called}
use Rattle.cmd_auth.specs.Judging.{JudgesAsked, JudgesCalled, behind_step, beside, changes_behind, shown_behind}

-- an operation that does the same to s
pub same_does : {S X : Type 0} (stands : Tables → S → Type 0) (d e : S → X × S) (s : S) (after : Tables) (r : Result (Judged X) StoreFail) → d s ≡ e s → Judges stands d s after r → Judges stands e s after r
same_does {S = S} {X = X} stands d e s after (Ok (Same x)) is h = subst (λ (y : X × S). (x ≡ y.0) × (y.1 ≡ s)) is h
same_does {S = S} {X = X} stands d e s after (Ok (Changed x)) is h = subst (λ (y : X × S). (x ≡ y.0) × stands after y.1) is h
same_does stands d e s after (Err f) is h = h

-- ---- what it comes to

module _ {X : Type 0} (users_kept : (t : Tenant) → (job_step t).users ≡ t.users) (does : Doing X) (refused : X) (c : Caller) (now : ℕ) where
  abbrev Returned : Type 0
  Returned = Result (Judged X) StoreFail

  -- the caller is the same user after the step
  still_asks : (t : Tenant) (u : User) → IsAsking c now (asking t now u) → IsAsking c now (asking (job_step t) now u)
  still_asks t u h = record { user = ap (λ (users : List User). user_at users c.user) (users_kept t) ∙ h.user; admin = h.admin; now = h.now }

  -- what is done for the caller is what is done for the user after the step
  called_is : (t : Tenant) (u : User) → IsAsking c now (asking t now u) → called does refused c now t ≡ does (asking (job_step t) now u)
  called_is t u h = ap (λ o. in_case o (refused, t) (λ v. does (asking (job_step t) now v))) h.user

  abbrev does_to : Tenant → Option Tenant → X × Option Tenant
  does_to t s = ((called does refused c now t).0, Some (called does refused c now t).1)

  does_same : (t : Tenant) (u : User) → IsAsking c now (asking t now u) → (s : Option Tenant) → ((does (asking (job_step t) now u)).0, Some (does (asking (job_step t) now u)).1) ≡ does_to t s
  does_same t u h s = ap (λ (r : X × Tenant). (r.0, Some r.1)) (sym (called_is t u h))

  module _ (before mid after : Tables) where
    -- the organisation's rows behind the step
    met : (made : Bool) → (made ≡ false → mid ≡ before) → (q : OrgPlan) (t : Tenant) → StandsIn c.org q before (Some t) → StepsTo c.org t mid (Ok made) → StandsFor c.org mid (Some (job_step t))
    met false same q t s step = (q, subst (λ (x : Tables). StandsIn c.org q x (Some (job_step t))) (sym (same refl)) (subst (λ (x : Tenant). StandsIn c.org q before (Some x)) (sym step) s))
    met true same q t s step = step.1

    judged_behind : (made : Bool) (r : Returned) → (IsSame r → after ≡ mid) → (t : Tenant) → StepsTo c.org t mid (Ok made) → Judges (StandsFor c.org) (does_to t) (Some (job_step t)) after r → Judges (StandsFor c.org) (does_to t) (Some t) after (behind_step made r)
    judged_behind false (Ok (Same x)) same t step h = (h.0, h.1 ∙ ap Some step)
    judged_behind false (Ok (Changed x)) same t step h = h
    judged_behind false (Err e) same t step h = h
    judged_behind true (Ok (Same x)) same t step h = (h.0, subst (λ (y : Tables). StandsFor c.org y (does_to t (Some t)).1) (sym (same tt)) (subst (StandsFor c.org mid) (sym h.1) step.1))
    judged_behind true (Ok (Changed x)) same t step h = h
    judged_behind true (Err e) same t step h = h

    others_behind : (made : Bool) (r : Returned) → (IsSame r → after ≡ mid) → KeepsOthers c.org before mid → (IsChange r → KeepsOthers c.org mid after) → IsChange (behind_step made r) → KeepsOthers c.org before after
    others_behind false (Ok (Same x)) same first then change = absurd change
    others_behind false (Ok (Changed x)) same first then change = λ place other. then tt place other ∙ first place other
    others_behind false (Err e) same first then change = absurd change
    others_behind true (Ok (Same x)) same first then change = λ place other. ap (λ (y : Tables). map.get y place) (same tt) ∙ first place other
    others_behind true (Ok (Changed x)) same first then change = λ place other. then tt place other ∙ first place other
    others_behind true (Err e) same first then change = absurd change

    -- it is judged over what the step left
    pub judged_so : (made : Bool) (r : Returned) → (made ≡ false → mid ≡ before) → (IsSame r → after ≡ mid) → StepsIn c.org before mid (Ok made) → JudgesAsked does c now mid after r → JudgesCalled does refused c now before after (behind_step made r)
    judged_so made r same_before same_after step h = record {
      others = others_behind made r same_after step.others h.others;
      judged = λ q t u s asks.
          let there = met made same_before q t s (step.stepped q t s) in
          judged_behind made r same_after t (step.stepped q t s)
          (same_does (StandsFor c.org) (λ x. ((does (asking (job_step t) now u)).0, Some (does (asking (job_step t) now u)).1)) (does_to t) (Some (job_step t)) after r (does_same t u asks (Some (job_step t)))
          (h.judged there.0 (job_step t) u there.1 (still_asks t u asks)));
    }

  pub failed_so : (before after : Tables) (e : StoreFail) → StepsIn c.org before after (Err e) → JudgesCalled does refused c now before after (Err e)
  failed_so before after e h = record { others = λ none. absurd none; judged = λ q t u s asks. h.stepped q t s }

-- ---- the draft

ended_same : {X : Type 0} (made : Bool) (r : Result (Judged X) StoreFail) → ended r ≡ ended (behind_step made r)
ended_same false r = refl
ended_same true (Ok (Same x)) = refl
ended_same true (Ok (Changed x)) = refl
ended_same true (Err e) = refl

-- nothing changes where no step was made and the request changes nothing
not_made : {X : Type 0} (made : Bool) (r : Result (Judged X) StoreFail) → IsSame (behind_step made r) → (made ≡ false) × IsSame r
not_made false r h = (refl, h)
not_made true (Ok (Same x)) h = absurd h
not_made true (Ok (Changed x)) h = absurd h
not_made true (Err e) h = absurd h

some_made : {X : Type 0} (made : Bool) (r : Result (Judged X) StoreFail) (mid after : ℕ) → (made ≡ true → 0 < mid) → (IsChange r → 0 < after) → (IsSame r → after ≡ mid) → IsChange (behind_step made r) → 0 < after
some_made false r mid after first then same change = then change
some_made true (Ok (Same x)) mid after first then same change = subst (λ (n : ℕ). 0 < n) (sym (same tt)) (first refl)
some_made true (Ok (Changed x)) mid after first then same change = then tt
some_made true (Err e) mid after first then same change = absurd change

module _ {K X : Type 0} (state : K → KeeperState) (most shown : ℕ) (a b d : Held K) (made : Bool) (r : Result (Judged X) StoreFail) where
  abbrev Most : ℕ
  Most = shown_behind shown (removals_of state data_table a)

  module _ (first : DraftsStep state (Ok made) a b) (second : Drafts state most 0 (beside shown (removals_of state data_table b)) r b d) where
    -- a step that was made, and then what is asked
    makes_then : DraftWorks state (changes_behind most) 0 Most a d → Makes state (changes_behind most) 0 Most (ended r) a d
    makes_then works = record {
      works = works;
      stays = λ trusted is_done clean. second.makes.stays (first.makes.stays trusted refl (second.makes.works.reads.steps.was_clean clean)) is_done clean;
      cause = record {
        rose = λ fell. let rose = second.makes.cause.rose fell in omega (arith, rose, first.makes.works.reads.steps.counts);
        never = λ sure fell. second.makes.cause.never (first.makes.works.reads.steps.sure sure).0 fell;
      };
      quiet = λ none. second.makes.quiet none ∙ first.makes.quiet (λ fell. fell);
    }

    pub drafts_then : DraftWorks state (changes_behind most) 0 Most a d → (made ≡ false → IsSame r → DraftReads state Most a d) → Drafts state (changes_behind most) 0 Most (behind_step made r) a d
    drafts_then works reads = record {
      makes = subst (λ (e : Ending). Makes state (changes_behind most) 0 Most e a d) (ended_same made r) (makes_then works);
      changing = some_made made r (count_of b) (count_of d) (λ is. first.changing (ap Ok is)) second.changing (λ is. ap length (second.same is).changes);
      same = λ is. let none = not_made made r is in reads none.0 none.1;
    }

-- a step that failed, or a caller who isn't found
pub drafts_failed : {K X : Type 0} (state : K → KeeperState) (most shown : ℕ) (a b : Held K) (e : StoreFail) → Makes state most 0 shown (ended {X = Bool} (Err e)) a b → Drafts {X = X} state most 0 shown (Err e) a b
drafts_failed state most shown a b e makes = record { makes = makes; changing = λ none. absurd none; same = λ none. absurd none }
