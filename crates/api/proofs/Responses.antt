-- A reply that goes with no change, as what a request comes to.
use Rattle.std.proofs.Common.{◌≡◌, ◌≤◌, ℕ, Result, Ok, Err, refl, sym, subst, arith}
use Rattle.std.specs.Prelude.{IfOk, Some}
use Rattle.store_kv.specs.Draft.{DraftReads, DraftTells, Held}
use Rattle.store_kv.specs.State.{KeeperState}
use Rattle.store_kv.specs.Tables.{Tables}
use Rattle.store_rows.specs.declared.fail.StoreFail.{StoreFail}
use Rattle.model.specs.declared.refusal.Refusal.{Refusal}
use Rattle.model.specs.declared.reply.Reply.{Reply}
use Rattle.model_requests.specs.declared.routed.Routed.{Routed}
use Rattle.model.specs.Paths.{Asked}
use Rattle.model.specs.Verdict.{Verdict}
use Rattle.api.specs.Forms.{IsReadReply, IsRequestReply}
use Rattle.api.specs.inner.Answers.{AnswersBy, Refuses, unchanged}
use Rattle.store_abstraction.specs.Calls.{Calls, Ending, Makes, done, ended, ended_by, fell, stopped}
use Rattle.store_abstraction.specs.Local.{StandsIn}
use Rattle.store_abstraction.specs.Operations.{Drafts, IsChange, RepliesAt, Responds}
use Rattle.store_abstraction.specs.Plan.{OrgPlan}
use Rattle.store_abstraction.specs.declared.judged.Judged.{Judged}
use Rattle.model.specs.Bounds.{request_changes, request_gone}

abbrev Returned : Type 0
Returned = Result (Judged Reply) StoreFail

no_change : (r : Result Reply StoreFail) → IsChange (unchanged r) → ⊥
no_change (Ok r) c = c
no_change (Err e) c = c

replies : (org : ℕ) (a : Asked) (v : Verdict) (after : Tables) (r : Result Reply StoreFail) → AnswersBy a v r → RepliesAt org a v after (unchanged r)
replies org a v after (Ok r) h = h
replies org a v after (Err e) h = h

-- what is answered by the verdict
pub read_responds : (org : ℕ) (IsAsking : Asked → Type 0) (verdict : Asked → Verdict) (m after : Tables) (r : Result Reply StoreFail) (result : Returned) → result ≡ unchanged r
    → ((p : OrgPlan) (a : Asked) → StandsIn org p m (Some a.tenant) → IsAsking a → AnswersBy a (verdict a) r) → Responds org IsAsking verdict m after result
read_responds org IsAsking verdict m after r result is h = subst (λ (x : Returned). Responds org IsAsking verdict m after x) (sym is) (record {
  others = λ change. absurd (no_change r change);
  replied = λ p a s asking. replies org a (verdict a) after r (h p a s asking);
})

read_form : (routed : Routed) (r : Result Reply StoreFail) → IfOk r IsReadReply → IfOk (unchanged r) (IsRequestReply routed)
read_form routed (Ok r) h = h
read_form routed (Err e) h = h

pub form_of : (routed : Routed) (r : Result Reply StoreFail) (result : Returned) → result ≡ unchanged r → IfOk r IsReadReply → IfOk result (IsRequestReply routed)
form_of routed r result is h = subst (λ (x : Returned). IfOk x (IsRequestReply routed)) (sym is) (read_form routed r h)

ended_so : (r : Result Reply StoreFail) → ended (unchanged r) ≡ ended r
ended_so (Ok r) = refl
ended_so (Err e) = refl

-- what `store_abstraction` says of reads, and of wider bounds
abbrev pub MakesOf : {K : Type 0} → (K → KeeperState) → Type 0
MakesOf {K} state = (shown : ℕ) (e : Ending) (a b : Held K) → Calls state shown e a b → Makes state 0 0 shown e a b

abbrev pub MostOf : {K : Type 0} → (K → KeeperState) → Type 0
MostOf {K} state =
    (most gone shown more taken larger : ℕ) (e : Ending) (a b : Held K) → most ≤ more → gone ≤ taken → (DraftTells state a b → shown ≤ larger) → Makes state most gone shown e a b → Makes state more taken larger e a b

module _ {K : Type 0} (state : K → KeeperState) (makes : MakesOf state) (most_of : MostOf state) (shown larger : ℕ) (few : shown ≤ larger) (old new : Held K) where
  read_drafts : (r : Result Reply StoreFail) → Calls state shown (ended r) old new → ((h : DraftReads state shown old new) → DraftReads state larger old new) → Drafts state request_changes request_gone larger (unchanged r) old new
  read_drafts r h wider = record {
    makes = subst (λ (e : Ending). Makes state request_changes request_gone larger e old new) (sym (ended_so r)) (most_of 0 0 shown request_changes request_gone larger (ended r) old new (omega arith) (omega arith) (λ _. few) (makes shown (ended r) old new h));
    changing = λ change. absurd (no_change r change);
    same = λ _. wider h.reads;
  }

  pub drafts_of : (r : Result Reply StoreFail) (result : Returned) → result ≡ unchanged r → Calls state shown (ended r) old new → Drafts state request_changes request_gone larger result old new
  drafts_of r result is h = subst (λ (x : Returned). Drafts state request_changes request_gone larger x old new) (sym is) (read_drafts r h wide)
    where
      wide : (h : DraftReads state shown old new) → DraftReads state larger old new
      wide h = record { same_reference = h.same_reference; changes = h.changes; reads = h.reads; shows = λ told. let e = h.shows told in omega (arith, e, few) }

-- ---- refusals of a draft that wasn't touched

pub refused_calls : {K : Type 0} (state : K → KeeperState) → ((shown : ℕ) (e : Ending) (a b : Held K) → (e ≡ fell → ⊥) → Calls state shown done a b → Calls state shown e a b) → ((e : Ending) (a : Held K) → e ≡ done → Calls state 0 e a a)
    → (why : Refusal) (r : Result Reply StoreFail) (a : Held K) → Refuses why r → Calls state 0 (ended r) a a
refused_calls state weaker none why (Ok r) a h = none done a refl
refused_calls state weaker none why (Err e) a h = subst (λ (f : StoreFail). Calls state 0 (ended_by f) a a) (sym h) (weaker 0 stopped a a (λ e. cc) (none done a refl))
