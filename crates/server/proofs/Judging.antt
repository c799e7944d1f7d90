-- What is judged, by the step of the organisation that a message's key names.
use Rattle.std.proofs.Common.{◌≡◌, ◌⊎◌, inl, inr, ℕ, ◌<◌, ◌^◌, Bool, true, false, List, [], ◌∷◌, Option, Some, None, Result, Ok, Err, refl, sym, ap, subst, ◌∙◌}
use Rattle.std.proofs.lemmas.Slice.Eq.{bytes_eq-Decides}
use Rattle.std.specs.Prelude.{if◌then◌else◌}
use Rattle.std.specs.Option.{option_and_then}
use Rattle.std.specs.Str.{bytes_eq}
use Rattle.store_kv.specs.Tables.{Tables}
use Rattle.store_rows.specs.declared.fail.StoreFail.{StoreFail}
use Rattle.store_rows.specs.declared.fail.StoreFail.TheVariants.{Damaged, Keeper, Memory}
use Rattle.model_requests.specs.Answered.{answered}
use Rattle.model.specs.declared.caller.Caller.{Caller}
use Rattle.model.specs.declared.reply.Reply.{Reply}
use Rattle.model.specs.Callers.{Named, admitted, caller_of}
use Rattle.model.specs.Paths.{Asked}
use Rattle.model_requests.specs.Routing.{routed}
use Rattle.model.specs.Step.{Message, if_called}
use Rattle.model.specs.Tenant.{Tenant, User}
use Rattle.model.specs.World.{user_at}
use Rattle.people_edit.specs.People.{FindsCaller, FindsNamed, caller_among}
use Rattle.api.specs.Forms.{IsRequestReply}
use Rattle.store_abstraction.specs.Local.{FindsIn, KeepsOthers, StandsFor, StandsIn}
use Rattle.store_abstraction.specs.Operations.{IsChange, Judges, RepliesAt, Responds}
use Rattle.store_abstraction.specs.Plan.{OrgPlan}
use Rattle.store_abstraction.specs.declared.judged.Judged.{Judged}
use Rattle.store_abstraction.specs.declared.judged.Judged.TheVariants.{Changed, Same}
use Rattle.model.specs.Asker.{IsAsking}
use Rattle.model.specs.Asker.{asking}
use Rattle.server.specs.Own.{JudgesBy, JudgesCaller, JudgesNamed, JudgesUnnamed, bytes_of, own_does}
use Rattle.server.specs.Requests.{in_bytes}
use Rattle.server.specs.inner.Steps.{IsInForm, JudgesRequest, request_does, verdict_of}

abbrev Returned : Type 0
Returned = Result (Judged (List ℕ)) StoreFail

-- what was judged, in bytes; or it is out of memory
abbrev pub IsBytes : (method : List ℕ) → (close : Bool) → Judged Reply → Returned → Type 0
IsBytes method close j r = (r ≡ Ok (in_bytes method close j)) ⊎ (r ≡ Err Memory)

by_bytes : (P : Returned → Type 0) (method : List ℕ) (close : Bool) (j : Judged Reply) (r : Returned) → IsBytes method close j r → P (Ok (in_bytes method close j)) → P (Err Memory) → P r
by_bytes P method close j r (inl is) given none = subst P (sym is) given
by_bytes P method close j r (inr is) given none = subst P (sym is) none

-- an operation that does the same to s
pub same_does : {S X : Type 0} (stands : Tables → S → Type 0) (d e : S → X × S) (s : S) (after : Tables) (r : Result (Judged X) StoreFail) → d s ≡ e s → Judges stands d s after r → Judges stands e s after r
same_does {S = S} {X = X} stands d e s after (Ok (Same x)) is h = subst (λ (y : X × S). (x ≡ y.0) × (y.1 ≡ s)) is h
same_does {S = S} {X = X} stands d e s after (Ok (Changed x)) is h = subst (λ (y : X × S). (x ≡ y.0) × stands after y.1) is h
same_does stands d e s after (Err f) is h = h

-- ---- a caller's request

module _ (c : Caller) (m : Message) (close : Bool) (now : ℕ) (before after : Tables) where
  replied : (a : Asked) (j : Judged Reply) → RepliesAt c.org a (verdict_of c.org m a) after (Ok j) → Judges (StandsFor c.org) (request_does c.org m close a) (Some a.tenant) after (Ok (in_bytes m.method close j))
  replied a (Same r) h = (ap (bytes_of m close) h.0, ap Some h.1)
  replied a (Changed r) h = (ap (bytes_of m close) h.0, h.1)

  change_of : (j : Judged Reply) → IsChange {X = List ℕ} (Ok (in_bytes m.method close j)) → IsChange (Ok j)
  change_of (Same r) h = h
  change_of (Changed r) h = h

  pub request_judged : (j : Judged Reply) (r : Returned) → IsBytes m.method close j r → Responds c.org (IsAsking c now) (verdict_of c.org m) before after (Ok j) → JudgesRequest c m close now before after r
  request_judged j r is h = record {
    others = by_bytes (λ x. IsChange x → KeepsOthers c.org before after) m.method close j r is (λ change. h.others (change_of j change)) (λ none. absurd none);
    judged = λ q t u s asks. by_bytes (Judges (StandsFor c.org) (request_does c.org m close (asking t now u)) (Some t) after) m.method close j r is (replied (asking t now u) j (h.replied q (asking t now u) s asks)) (λ d. cc);
  }

  pub request_failed : (e : StoreFail) → Responds c.org (IsAsking c now) (verdict_of c.org m) before after (Err e) → JudgesRequest c m close now before after (Err e)
  request_failed e h = record { others = λ none. absurd none; judged = λ q t u s asks. h.replied q (asking t now u) s asks }

-- the reply is of its form
pub reply_judged : (m : Message) (close : Bool) (j : Judged Reply) (r : Returned) → IsBytes m.method close j r → IsRequestReply (routed m.method m.target) j → IsInForm m close r
reply_judged m close j r is h = by_bytes (IsInForm m close) m.method close j r is (j, h, refl) tt

-- ---- who calls

-- the user whose secret it is
record Admits (n : Named) (t : Tenant) (c : Caller) : Type 0 where
  user : User
  there : user_at t.users n.user ≡ Some user
  same : c ≡ record { org = n.org; user = user.id; admin = user.admin }

admits : (n : Named) (t : Tenant) (c : Caller) → Some c ≡ caller_of n t → Admits n t c
admits n t c e = by (user_at t.users n.user) refl e
  where
    by_digest : (u : User) → user_at t.users n.user ≡ Some u → (b : Bool) → Some c ≡ (if b then Some (record { org = n.org; user = u.id; admin = u.admin }) else None) → Admits n t c
    by_digest u there true e = record { user = u; there = there; same = cc }
    by_digest u there false e = absurd cc

    by : (o : Option User) → user_at t.users n.user ≡ o → Some c ≡ option_and_then (admitted n) o → Admits n t c
    by None there e = absurd cc
    by (Some u) there e = by_digest u there _ e

has_id : (users : List User) (i : List ℕ) (u : User) → user_at users i ≡ Some u → i ≡ u.id
has_id [] i u e = absurd cc
has_id (x ∷ xs) i u e = by (bytes_eq i x.id) refl (has_id xs i u)
  where
    by : (b : Bool) → bytes_eq i x.id ≡ b → (user_at xs i ≡ Some u → i ≡ u.id) → i ≡ u.id
    by true same rest =
        let is : x ≡ u = first (sym (ap (λ b. if b then Some x else user_at xs i) same) ∙ e) in
        (bytes_eq-Decides i x.id).0 same ∙ ap (λ (y : User). y.id) is
      where
        first : Some x ≡ Some u → x ≡ u
        first e = cc
    by false same rest = rest (sym (ap (λ b. if b then Some x else user_at xs i) same) ∙ e)

asks_so : (n : Named) (t : Tenant) (c : Caller) (now : ℕ) (h : Admits n t c) → IsAsking c now (asking t now h.user)
asks_so n t c now h = record {
  user = subst (λ (i : List ℕ). user_at t.users i ≡ Some h.user) (has_id t.users n.user h.user h.there ∙ sym (ap (λ (x : Caller). x.user) h.same)) h.there;
  admin = sym (ap (λ (x : Caller). x.admin) h.same);
  now = refl;
}

module _ (n : Named) (m : Message) (close : Bool) (now : ℕ) (before after : Tables) where
  -- the step where the caller is found, and where none is
  step_called : (t : Tenant) (o : Option Caller) → caller_of n t ≡ o → own_does n m close now (Some t) ≡ (bytes_of m close (if_called answered m now o t).0, Some (if_called answered m now o t).1)
  step_called t o e = ap (λ o. (bytes_of m close (if_called answered m now o t).0, Some (if_called answered m now o t).1)) e

  -- a caller was found
  pub named_judged : (c : Caller) (r : Returned) → n.org < 2 ^ 32 → FindsNamed n before (Ok (Some c)) → JudgesCaller c m close now before after r → JudgesNamed n m close now before after r
  named_judged c r lo found h = record {
    others = λ change. subst (λ (k : ℕ). KeepsOthers k before after) found.own (h.others change);
    judged = λ q t s. by q t s (found.finds lo q t s);
  }
    where
      by : (q : OrgPlan) (t : Option Tenant) → StandsIn n.org q before t → Some c ≡ caller_among n t → Judges (StandsFor n.org) (own_does n m close now) t after r
      by q None s e = absurd cc
      by q (Some t) s e =
          let a = admits n t c e in
          let judged = h.judged q t a.user (subst (λ (k : ℕ). StandsIn k q before (Some t)) (sym found.own) s) (asks_so n t c now a) in
          same_does (StandsFor n.org) (λ x. (bytes_of m close (answered c m now t).0, Some (answered c m now t).1)) (own_does n m close now) (Some t) after r (sym (step_called t (Some c) (sym e)))
          (subst (λ (k : ℕ). Judges (StandsFor k) (λ x. (bytes_of m close (answered c m now t).0, Some (answered c m now t).1)) (Some t) after r) found.own judged)

  -- none was found, and the message is refused
  refused_judged : (t : Option Tenant) (r : Returned) → None ≡ caller_among n t → JudgesUnnamed m close r → Judges (StandsFor n.org) (own_does n m close now) t after r
  refused_judged None (Ok (Same x)) e h = (h, refl)
  refused_judged (Some t) (Ok (Same x)) e h =
      let is = step_called t None (sym e) in
      (h ∙ sym (ap (λ (s : List ℕ × Option Tenant). s.0) is), ap (λ (s : List ℕ × Option Tenant). s.1) is)
  refused_judged t (Ok (Changed x)) e h = absurd h
  refused_judged t (Err f) e h = λ d. cc (h, d)

  no_change : (r : Returned) → JudgesUnnamed m close r → IsChange r → ⊥
  no_change (Ok (Same x)) h c = c
  no_change (Ok (Changed x)) h c = h
  no_change (Err f) h c = c

  pub unnamed_judged : (r : Returned) → n.org < 2 ^ 32 → FindsNamed n before (Ok None) → JudgesUnnamed m close r → JudgesNamed n m close now before after r
  unnamed_judged r lo found h = record { others = λ change. absurd (no_change r h change); judged = λ q t s. refused_judged t r (found.finds lo q t s) h }

  -- the search failed
  named_failed : (f : StoreFail) → n.org < 2 ^ 32 → FindsIn n.org (λ q t. caller_among n t) before (Err f) → JudgesNamed n m close now before after (Err f)
  named_failed Damaged lo h = record { others = λ none. absurd none; judged = λ q t s. absurd (h q t s) }
  named_failed Keeper lo h = record { others = λ none. absurd none; judged = λ q t s d. cc }
  named_failed Memory lo h = record { others = λ none. absurd none; judged = λ q t s d. cc }

module _ (m : Message) (close : Bool) (now : ℕ) (before after : Tables) where
  no_caller : (c : Caller) → ◌≡◌ {A = Result (Option Caller) StoreFail} (Ok (Some c)) (Ok None) → ⊥
  no_caller c e = cc

  pub judged_called : (key : Option Named) (c : Caller) (r : Returned) → FindsCaller key before (Ok (Some c)) → JudgesCaller c m close now before after r → JudgesBy key m close now before after r
  judged_called None c r found h = absurd (no_caller c found)
  judged_called (Some n) c r found h = ((λ lo. named_judged n m close now before after c r lo found h), (λ hi. absurd (no_caller c (found.none hi))))

  pub judged_uncalled : (key : Option Named) (r : Returned) → FindsCaller key before (Ok None) → JudgesUnnamed m close r → JudgesBy key m close now before after r
  judged_uncalled None r found h = h
  judged_uncalled (Some n) r found h = ((λ lo. unnamed_judged n m close now before after r lo found h), (λ hi. h))

  not_failed : (f : StoreFail) → ◌≡◌ {A = Result (Option Caller) StoreFail} (Err f) (Ok None) → ⊥
  not_failed f e = cc

  pub judged_failed : (key : Option Named) (f : StoreFail) → FindsCaller key before (Err f) → JudgesBy key m close now before after (Err f)
  judged_failed None f found = absurd (not_failed f found)
  judged_failed (Some n) f found = ((λ lo. named_failed n m close now before after f lo (found.finds lo)), (λ hi. absurd (not_failed f (found.none hi))))
