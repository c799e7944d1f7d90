-- What is asked in the organisation that is named, by who is found there.
use Rattle.std.proofs.Common.{◌≡◌, ℕ, ◌<◌, ◌^◌, Bool, true, false, List, [], ◌∷◌, Option, Some, None, Result, Ok, Err, refl, sym, ap, subst, ◌∙◌}
use Rattle.std.proofs.lemmas.Slice.Eq.{bytes_eq-Decides}
use Rattle.std.specs.Prelude.{if◌then◌else◌}
use Rattle.std.specs.Option.{option_and_then}
use Rattle.std.specs.Str.{bytes_eq}
use Rattle.store_kv.specs.Tables.{Tables}
use Rattle.store_rows.specs.declared.fail.StoreFail.{StoreFail}
use Rattle.store_rows.specs.declared.fail.StoreFail.TheVariants.{Damaged, Keeper, Memory}
use Rattle.model.specs.declared.caller.Caller.{Caller}
use Rattle.model.specs.Callers.{Named, admitted, caller_of}
use Rattle.model.specs.Tenant.{Tenant, User}
use Rattle.model.specs.World.{user_at}
use Rattle.people_edit.specs.People.{FindsCaller, FindsNamed, caller_among}
use Rattle.store_abstraction.specs.Local.{FindsIn, KeepsOthers, StandsFor, StandsIn}
use Rattle.store_abstraction.specs.Operations.{IsChange, Judges}
use Rattle.store_abstraction.specs.Plan.{OrgPlan}
use Rattle.store_abstraction.specs.declared.judged.Judged.{Judged}
use Rattle.store_abstraction.specs.declared.judged.Judged.TheVariants.{Changed, Same}
use Rattle.model.specs.Asker.{IsAsking}
use Rattle.model.specs.Asker.{asking}
use Rattle.cmd_auth.specs.Asking.{Doing, called, if_called, named_does}
use Rattle.cmd_auth.specs.Judging.{JudgesFor, JudgesCalled, JudgesIn, RefusesUncalled}

-- ---- who calls

-- the user whose secret it is
record Admits (n : Named) (t : Tenant) (c : Caller) : Type 0 where
  user : User
  there : user_at t.users n.user ≡ Some user
  same : c ≡ record { org = n.org; user = user.id; admin = user.admin }

admits : (n : Named) (t : Tenant) (c : Caller) → Some c ≡ caller_of n t → Admits n t c
admits n t c e = by (user_at t.users n.user) refl e
  where
    by_digest : (u : User) → user_at t.users n.user ≡ Some u → (b : Bool) → Some c ≡ (if b then Some (record { org = n.org; user = u.id; admin = u.admin }) else None) → Admits n t c
    by_digest u there true e = record { user = u; there = there; same = cc }
    by_digest u there false e = absurd cc

    by : (o : Option User) → user_at t.users n.user ≡ o → Some c ≡ option_and_then (admitted n) o → Admits n t c
    by None there e = absurd cc
    by (Some u) there e = by_digest u there _ e

has_id : (users : List User) (i : List ℕ) (u : User) → user_at users i ≡ Some u → i ≡ u.id
has_id [] i u e = absurd cc
has_id (x ∷ xs) i u e = by (bytes_eq i x.id) refl (has_id xs i u)
  where
    by : (b : Bool) → bytes_eq i x.id ≡ b → (user_at xs i ≡ Some u → i ≡ u.id) → i ≡ u.id
    by true same rest =
        let is : x ≡ u = first (sym (ap (λ b. if b then Some x else user_at xs i) same) ∙ e) in
        (bytes_eq-Decides i x.id).0 same ∙ ap (λ (y : User). y.id) is
      where
        first : Some x ≡ Some u → x ≡ u
        first e = cc
    by false same rest = rest (sym (ap (λ b. if b then Some x else user_at xs i) same) ∙ e)

asks_so : (n : Named) (t : Tenant) (c : Caller) (now : ℕ) (h : Admits n t c) → IsAsking c now (asking t now h.user)
asks_so n t c now h = record {
  user = subst (λ (i : List ℕ). user_at t.users i ≡ Some h.user) (has_id t.users n.user h.user h.there ∙ sym (ap (λ (x : Caller). x.user) h.same)) h.there;
  admin = sym (ap (λ (x : Caller). x.admin) h.same);
  now = refl;
}

-- ---- in the organisation that is named

-- an operation that does the same to s
same_does : {S X : Type 0} (stands : Tables → S → Type 0) (d e : S → X × S) (s : S) (after : Tables) (r : Result (Judged X) StoreFail) → d s ≡ e s → Judges stands d s after r → Judges stands e s after r
same_does {S = S} {X = X} stands d e s after (Ok (Same x)) is h = subst (λ (y : X × S). (x ≡ y.0) × (y.1 ≡ s)) is h
same_does {S = S} {X = X} stands d e s after (Ok (Changed x)) is h = subst (λ (y : X × S). (x ≡ y.0) × stands after y.1) is h
same_does stands d e s after (Err f) is h = h

module _ {X : Type 0} (does : Doing X) (refused : X) (now : ℕ) (n : Named) (before after : Tables) where
  abbrev Returned : Type 0
  Returned = Result (Judged X) StoreFail

  abbrev its_does : Option Tenant → X × Option Tenant
  its_does t = named_does does refused now n t

  abbrev at_caller : Tenant → Option Caller → X × Option Tenant
  at_caller t o = let r = if_called does refused now t o in (r.0, Some r.1)

  -- where the caller is found, and where none is
  does_so : (t : Tenant) (o : Option Caller) → caller_of n t ≡ o → its_does (Some t) ≡ at_caller t o
  does_so t o e = ap (at_caller t) e

  -- a caller was found
  called_named : (c : Caller) (r : Returned) → n.org < 2 ^ 32 → FindsNamed n before (Ok (Some c)) → JudgesCalled does refused c now before after r → JudgesIn does refused now n before after r
  called_named c r lo found h = record {
    others = λ change. subst (λ (k : ℕ). KeepsOthers k before after) found.own (h.others change);
    judged = λ q t s. by q t s (found.finds lo q t s);
  }
    where
      by : (q : OrgPlan) (t : Option Tenant) → StandsIn n.org q before t → Some c ≡ caller_among n t → Judges (StandsFor n.org) its_does t after r
      by q None s e = absurd cc
      by q (Some t) s e =
          let a = admits n t c e in
          let judged = h.judged q t a.user (subst (λ (k : ℕ). StandsIn k q before (Some t)) (sym found.own) s) (asks_so n t c now a) in
          same_does (StandsFor n.org) (λ x. ((called does refused c now t).0, Some (called does refused c now t).1)) its_does (Some t) after r (sym (does_so t (Some c) (sym e)))
          (subst (λ (k : ℕ). Judges (StandsFor k) (λ x. ((called does refused c now t).0, Some (called does refused c now t).1)) (Some t) after r) found.own judged)

  -- none was found, and who asks is refused
  refused_so : (t : Option Tenant) (r : Returned) → None ≡ caller_among n t → RefusesUncalled refused r → Judges (StandsFor n.org) its_does t after r
  refused_so None (Ok (Same x)) e h = (h, refl)
  refused_so (Some t) (Ok (Same x)) e h =
      let is = does_so t None (sym e) in
      (h ∙ sym (ap (λ (s : X × Option Tenant). s.0) is), ap (λ (s : X × Option Tenant). s.1) is)
  refused_so t (Ok (Changed x)) e h = absurd h
  refused_so t (Err f) e h = λ d. cc (h, d)

  no_change : (r : Returned) → RefusesUncalled refused r → IsChange r → ⊥
  no_change (Ok (Same x)) h c = c
  no_change (Ok (Changed x)) h c = h
  no_change (Err f) h c = c

  uncalled_named : (r : Returned) → n.org < 2 ^ 32 → FindsNamed n before (Ok None) → RefusesUncalled refused r → JudgesIn does refused now n before after r
  uncalled_named r lo found h = record { others = λ change. absurd (no_change r h change); judged = λ q t s. refused_so t r (found.finds lo q t s) h }

  -- the search failed
  failed_named : (f : StoreFail) → n.org < 2 ^ 32 → FindsIn n.org (λ q t. caller_among n t) before (Err f) → JudgesIn does refused now n before after (Err f)
  failed_named Damaged lo h = record { others = λ none. absurd none; judged = λ q t s. absurd (h q t s) }
  failed_named Keeper lo h = record { others = λ none. absurd none; judged = λ q t s d. cc }
  failed_named Memory lo h = record { others = λ none. absurd none; judged = λ q t s d. cc }

no_caller : (c : Caller) → ◌≡◌ {A = Result (Option Caller) StoreFail} (Ok (Some c)) (Ok None) → ⊥
no_caller c e = cc

not_failed : (f : StoreFail) → ◌≡◌ {A = Result (Option Caller) StoreFail} (Err f) (Ok None) → ⊥
not_failed f e = cc

module _ {X : Type 0} (does : Doing X) (refused : X) (now : ℕ) (before after : Tables) where
  pub judged_called : (key : Option Named) (c : Caller) (r : Result (Judged X) StoreFail) → FindsCaller key before (Ok (Some c)) → JudgesCalled does refused c now before after r → JudgesFor does refused now key before after r
  judged_called None c r found h = absurd (no_caller c found)
  judged_called (Some n) c r found h = ((λ lo. called_named does refused now n before after c r lo found h), (λ hi. absurd (no_caller c (found.none hi))))

  pub judged_uncalled : (key : Option Named) (r : Result (Judged X) StoreFail) → FindsCaller key before (Ok None) → RefusesUncalled refused r → JudgesFor does refused now key before after r
  judged_uncalled None r found h = h
  judged_uncalled (Some n) r found h = ((λ lo. uncalled_named does refused now n before after r lo found h), (λ hi. h))

  pub judged_failed : (key : Option Named) (f : StoreFail) → FindsCaller key before (Err f) → JudgesFor does refused now key before after (Err f)
  judged_failed None f found = absurd (not_failed f found)
  judged_failed (Some n) f found = ((λ lo. failed_named does refused now n before after f lo (found.finds lo)), (λ hi. absurd (not_failed f (found.none hi))))

-- out of memory before
pub judged_memory : {X : Type 0} (does : Doing X) (refused : X) (now : ℕ) (before after : Tables) (key : Option Named) → JudgesFor does refused now key before after (Err Memory)
judged_memory does refused now before after None = refl
judged_memory does refused now before after (Some n) = ((λ lo. failed_named does refused now n before after Memory lo tt), (λ hi. refl))
