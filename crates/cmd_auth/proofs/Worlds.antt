-- What is judged in the organisation that is named, in the world.
use Rattle.std.proofs.Common.{◌≡◌, ℕ, ◌<◌, ◌≤◌, ◌^◌, zero, suc, Bool, true, false, [], ◌∷◌, length, Option, Some, None, Result, Ok, Err, refl, sym, ap, subst, ◌∙◌, arith}
use Rattle.std.specs.Prelude.{nat_lt}
use Rattle.base_lemmas.proofs.Numbers.{lt_from_ltb as lower, le_from_ltb as upper}
use Rattle.store_kv.specs.Tables.{Tables}
use Rattle.store_rows.specs.declared.fail.StoreFail.{StoreFail}
use Rattle.model.specs.Callers.{Named, caller_of}
use Rattle.model.specs.Tenant.{Tenant}
use Rattle.model.specs.World.{World, tenant_at, with_tenant}
use Rattle.store_abstraction.specs.Local.{KeepsOthers, StandsFor, StandsIn}
use Rattle.store_abstraction.specs.Operations.{IsChange, Judges}
use Rattle.store_abstraction.specs.Plan.{OrgPlan, Plan, with_plan}
use Rattle.store_abstraction.specs.Stands.{Stands, StandsBy}
use Rattle.store_abstraction.specs.declared.judged.Judged.{Judged}
use Rattle.store_abstraction.specs.declared.judged.Judged.TheVariants.{Changed, Same}
use Rattle.cmd_auth.specs.Asking.{Doing, if_called, named_does, world_does, world_with}
use Rattle.cmd_auth.specs.Judging.{JudgesFor, RefusesUncalled}

-- what `store_abstraction` and `model_requests` say of a world and each of its organisations
pub record WorldLaws : Type 0 where
  pub each : (p : Plan) (m : Tables) (w : World) (n : ℕ) → n < 2 ^ 32 → StandsBy p m w → StandsIn n (p.org n) m (tenant_at w n)
  pub whole : (p : Plan) (m after : Tables) (w : World) (n : ℕ) (t u : Tenant) (q : OrgPlan) → n < 2 ^ 32 → StandsBy p m w → tenant_at w n ≡ Some t → StandsIn n q after (Some u) → KeepsOthers n m after
      → StandsBy (with_plan n q p) after (with_tenant w n u)
  pub nobody : (p : Plan) (m after : Tables) (w : World) (n : ℕ) (q : OrgPlan) → n < 2 ^ 32 → StandsBy p m w → tenant_at w n ≡ None → StandsIn n q after None → KeepsOthers n m after → StandsBy p after w
  pub same : (w : World) (n : ℕ) (t : Tenant) → tenant_at w n ≡ Some t → with_tenant w n t ≡ w

-- no organisation has such a number
pub beyond : (w : World) (n : ℕ) → length w < n → tenant_at w n ≡ None
beyond w zero h = refl
beyond [] (suc n) h = refl
beyond (x ∷ w) (suc zero) h = absurd (omega arith)
beyond (x ∷ w) (suc (suc n)) h = beyond w (suc n) (omega (arith, h))

-- an operation that makes no organisation and ends none
abbrev pub Stays : {X : Type 0} → (Option Tenant → X × Option Tenant) → Option Tenant → Type 0
Stays own None = (own None).1 ≡ None
Stays own (Some t) = (u : Tenant) × ((own (Some t)).1 ≡ Some u)

module _ {X : Type 0} (laws : WorldLaws) (before after : Tables) (w : World) (s : Stands before w) (n : ℕ) (lo : n < 2 ^ 32) (own : Option Tenant → X × Option Tenant) (does : World → X × World) where
  -- what is judged in one organisation, of an operation on the world that does this there and nothing else
  by_tenant : (t : Option Tenant) (r : Result (Judged X) StoreFail) → tenant_at w n ≡ t → does w ≡ ((own t).0, world_with w n (own t).1) → Stays own t → (IsChange r → KeepsOthers n before after) → Judges (StandsFor n) own t after r
      → Judges Stands does w after r
  by_tenant None (Ok (Same x)) at is stays others (e, same) =
      (e ∙ sym (ap (λ (y : X × World). y.0) is), ap (λ (y : X × World). y.1) is ∙ ap (world_with w n) stays)
  by_tenant None (Ok (Changed x)) at is stays others (e, stands) =
      let for_none = subst (StandsFor n after) stays stands in (
        e ∙ sym (ap (λ (y : X × World). y.0) is),
        subst (Stands after) (sym (ap (λ (y : X × World). y.1) is ∙ ap (world_with w n) stays))
            (s.0, laws.nobody s.0 before after w n for_none.0 lo s.1 at for_none.1 (others tt)),
      )
  by_tenant (Some t) (Ok (Same x)) at is stays others (e, same) =
      (e ∙ sym (ap (λ (y : X × World). y.0) is), ap (λ (y : X × World). y.1) is ∙ (ap (world_with w n) same ∙ laws.same w n t at))
  by_tenant (Some t) (Ok (Changed x)) at is (u, stays) others (e, stands) =
      let for_it = subst (StandsFor n after) stays stands in (
        e ∙ sym (ap (λ (y : X × World). y.0) is),
        subst (Stands after) (sym (ap (λ (y : X × World). y.1) is ∙ ap (world_with w n) stays))
            (with_plan n for_it.0 s.0, laws.whole s.0 before after w n t u for_it.0 lo s.1 at for_it.1 (others tt)),
      )
  by_tenant t (Err f) at is stays others h = h

  pub own_world : (r : Result (Judged X) StoreFail) → does w ≡ ((own (tenant_at w n)).0, world_with w n (own (tenant_at w n)).1) → ((t : Option Tenant) → Stays own t) → (IsChange r → KeepsOthers n before after)
      → ((q : OrgPlan) (t : Option Tenant) → StandsIn n q before t → Judges (StandsFor n) own t after r) → Judges Stands does w after r
  own_world r is stays others h = by_tenant (tenant_at w n) r refl is (stays (tenant_at w n)) others (h (s.0.org n) (tenant_at w n) (laws.each s.0 before w n lo s.1))

-- who is refused
pub refused_world : {X : Type 0} (refused : X) (does : World → X × World) (w : World) (after : Tables) (r : Result (Judged X) StoreFail) → does w ≡ (refused, w) → RefusesUncalled refused r → Judges Stands does w after r
refused_world {X = X} refused does w after (Ok (Same x)) is h = (h ∙ sym (ap (λ (y : X × World). y.0) is), ap (λ (y : X × World). y.1) is)
refused_world refused does w after (Ok (Changed x)) is h = absurd h
refused_world refused does w after (Err f) is h = λ d. cc (h, d)

-- the number of an organisation that there isn't
pub none_beyond : (before : Tables) (w : World) (s : Stands before w) (n : ℕ) → 2 ^ 32 ≤ n → tenant_at w n ≡ None
none_beyond before w s n hi = beyond w n (omega (arith, hi, s.1.world.few))

module _ {X : Type 0} (laws : WorldLaws) (does : Doing X) (refused : X) (now : ℕ) (before after : Tables) (w : World) (s : Stands before w) where
  abbrev its_does : Option Named → World → X × World
  its_does key v = world_does does refused now key v

  abbrev at_tenant : Named → Option Tenant → X × World
  at_tenant n o = let r = named_does does refused now n o in (r.0, world_with w n.org r.1)

  stays_so : (n : Named) (t : Option Tenant) → Stays (named_does does refused now n) t
  stays_so n None = refl
  stays_so n (Some t) = ((if_called does refused now t (caller_of n t)).1, refl)

  pub asked_world : (key : Option Named) (r : Result (Judged X) StoreFail) → JudgesFor does refused now key before after r → Judges Stands (its_does key) w after r
  asked_world None r h = refused_world refused (its_does None) w after r refl h
  asked_world (Some n) r h = by (nat_lt n.org (2 ^ 32)) refl
    where
      by : (b : Bool) → nat_lt n.org (2 ^ 32) ≡ b → Judges Stands (its_does (Some n)) w after r
      by true lo =
          let l : n.org < 2 ^ 32 = lower lo in
          let j = h.0 l in
          own_world laws before after w s n.org l (named_does does refused now n) (its_does (Some n)) r refl (stays_so n) j.others j.judged
      by false hi =
          let l : 2 ^ 32 ≤ n.org = upper hi in
          refused_world refused (its_does (Some n)) w after r (ap (at_tenant n) (none_beyond before w s n.org l)) (h.1 l)
