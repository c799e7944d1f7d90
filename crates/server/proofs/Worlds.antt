-- What a message comes to in the organisation that its key names, as a step of the world.
use Rattle.std.proofs.Common.{◌≡◌, ◌⊎◌, inl, inr, ℕ, ◌<◌, ◌≤◌, ◌^◌, zero, suc, Bool, true, false, IsTrue, List, [], ◌∷◌, length, Option, Some, None, Result, Ok, Err, refl, sym, ap, subst, ◌∙◌, arith}
use Rattle.std.specs.Prelude.{nat_lt}
use Rattle.base_lemmas.proofs.Numbers.{lt_from_ltb as lower, le_from_ltb as upper}
use Rattle.store_kv.specs.State.{KeeperState, Tells}
use Rattle.store_kv.specs.Tables.{Tables}
use Rattle.store_rows.specs.declared.fail.StoreFail.{StoreFail}
use Rattle.model_requests.specs.Answered.{answered}
use Rattle.model.specs.declared.refusal.Refusal.TheVariants.{InvalidSession}
use Rattle.model.specs.declared.reply.Reply.{Reply}
use Rattle.model.specs.Callers.{Named}
use Rattle.model.specs.Step.{Message, answer_in, in_key, in_org, in_tenant, key_in, refusal_reply}
use Rattle.model.specs.Tenant.{Tenant}
use Rattle.model.specs.World.{World, tenant_at, with_tenant}
use Rattle.store_abstraction.specs.Local.{KeepsOthers, StandsFor, StandsIn}
use Rattle.store_abstraction.specs.Operations.{Does, DoesIn}
use Rattle.store_abstraction.specs.Plan.{OrgPlan, Plan, with_plan}
use Rattle.store_abstraction.specs.Stands.{Stands, StandsBy}
use Rattle.model_requests.specs.Own.{own_step}
use Rattle.model_requests.specs.Step.{step}
use Rattle.server.specs.Own.{DoesBy, DoesUnnamed, bytes_of, own_does, unnamed_bytes}
use Rattle.server.specs.Requests.{does}
use Rattle.server.specs.Senses.{StandsAs, of_all}

-- what `store_abstraction` says of a world and each of its organisations
pub record WorldLaws : Type 0 where
  pub each : (p : Plan) (m : Tables) (w : World) (n : ℕ) → n < 2 ^ 32 → StandsBy p m w → StandsIn n (p.org n) m (tenant_at w n)
  pub whole : (p : Plan) (m after : Tables) (w : World) (n : ℕ) (t u : Tenant) (q : OrgPlan) → n < 2 ^ 32 → StandsBy p m w → tenant_at w n ≡ Some t → StandsIn n q after (Some u) → KeepsOthers n m after
      → StandsBy (with_plan n q p) after (with_tenant w n u)
  pub nobody : (p : Plan) (m after : Tables) (w : World) (n : ℕ) (q : OrgPlan) → n < 2 ^ 32 → StandsBy p m w → tenant_at w n ≡ None → StandsIn n q after None → KeepsOthers n m after → StandsBy p after w

-- the world after an operation of one organisation
abbrev pub world_with : World → ℕ → Option Tenant → World
world_with w n None = w
world_with w n (Some u) = with_tenant w n u

-- no organisation has such a number
pub beyond : (w : World) (n : ℕ) → length w < n → tenant_at w n ≡ None
beyond w zero h = refl
beyond [] (suc n) h = refl
beyond (x ∷ w) (suc zero) h = absurd (omega arith)
beyond (x ∷ w) (suc (suc n)) h = beyond w (suc n) (omega (arith, h))

module _ (m : Message) (close : Bool) (now : ℕ) where
  -- the step of the world where the key names these, or nothing
  pub step_unnamed : (w : World) → key_in m ≡ None → step w m now ≡ (refusal_reply InvalidSession, w)
  unfolding step
  step_unnamed w e = ap (in_key answered w m now) e

  step_named : (n : Named) (w : World) → key_in m ≡ Some n → step w m now ≡ in_org w n.org (answer_in answered n m now)
  unfolding step
  step_named n w e = ap (in_key answered w m now) e

  step_at : (n : Named) (w : World) (t : Option Tenant) → key_in m ≡ Some n → tenant_at w n.org ≡ t → step w m now ≡ ((own_step n m now t).0, world_with w n.org (own_step n m now t).1)
  step_at n w None e at = step_named n w e ∙ ap (in_tenant w n.org (answer_in answered n m now)) at
  step_at n w (Some t) e at = step_named n w e ∙ ap (in_tenant w n.org (answer_in answered n m now)) at

  pub does_of : (w v : World) (r : Reply) → step w m now ≡ (r, v) → does m close now w ≡ (bytes_of m close r, v)
  does_of w v r e = ap (λ (s : Reply × World). (bytes_of m close s.0, s.1)) e

  pub beyond_step : (n : Named) (w : World) → key_in m ≡ Some n → tenant_at w n.org ≡ None → does m close now w ≡ (unnamed_bytes m close, w)
  beyond_step n w e at = does_of w w (refusal_reply InvalidSession) (step_at n w None e at)

  -- in the organisation that is named
  pub does_named : (n : Named) (w : World) → key_in m ≡ Some n → does m close now w ≡ ((own_does n m close now (tenant_at w n.org)).0, world_with w n.org (own_does n m close now (tenant_at w n.org)).1)
  does_named n w e =
      let t = tenant_at w n.org in
      does_of w (world_with w n.org (own_step n m now t).1) (own_step n m now t).0 (step_at n w t e refl)

-- an operation that does the same, in any sense of standing
pub done_so : (stands : Tables → World → Type 0) (d : World → List ℕ × World) (w v : World) (x : List ℕ) (new : KeeperState) (y : List ℕ) → d w ≡ (x, v) → y ≡ x → new.tells → stands new.tables v → Does stands d w new (Ok y)
done_so stands d w v x new y is e tells there = (e ∙ sym (ap (λ (s : List ℕ × World). s.0) is), (tells, subst (stands new.tables) (sym (ap (λ (s : List ℕ × World). s.1) is)) there))

module _ (laws : WorldLaws) (m : Message) (close : Bool) (now : ℕ) (old new : KeeperState) (w : World) (s : Stands old.tables w) where
  -- the number of an organisation that there isn't
  none_beyond : (n : ℕ) → 2 ^ 32 ≤ n → tenant_at w n ≡ None
  none_beyond n hi = beyond w n (omega (arith, hi, s.1.world.few))

  -- tables in which the organisation is what the operation leaves are those of the world with it
  whole_after : (n : Named) (t : Option Tenant) → n.org < 2 ^ 32 → tenant_at w n.org ≡ t → (after : Tables) → KeepsOthers n.org old.tables after → StandsFor n.org after (own_does n m close now t).1
      → Stands after (world_with w n.org (own_does n m close now t).1)
  whole_after n None lo at after others (q, stands) = (s.0, laws.nobody s.0 old.tables after w n.org q lo s.1 at stands others)
  whole_after n (Some t) lo at after others (q, stands) =
      (with_plan n.org q s.0, laws.whole s.0 old.tables after w n.org t (answer_in answered n m now t).1 q lo s.1 at stands others)

  own_at : (n : Named) → n.org < 2 ^ 32 → StandsIn n.org (s.0.org n.org) old.tables (tenant_at w n.org)
  own_at n lo = laws.each s.0 old.tables w n.org lo s.1

  -- in the organisation that is named
  named_world : (n : Named) (r : Result (List ℕ) StoreFail) → key_in m ≡ Some n → n.org < 2 ^ 32 → DoesIn n.org (own_does n m close now) old new r → Tells old new → Does (StandsAs of_all) (does m close now) w new r
  named_world n (Ok y) e lo h told =
      let t = tenant_at w n.org in
      let d = h.done told (s.0.org n.org) t (own_at n lo) in
      done_so Stands (does m close now) w (world_with w n.org (own_does n m close now t).1) (own_does n m close now t).0 new y (does_named m close now n w e) d.0 d.1.0
      (whole_after n t lo refl new.tables (h.others told) d.1.1)
  named_world n (Err f) e lo h told =
      let d = h.done told (s.0.org n.org) (tenant_at w n.org) (own_at n lo) in
      let k = h.kept told in
      (d.0, (k.0, subst (λ (x : Tables). Stands x w) (sym k.1) s))

  -- of no organisation
  unnamed_world : (r : Result (List ℕ) StoreFail) → does m close now w ≡ (unnamed_bytes m close, w) → DoesUnnamed m close old new r → Tells old new → Does (StandsAs of_all) (does m close now) w new r
  unnamed_world (Ok y) e h told =
      let k = h.kept told in
      done_so Stands (does m close now) w w (unnamed_bytes m close) new y e (h.reply told) k.0 (subst (λ (x : Tables). Stands x w) (sym k.1) s)
  unnamed_world (Err f) e h told =
      let k = h.kept told in
      ((λ d. h.undamaged told (ap (λ e. Err e) d)), (k.0, subst (λ (x : Tables). Stands x w) (sym k.1) s))

  pub by_world : (key : Option Named) (r : Result (List ℕ) StoreFail) → key_in m ≡ key → DoesBy key m close now old new r → Tells old new → Does (StandsAs of_all) (does m close now) w new r
  by_world None r e h told = unnamed_world r (does_of m close now w w (refusal_reply InvalidSession) (step_unnamed m close now w e)) h told
  by_world (Some n) r e h told = by (nat_lt n.org (2 ^ 32)) refl
    where
      by : (b : Bool) → nat_lt n.org (2 ^ 32) ≡ b → Does (StandsAs of_all) (does m close now) w new r
      by true lo = let l : n.org < 2 ^ 32 = lower lo in named_world n r e l (h.0 l) told
      by false hi = let l : 2 ^ 32 ≤ n.org = upper hi in unnamed_world r (beyond_step m close now n w e (none_beyond n.org l)) (h.1 l) told

  -- a crash leaves what it might have left before, or the tables of the step
  pub crash_world : (key : Option Named) (r : Result (List ℕ) StoreFail) → key_in m ≡ key → DoesBy key m close now old new r → old.tells → IsTrue old.trusted → IsTrue new.is_clean → (left : Tables) → new.may_leave left
      → old.may_leave left ⊎ Stands left (step w m now).1
  crash_world None r e h tells trusted clean left may = inl (h.crash tells trusted clean left may)
  crash_world (Some n) r e h tells trusted clean left may = by (nat_lt n.org (2 ^ 32)) refl
    where
      by : (b : Bool) → nat_lt n.org (2 ^ 32) ≡ b → old.may_leave left ⊎ Stands left (step w m now).1
      by true lo =
          let l : n.org < 2 ^ 32 = lower lo in
          let t = tenant_at w n.org in
          elim ((h.0 l).crash tells trusted clean left may) [
            | inl before ↦ inl before
            | inr (others, stands) ↦ inr (subst (λ (x : Reply × World). Stands left x.1) (sym (step_at m close now n w t e refl)) (whole_after n t l refl left others (stands (s.0.org n.org) t (own_at n l))))
          ]
      by false hi = let l : 2 ^ 32 ≤ n.org = upper hi in inl ((h.1 l).crash tells trusted clean left may)
