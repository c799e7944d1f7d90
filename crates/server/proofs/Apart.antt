-- A message over tables in which the rows of some organisations may be anything.
use Rattle.std.proofs.Common.{◌≡◌, ◌≢◌, ℕ, zero, suc, ◌<◌, ◌≤◌, ◌^◌, Bool, true, false, List, [], ◌∷◌, Option, Some, None, Result, Ok, Err, refl, sym, ap, subst, ◌∙◌, eqb, arith, length}
use Rattle.std.specs.Prelude.{nat_lt}
use Rattle.std.specs.Option.{option_map}
use Rattle.std.proofs.lemmas.Bool.{eqb-true, eqb-false}
use Rattle.base_lemmas.proofs.Bools.{by_answer as pick}
use Rattle.base_lemmas.proofs.Numbers.{lt_from_ltb as lower, le_from_ltb as upper}
use Rattle.store_kv.specs.State.{KeeperState, Tells}
use Rattle.store_kv.specs.Tables.{Tables}
use Rattle.store_rows.specs.declared.fail.StoreFail.{StoreFail}
use Rattle.model_requests.specs.Answered.{answered}
use Rattle.model.specs.Callers.{Named}
use Rattle.model.specs.declared.refusal.Refusal.TheVariants.{InvalidSession}
use Rattle.model.specs.Step.{Message, answer_in, key_in, org_named, refusal_reply}
use Rattle.model.specs.Tenant.{Tenant}
use Rattle.model.specs.World.{World, tenant_at, with_tenant}
use Rattle.store_abstraction.specs.Local.{KeepsOthers, StandsFor, StandsIn}
use Rattle.store_abstraction.specs.Operations.{Does, DoesIn}
use Rattle.store_abstraction.specs.Plan.{Plan}
use Rattle.store_abstraction.specs.Stands.{Stands, StandsBy}
use Rattle.server.specs.Own.{DoesBy, DoesUnnamed, own_does, unnamed_bytes}
use Rattle.server.specs.Requests.{does}
use Rattle.server.specs.Senses.{StandsBut, all_but, is_apart}
use Rattle.server.proofs.Elsewhere.{PlaceLaws, elsewhere}
use Rattle.server.proofs.Worlds.{beyond, beyond_step, does_named, does_of, done_so, step_unnamed, world_with}

-- what `model` says of a world with another tenant in it
pub record TenantLaws : Type 0 where
  pub put : (w : World) (n : ℕ) (t u : Tenant) → tenant_at w n ≡ Some t → tenant_at (with_tenant w n u) n ≡ Some u
  pub others : (w : World) (n m : ℕ) (u : Tenant) → (m ≡ n → ⊥) → tenant_at (with_tenant w n u) m ≡ tenant_at w m

-- tables that stand for a world, or of which rows of an organisation that is apart are changed
pub whole_stands : ((p : Plan) (m : Tables) (w : World) (n : ℕ) → n < 2 ^ 32 → StandsBy p m w → StandsIn n (p.org n) m (tenant_at w n)) → (m : Tables) (w : World) (apart : ℕ → Bool) → Stands m w → StandsBut apart m w
whole_stands each m w apart s = record { few = omega (arith, s.1.world.few); each = λ n lo _. (s.0.org n, each s.0 m w n lo s.1) }

pub still_stands : PlaceLaws → (m after : Tables) (w : World) (apart : ℕ → Bool) (n : ℕ) → n < 2 ^ 32 → apart n ≡ true → StandsBut apart m w → KeepsOthers n m after → StandsBut apart after w
still_stands places m after w apart n ln is s others = record {
  few = s.few;
  each = λ k lk ek.
      let there = s.each k lk ek in
      (there.0, elsewhere places n k there.0 (tenant_at w k) m after ln lk (λ e. let no = subst (λ (x : ℕ). apart x ≡ false) e ek in absurd (cc (is, no))) there.1 others);
}

with_length : (w : World) (n : ℕ) (u : Tenant) → length (with_tenant w n u) ≡ length w
with_length w zero u = refl
with_length [] (suc n) u = refl
with_length (x ∷ w) (suc zero) u = refl
with_length (x ∷ w) (suc (suc n)) u = ap suc (with_length w (suc n) u)

module _ (places : PlaceLaws) (tenants : TenantLaws) (apart : ℕ → Bool) (m : Message) (close : Bool) (now : ℕ) (old new : KeeperState) (w : World) (s : StandsBut apart old.tables w) where
  none_beyond : (n : ℕ) → 2 ^ 32 ≤ n → tenant_at w n ≡ None
  none_beyond n hi = beyond w n (omega (arith, hi, s.few))

  -- only rows of one organisation changed
  apart_at : (n : ℕ) (v : World) → n < 2 ^ 32 → length v < 2 ^ 32 → KeepsOthers n old.tables new.tables → ((k : ℕ) → k ≢ n → tenant_at v k ≡ tenant_at w k) → (apart n ≡ false → StandsFor n new.tables (tenant_at v n))
      → StandsBut apart new.tables v
  apart_at n v ln few others same here = record { few = few; each = λ k lk ek. at k lk ek }
    where
      at : (k : ℕ) → k < 2 ^ 32 → apart k ≡ false → StandsFor k new.tables (tenant_at v k)
      at k lk ek =
          pick (eqb k n) (λ _. StandsFor k new.tables (tenant_at v k))
          (λ e. let is : k ≡ n = eqb-true k n e in subst (λ (x : ℕ). StandsFor x new.tables (tenant_at v x)) (sym is) (here (subst (λ (x : ℕ). apart x ≡ false) is ek)))
          (λ e.
          let ne : k ≢ n = eqb-false k n e in
          let there = s.each k lk ek in
          subst (StandsFor k new.tables) (sym (same k ne)) (there.0, elsewhere places n k there.0 (tenant_at w k) old.tables new.tables ln lk ne there.1 others))

  apart_after : (n : Named) (t : Option Tenant) → n.org < 2 ^ 32 → tenant_at w n.org ≡ t → KeepsOthers n.org old.tables new.tables → StandsFor n.org new.tables (own_does n m close now t).1
      → StandsBut apart new.tables (world_with w n.org (own_does n m close now t).1)
  apart_after n None lo at others here = apart_at n.org w lo s.few others (λ k ne. refl) (λ _. subst (StandsFor n.org new.tables) (sym at) here)
  apart_after n (Some t) lo at others here =
      let u = (answer_in answered n m now t).1 in
      apart_at n.org (with_tenant w n.org u) lo (subst (λ (x : ℕ). x < 2 ^ 32) (sym (with_length w n.org u)) s.few) others (λ k ne. tenants.others w n.org k u ne)
      (λ _. subst (StandsFor n.org new.tables) (sym (tenants.put w n.org t u at)) here)

  -- in the organisation that is named, and isn't apart
  apart_named : (n : Named) (r : Result (List ℕ) StoreFail) → key_in m ≡ Some n → n.org < 2 ^ 32 → apart n.org ≡ false → DoesIn n.org (own_does n m close now) old new r → Tells old new → Does (StandsBut apart) (does m close now) w new r
  apart_named n (Ok y) e lo is h told =
      let t = tenant_at w n.org in
      let there = s.each n.org lo is in
      let d = h.done told there.0 t there.1 in
      done_so (StandsBut apart) (does m close now) w (world_with w n.org (own_does n m close now t).1) (own_does n m close now t).0 new y (does_named m close now n w e) d.0 d.1.0
      (apart_after n t lo refl (h.others told) d.1.1)
  apart_named n (Err f) e lo is h told =
      let there = s.each n.org lo is in
      let d = h.done told there.0 (tenant_at w n.org) there.1 in
      let k = h.kept told in
      (d.0, (k.0, subst (λ (x : Tables). StandsBut apart x w) (sym k.1) s))

  -- of no organisation
  apart_unnamed : (r : Result (List ℕ) StoreFail) → does m close now w ≡ (unnamed_bytes m close, w) → DoesUnnamed m close old new r → Tells old new → Does (StandsBut apart) (does m close now) w new r
  apart_unnamed (Ok y) e h told =
      let k = h.kept told in
      done_so (StandsBut apart) (does m close now) w w (unnamed_bytes m close) new y e (h.reply told) k.0 (subst (λ (x : Tables). StandsBut apart x w) (sym k.1) s)
  apart_unnamed (Err f) e h told =
      let k = h.kept told in
      ((λ d. h.undamaged told (ap (λ e. Err e) d)), (k.0, subst (λ (x : Tables). StandsBut apart x w) (sym k.1) s))

  named_so : (n : Named) (b : Bool) → key_in m ≡ Some n → is_apart (all_but apart) (org_named m) ≡ b → apart n.org ≡ b
  named_so n b e is = ap (λ (o : Option Named). is_apart (all_but apart) (option_map (λ (k : Named). k.org) o)) (sym e) ∙ is

  -- a message that names none that is apart
  pub by_apart : (key : Option Named) (r : Result (List ℕ) StoreFail) → key_in m ≡ key → is_apart (all_but apart) (org_named m) ≡ false → DoesBy key m close now old new r → Tells old new → Does (StandsBut apart) (does m close now) w new r
  by_apart None r e is h told = apart_unnamed r (does_of m close now w w (refusal_reply InvalidSession) (step_unnamed m close now w e)) h told
  by_apart (Some n) r e is h told = by (nat_lt n.org (2 ^ 32)) refl
    where
      by : (b : Bool) → nat_lt n.org (2 ^ 32) ≡ b → Does (StandsBut apart) (does m close now) w new r
      by true lo = let l : n.org < 2 ^ 32 = lower lo in apart_named n r e l (named_so n false e is) (h.0 l) told
      by false hi = let l : 2 ^ 32 ≤ n.org = upper hi in apart_unnamed r (beyond_step m close now n w e (none_beyond n.org l)) (h.1 l) told

  -- one that is apart
  pub stays_apart : (key : Option Named) (r : Result (List ℕ) StoreFail) → key_in m ≡ key → is_apart (all_but apart) (org_named m) ≡ true → DoesBy key m close now old new r → Tells old new → StandsBut apart new.tables w
  stays_apart None r e is h told = subst (λ (x : Tables). StandsBut apart x w) (sym (h.kept told).1) s
  stays_apart (Some n) r e is h told = by (nat_lt n.org (2 ^ 32)) refl
    where
      by : (b : Bool) → nat_lt n.org (2 ^ 32) ≡ b → StandsBut apart new.tables w
      by true lo =
          let l : n.org < 2 ^ 32 = lower lo in
          still_stands places old.tables new.tables w apart n.org l (named_so n true e is) s ((h.0 l).others told)
      by false hi = subst (λ (x : Tables). StandsBut apart x w) (sym ((h.1 (upper hi)).kept told).1) s
