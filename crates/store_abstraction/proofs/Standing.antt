-- Tables stand for a world as they stand for each of its organisations.
use Rattle.std.proofs.Common.{◌≡◌, ◌∙◌, ◌<◌, ◌^◌, ◌-◌, ℕ, suc, zero, length, arith, true, false, cond, List, Option, Some, None, refl, sym, ap}
use Rattle.std.specs.Prelude.{IfSome, nat_eq}
use Rattle.std.specs.FinMap as map
use Rattle.std.specs.FinMap.{IsAntisymmetric}
use Rattle.std.specs.Option.{option_and_then, option_eq}
use Rattle.std.proofs.lemmas.Bool.{eqb-true}
use Rattle.std.proofs.lemmas.Option.{slice_get_within}
use Rattle.base_lemmas.proofs.Bools.{by_answer as pick}
use Rattle.store_kv.specs.Tables.{Place, Tables, place_cmp}
use Rattle.store_rows.specs.Keys.{FitsKey, Key, spell}
use Rattle.model.specs.Sound.{IsSound}
use Rattle.model.specs.Tenant.{Tenant}
use Rattle.model.specs.World.{World, tenant_at, with_tenant}
use Rattle.store_abstraction.specs.Plan.{FitsPlan, OrgPlan, Plan, with_plan}
use Rattle.store_abstraction.specs.Stands.{StandsBy, org_of_key, row_at, row_in, rows_with}
use Rattle.store_abstraction.proofs.Found.{owned_at, sound_tenant}
use Rattle.store_abstraction.proofs.Parts.{FoundAgain, LeavesOthers, SameRows, changed}
use Rattle.store_abstraction.specs.Local.{KeepsOthers, StandsIn, is_own, is_place_of, part_of, rows_alone}
use Rattle.store_abstraction.proofs.Places.{PrefixLaws, part_at, place_is}

owned_so : (n : ℕ) (o : Option ℕ) → option_eq nat_eq o (Some n) ≡ true → o ≡ Some n
owned_so n None e = absurd cc
owned_so n (Some m) e = ap Some (eqb-true m n e)

module _ (laws : PrefixLaws) (exact : IsAntisymmetric place_cmp) (p : Plan) (m : Tables) (w : World) (n : ℕ) (ln : n < 2 ^ 32) (s : StandsBy p m w) where
  at_one : (k : Key) → FitsKey k → map.get (part_of n m) (spell k) ≡ rows_alone n (p.org n) (tenant_at w n) k
  at_one k f =
      part_at exact n m (spell k)
      ∙ ap (λ b. cond b (map.get m (spell k)) None) (place_is laws n k ln f)
      ∙ pick (is_own n k) (λ b. cond b (map.get m (spell k)) None ≡ cond b (option_and_then (λ (t : Tenant). row_in (p.org n) t k) (tenant_at w n)) None)
      (λ mine. s.rows.at k f ∙ owned_at p w n k (owned_so n (org_of_key k) mine)) (λ _. refl)

  only_one : (place : Place) (row : List ℕ) → map.get (part_of n m) place ≡ Some row → (k : Key) × FitsKey k × (place ≡ spell k)
  only_one place row e =
      pick (is_place_of n place) (λ b. cond b (map.get m place) None ≡ Some row → (k : Key) × FitsKey k × (place ≡ spell k))
      (λ _ here. s.rows.only place row refl here) (λ _ none. absurd (empty none)) (sym (part_at exact n m place) ∙ e)
    where
      empty : ◌≡◌ {A = Option (List ℕ)} None (Some row) → ⊥
      empty e = cc

  sound_one : (o : Option Tenant) → tenant_at w n ≡ o → IfSome o IsSound
  sound_one None e = tt
  sound_one (Some t) e = sound_tenant w n t s.world.tenants e

  plan_one : (o : Option Tenant) → tenant_at w n ≡ o → IfSome o (FitsPlan (p.org n))
  plan_one None e = tt
  plan_one (Some t) e = s.plans n t e

  number_one : (o : Option Tenant) → tenant_at w n ≡ o → IfSome o (λ _. n < 2 ^ 32 - 1)
  number_one None e = tt
  number_one (Some t) e = within n e
    where
      within : (k : ℕ) → tenant_at w k ≡ Some t → k < 2 ^ 32 - 1
      within zero e = absurd cc
      within (suc k) e =
          let there : k < length w = slice_get_within w k t e in
          omega (arith, there, s.world.few)

  pub stands_in : StandsIn n (p.org n) m (tenant_at w n)
  stands_in = record {
    number = number_one (tenant_at w n) refl;
    sound = sound_one (tenant_at w n) refl;
    plan = plan_one (tenant_at w n) refl;
    rows = record { at = at_one; only = λ place row _ e. only_one place row e };
  }

-- tables in which no row of others than of one organisation changes
module _ (laws : PrefixLaws) (exact : IsAntisymmetric place_cmp) (p : Plan) (m after : Tables) (w : World) (n : ℕ) (q : OrgPlan) (ln : n < 2 ^ 32) (s : StandsBy p m w) (u : Option Tenant) (s_in : StandsIn n q after u) (others : KeepsOthers n m after) where
  at_own : (k : Key) → FitsKey k → is_own n k ≡ true → map.get after (spell k) ≡ option_and_then (λ (v : Tenant). row_in q v k) u
  at_own k f mine =
      sym (part_at exact n after (spell k) ∙ ap (λ b. cond b (map.get after (spell k)) None) (place_is laws n k ln f ∙ mine))
      ∙ s_in.rows.at k f ∙ ap (λ b. cond b (option_and_then (λ (v : Tenant). row_in q v k) u) None) mine

  at_other : (k : Key) → FitsKey k → is_own n k ≡ false → map.get after (spell k) ≡ row_at p w k
  at_other k f other = others (spell k) (place_is laws n k ln f ∙ other) ∙ s.rows.at k f

  only_all : (place : Place) (row : List ℕ) → map.get after place ≡ Some row → (k : Key) × FitsKey k × (place ≡ spell k)
  only_all place row e =
      pick (is_place_of n place) (λ b. is_place_of n place ≡ b → (k : Key) × FitsKey k × (place ≡ spell k))
      (λ mine _. s_in.rows.only place row refl (part_at exact n after place ∙ ap (λ b. cond b (map.get after place) None) mine ∙ e))
      (λ other _. s.rows.only place row refl (sym (others place other) ∙ e))
      refl

  -- the organisation is still none
  at_none : u ≡ None → tenant_at w n ≡ None → (k : Key) → FitsKey k → map.get after (spell k) ≡ row_at p w k
  at_none none at k f =
      pick (is_own n k) (λ b. is_own n k ≡ b → map.get after (spell k) ≡ row_at p w k)
      (λ mine _. at_own k f mine ∙ ap (option_and_then (λ (v : Tenant). row_in q v k)) none
      ∙ sym (owned_at p w n k (owned_so n (org_of_key k) mine) ∙ ap (option_and_then (λ (v : Tenant). row_in (p.org n) v k)) at))
      (λ other _. at_other k f other)
      refl

  pub nobody : u ≡ None → tenant_at w n ≡ None → StandsBy p after w
  nobody none at = record { world = s.world; plans = s.plans; opened = s.opened; rows = record { at = at_none none at; only = λ place row _ e. only_all place row e } }

-- the organisation is another tenant
module _ (laws : PrefixLaws) (exact : IsAntisymmetric place_cmp) (p : Plan) (m after : Tables) (w : World) (n : ℕ) (t u : Tenant) (q : OrgPlan) (ln : n < 2 ^ 32) (s : StandsBy p m w) (s_in : StandsIn n q after (Some u)) (others : KeepsOthers n m after) where
  at_all : (k : Key) → FitsKey k → map.get after (spell k) ≡ rows_with n q u (row_at p w) k
  at_all k f =
      pick (is_own n k) (λ b. is_own n k ≡ b → map.get after (spell k) ≡ cond b (row_in q u k) (row_at p w k))
      (λ mine _. at_own laws exact p m after w n q ln s (Some u) s_in others k f mine)
      (λ other _. at_other laws exact p m after w n q ln s (Some u) s_in others k f other)
      refl

  pub whole : FoundAgain → LeavesOthers → SameRows → tenant_at w n ≡ Some t → StandsBy (with_plan n q p) after (with_tenant w n u)
  whole found other same at =
      changed found other same p m after w n t u q s at s_in.sound s_in.plan (record { at = at_all; only = λ place row _ e. only_all laws exact p m after w n q ln s (Some u) s_in others place row e })
