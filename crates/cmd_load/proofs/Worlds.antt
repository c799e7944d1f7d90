-- What is found and judged in the organisation that is named, in the world.
use Rattle.std.proofs.Common.{◌≡◌, ◌∙◌, ℕ, ◌<◌, ◌≤◌, ◌^◌, zero, suc, Bool, true, false, List, [], ◌∷◌, ◌++◌, Option, Some, None, Result, refl, sym, ap, subst}
use Rattle.std.specs.Prelude.{nat_lt}
use Rattle.base_lemmas.proofs.Numbers.{lt_from_ltb as lower, le_from_ltb as upper}
use Rattle.cmd_auth.proofs.Worlds.{Stays, WorldLaws, none_beyond, own_world, refused_world}
use Rattle.cmd_auth.specs.Asking.{if_called, world_with}
use Rattle.cmd_load_plan.specs.Rows.{refused_line}
use Rattle.cmd_load_plan.specs.declared.plan.LoadPlan.{LoadPlan}
use Rattle.store_kv.specs.Tables.{Tables}
use Rattle.store_rows.specs.declared.fail.StoreFail.{StoreFail}
use Rattle.model.specs.declared.refusal.Refusal.{Refusal}
use Rattle.model.specs.declared.refusal.Refusal.TheVariants.{InvalidSession}
use Rattle.model.specs.Callers.{Named, caller_of}
use Rattle.model.specs.Tenant.{Tenant}
use Rattle.model.specs.World.{World, tenant_at, with_tenant}
use Rattle.store_abstraction.specs.declared.judged.Judged.{Judged}
use Rattle.store_abstraction.specs.Operations.{Judges}
use Rattle.store_abstraction.specs.Stands.{Stands}
use Rattle.cmd_load.specs.Batches.{AskedRow, JudgesRowsFor, done_in_turn, refused_rows, row_asked, row_loaded, named_row, rows_loaded}
use Rattle.cmd_load.specs.Targets.{FindsTarget, FindsTargetFor, LoadObject, named_object, organisation_object}
use Rattle.cmd_load.specs.declared.target.Target.{Target}

-- ---- the object

module _ (laws : WorldLaws) (object : List ℕ) (m : Tables) (w : World) (s : Stands m w) where
  pub target_world : (key : Option Named) (r : Result (Result Target Refusal) StoreFail) → FindsTargetFor key object m r → FindsTarget (named_object key object w) r
  target_world None r h = h
  target_world (Some n) r h = by (nat_lt n.org (2 ^ 32)) refl
    where
      by : (b : Bool) → nat_lt n.org (2 ^ 32) ≡ b → FindsTarget (named_object (Some n) object w) r
      by true lo = let l : n.org < 2 ^ 32 = lower lo in h.0 l (s.0.org n.org) (tenant_at w n.org) (laws.each s.0 m w n.org l s.1)
      by false hi =
          let l : 2 ^ 32 ≤ n.org = upper hi in
          subst (λ (x : Result LoadObject Refusal). FindsTarget x r) (sym (ap (organisation_object n object) (none_beyond m w s n.org l))) (h.1 l)

-- ---- a world with another organisation in the place of one

with_it : (w : World) (n : ℕ) (t u : Tenant) → tenant_at w n ≡ Some t → tenant_at (with_tenant w n u) n ≡ Some u
with_it w zero t u at = absurd cc
with_it [] (suc n) t u at = absurd cc
with_it (x ∷ w) (suc zero) t u at = refl
with_it (x ∷ w) (suc (suc n)) t u at = with_it w (suc n) t u at

with_again : (w : World) (n : ℕ) (t u : Tenant) → with_tenant (with_tenant w n t) n u ≡ with_tenant w n u
with_again w zero t u = refl
with_again [] (suc n) t u = refl
with_again (x ∷ w) (suc zero) t u = refl
with_again (x ∷ w) (suc (suc n)) t u = ap (λ (v : World). x ∷ v) (with_again w (suc n) t u)

-- ---- rows

module _ (n : Named) (p : LoadPlan) where
  abbrev in_named : List AskedRow → Option Tenant → List ℕ × Option Tenant
  in_named rows t = done_in_turn (named_row n p) rows t

  abbrev at_row : World → AskedRow → Option Tenant → List ℕ × World
  at_row w r o = let x = named_row n p r o in (x.0, world_with w n.org x.1)

  -- where there is no such organisation
  none_named : (rows : List AskedRow) → in_named rows None ≡ (refused_rows rows, None)
  unfolding done_in_turn
  none_named [] = refl
  none_named (r ∷ rows) = ap (λ (y : List ℕ × Option Tenant). (refused_line r.number InvalidSession ++ y.0, y.1)) (none_named rows)

  none_rows : (w : World) → tenant_at w n.org ≡ None → (rows : List AskedRow) → rows_loaded (Some n) p rows w ≡ (refused_rows rows, w)
  unfolding done_in_turn
  none_rows w at [] = refl
  none_rows w at (r ∷ rows) =
      let first : row_loaded (Some n) p r w ≡ (refused_line r.number InvalidSession, w) = ap (at_row w r) at in
      ap (λ (x : List ℕ × World). let y = done_in_turn (row_loaded (Some n) p) rows x.1 in (x.0 ++ y.0, y.1)) first
      ∙ ap (λ (y : List ℕ × World). (refused_line r.number InvalidSession ++ y.0, y.1)) (none_rows w at rows)

  -- where there is one
  some_stays : (rows : List AskedRow) (t : Tenant) → Stays (in_named rows) (Some t)
  unfolding done_in_turn
  some_stays [] t = (t, refl)
  some_stays (r ∷ rows) t = some_stays rows (if_called (row_asked p r.number r.cells) (refused_line r.number InvalidSession) r.moment t (caller_of n t)).1

  stays_so : (rows : List AskedRow) (t : Option Tenant) → Stays (in_named rows) t
  stays_so rows None = ap (λ (y : List ℕ × Option Tenant). y.1) (none_named rows)
  stays_so rows (Some t) = some_stays rows t

  some_rows : (same : (w : World) (t : Tenant) → tenant_at w n.org ≡ Some t → with_tenant w n.org t ≡ w) (rows : List AskedRow) (w : World) (t : Tenant) → tenant_at w n.org ≡ Some t
      → rows_loaded (Some n) p rows w ≡ ((in_named rows (Some t)).0, world_with w n.org (in_named rows (Some t)).1)
  unfolding done_in_turn
  some_rows same [] w t at = ap (λ (v : World). ([], v)) (sym (same w t at))
  some_rows same (r ∷ rows) w t at =
      let c = if_called (row_asked p r.number r.cells) (refused_line r.number InvalidSession) r.moment t (caller_of n t) in
      let first : row_loaded (Some n) p r w ≡ (c.0, with_tenant w n.org c.1) = ap (at_row w r) at in
      let rest = some_rows same rows (with_tenant w n.org c.1) c.1 (with_it w n.org t c.1 at) in
      ap (λ (x : List ℕ × World). let y = done_in_turn (row_loaded (Some n) p) rows x.1 in (x.0 ++ y.0, y.1)) first
      ∙ (ap (λ (y : List ℕ × World). (c.0 ++ y.0, y.1)) rest
      ∙ ap (λ (v : World). (c.0 ++ (in_named rows (Some c.1)).0, v)) (again w c.1 (in_named rows (Some c.1)).1 (some_stays rows c.1)))
    where
      again : (w : World) (t : Tenant) (o : Option Tenant) → (u : Tenant) × (o ≡ Some u) → world_with (with_tenant w n.org t) n.org o ≡ world_with w n.org o
      again w t o (u, e) = ap (world_with (with_tenant w n.org t) n.org) e ∙ (with_again w n.org t u ∙ ap (world_with w n.org) (sym e))

-- of no key
unnamed_rows : (p : LoadPlan) (w : World) (rows : List AskedRow) → rows_loaded None p rows w ≡ (refused_rows rows, w)
unfolding done_in_turn
unnamed_rows p w [] = refl
unnamed_rows p w (r ∷ rows) = ap (λ (y : List ℕ × World). (refused_line r.number InvalidSession ++ y.0, y.1)) (unnamed_rows p w rows)

module _ (laws : WorldLaws) (p : LoadPlan) (rows : List AskedRow) (before after : Tables) (w : World) (s : Stands before w) where
  its_rows : (n : Named) (t : Option Tenant) → tenant_at w n.org ≡ t → rows_loaded (Some n) p rows w ≡ ((done_in_turn (named_row n p) rows t).0, world_with w n.org (done_in_turn (named_row n p) rows t).1)
  its_rows n None at =
      none_rows n p w at rows ∙ sym (ap (λ (y : List ℕ × Option Tenant). (y.0, world_with w n.org y.1)) (none_named n p rows))
  its_rows n (Some t) at = some_rows n p (λ w t at. laws.same w n.org t at) rows w t at

  pub rows_world : (key : Option Named) (r : Result (Judged (List ℕ)) StoreFail) → JudgesRowsFor key p rows before after r → Judges Stands (rows_loaded key p rows) w after r
  rows_world None r h = refused_world (refused_rows rows) (rows_loaded None p rows) w after r (unnamed_rows p w rows) h
  rows_world (Some n) r h = by (nat_lt n.org (2 ^ 32)) refl
    where
      by : (b : Bool) → nat_lt n.org (2 ^ 32) ≡ b → Judges Stands (rows_loaded (Some n) p rows) w after r
      by true lo =
          let l : n.org < 2 ^ 32 = lower lo in
          let j = h.0 l in
          own_world laws before after w s n.org l (done_in_turn (named_row n p) rows) (rows_loaded (Some n) p rows) r (its_rows n (tenant_at w n.org) refl) (stays_so n p rows) j.others j.judged
      by false hi =
          let l : 2 ^ 32 ≤ n.org = upper hi in
          refused_world (refused_rows rows) (rows_loaded (Some n) p rows) w after r (none_rows n p w (none_beyond before w s n.org l) rows) (h.1 l)
