-- What is read at a key of an organisation is what its tenant has there, for all forms of rows.
use Rattle.std.proofs.Common.{◌≡◌, ℕ, ◌<◌, ◌^◌, zero, suc, Bool, true, false, cond, Option, Some, None, List, [], ◌∷◌, refl, sym, ap, subst, ◌∙◌}
use Rattle.std.specs.Prelude.{IfOk, IfSome, IsErrOf, Result, Ok, Err, is_ok, slice_get}
use Rattle.std.specs.List.{AllByRecursion}
use Rattle.std.specs.Option.{option_and_then, option_map}
use Rattle.std.specs.FinMap as map
use Rattle.std.specs.FinMap.{IsAntisymmetric}
use Rattle.std.specs.Str.{bytes_eq}
use Rattle.std.proofs.lemmas.Slice.Eq.{bytes_eq-Decides}
use Rattle.base_lemmas.proofs.Numbers.{eqb-self as eqb_same}
use Rattle.std.proofs.lemmas.Option.{same_Some as some_is}
use Rattle.store_codec.specs.Shapes.{FitsIn, Val}
use Rattle.store_kv.specs.State.{KeeperCause, KeeperState, Quiet, StaysAfter}
use Rattle.store_kv.specs.Tables.{Tables, place_cmp}
use Rattle.store_rows.specs.declared.fail.StoreFail.{StoreFail}
use Rattle.store_rows.specs.declared.fail.StoreFail.TheVariants.{Keeper, Memory, Damaged}
use Rattle.store_rows.specs.Forms.{Form, row_bytes}
use Rattle.store_rows.specs.Keys.{Key, Version, spell}
use Rattle.store_rows.specs.Reads.{FoundAs, MayStandAt, ReadsAs}
use Rattle.model.specs.Sound.{IsSound}
use Rattle.model.specs.Tenant.{Tenant}
use Rattle.model.specs.World.{World, having_id, tenant_at}
use Rattle.store_abstraction.specs.Calls.{HasFallen, ended, is_done}
use Rattle.store_abstraction.specs.Local.{FindsIn, StandsIn, is_own}
use Rattle.store_abstraction.specs.Plan.{FitsPlan, OrgPlan, Plan}
use Rattle.store_abstraction.specs.Stands.{org_of_key, owned_row, row_at, row_in}
use Rattle.store_abstraction.proofs.Places.{PrefixLaws, part_at, place_is}

-- what is read is what stands there, as `store_rows` says
abbrev pub FindsRow : {U : Type 0} → Form U → Type 0
FindsRow {U} f = (k : Val f.key) (kept : Option (List ℕ)) (there : Option U) (result : Result (Option U) StoreFail) → ReadsAs f k kept result → kept ≡ option_map (row_bytes f) there → MayStandAt f k there → FoundAs f there result

found_tenant : (w : List Tenant) (n : ℕ) (t : Tenant) → AllByRecursion IsSound w → slice_get w n ≡ Some t → IsSound t
found_tenant [] n t h e = absurd cc
found_tenant (x ∷ w) zero t h e = subst IsSound (some_is x t e) h.0
found_tenant (x ∷ w) (suc n) t h e = found_tenant w n t h.1 e

-- a tenant of a sound world is sound
pub sound_tenant : (w : World) (n : ℕ) (t : Tenant) → AllByRecursion IsSound w → tenant_at w n ≡ Some t → IsSound t
sound_tenant w zero t h e = absurd cc
sound_tenant w (suc n) t h e = found_tenant w n t h e

-- the thing with an id has that id, and what holds of each holds of it
pub found_with_id : {X : Type 0} (id : X → List ℕ) (P : X → Type 0) (xs : List X) (i : List ℕ) (x : X) → AllByRecursion P xs → having_id id xs i ≡ Some x → (id x ≡ i) × P x
found_with_id id P [] i x h e = absurd cc
found_with_id {X = X} id P (y ∷ ys) i x h e = by (found_with_id id P ys i x h.1) (bytes_eq i (id y)) refl
  where
    by : (having_id id ys i ≡ Some x → (id x ≡ i) × P x) → (b : Bool) → bytes_eq i (id y) ≡ b → (id x ≡ i) × P x
    by rest true same =
        let is : y ≡ x = some_is y x (sym (ap (λ (b : Bool). cond b (Some y) (having_id id ys i)) same) ∙ e) in
        subst (λ (z : X). (id z ≡ i) × P z) is (sym ((bytes_eq-Decides i (id y)).0 same), h.0)
    by rest false same = rest (sym (ap (λ (b : Bool). cond b (Some y) (having_id id ys i)) same) ∙ e)

-- the row at a key of an organisation
pub owned_at : (p : Plan) (w : World) (n : ℕ) (k : Key) → org_of_key k ≡ Some n → row_at p w k ≡ option_and_then (λ t. row_in (p.org n) t k) (tenant_at w n)
unfolding row_at
owned_at p w n Version e = absurd cc
owned_at p w n k e = ap (owned_row p w k) e

-- a row that a tenant has at a key of its organisation, or none: `there`
pub record IsRowOf {U : Type 0} (f : Form U) (org : ℕ) (key : Val f.key) (there : OrgPlan → Tenant → Option U) : Type 0 where
  pub owned : org_of_key (f.named key) ≡ Some org
  pub fits : FitsIn f.key key
  pub rows : (p : OrgPlan) (t : Tenant) → row_in p t (f.named key) ≡ option_map (row_bytes f) (there p t)
  pub stands : (p : OrgPlan) (t : Tenant) → IsSound t → FitsPlan p t → MayStandAt f key (there p t)

-- the same of an organisation that is a tenant or isn't there
abbrev pub row_in_org : {U : Type 0} → (OrgPlan → Tenant → Option U) → OrgPlan → Option Tenant → Option U
row_in_org there q t = option_and_then (there q) t

module _ (laws : PrefixLaws) (exact : IsAntisymmetric place_cmp) {U : Type 0} (f : Form U) (org : ℕ) (lo : org < 2 ^ 32) (key : Val f.key) (there : OrgPlan → Tenant → Option U) (h : IsRowOf f org key there) where
  mine : is_own org (f.named key) ≡ true
  mine = rw h.owned (eqb_same org)

  in_tenant : (q : OrgPlan) (o : Option Tenant) → option_and_then (λ (t : Tenant). row_in q t (f.named key)) o ≡ option_map (row_bytes f) (option_and_then (there q) o)
  in_tenant q None = refl
  in_tenant q (Some t) = h.rows q t

  pub kept_there : (q : OrgPlan) (m : Tables) (t : Option Tenant) → StandsIn org q m t → map.get m (spell (f.named key)) ≡ option_map (row_bytes f) (option_and_then (there q) t)
  kept_there q m t s =
      let fits = f.fits key h.fits in
      sym (part_at exact org m (spell (f.named key)) ∙ ap (λ b. cond b (map.get m (spell (f.named key))) None) (place_is laws org (f.named key) lo fits ∙ mine))
      ∙ s.rows.at (f.named key) fits ∙ ap (λ b. cond b (option_and_then (λ (u : Tenant). row_in q u (f.named key)) t) None) mine ∙ in_tenant q t

  pub stands_there : (q : OrgPlan) (m : Tables) (t : Option Tenant) → StandsIn org q m t → MayStandAt f key (option_and_then (there q) t)
  stands_there q m None s = tt
  stands_there q m (Some t) s = h.stands q t s.sound s.plan

  -- what is read at the key is what the tenant has there
  pub row_finds : FindsRow f → (m : Tables) (r : Result (Option U) StoreFail) → ReadsAs f key (map.get m (spell (f.named key))) r → FindsIn org (row_in_org there) m r
  row_finds finds m r e = by r (λ q t s. finds key (map.get m (spell (f.named key))) (option_and_then (there q) t) r e (kept_there q m t s) (stands_there q m t s))
    where
      by : (r : Result (Option U) StoreFail) → ((q : OrgPlan) (t : Option Tenant) → StandsIn org q m t → FoundAs f (option_and_then (there q) t) r) → FindsIn org (row_in_org there) m r
      by (Ok u) g = g
      by (Err Damaged) g = g
      by (Err Keeper) g = tt
      by (Err Memory) g = tt

-- the same value by other words
pub found_same : {X : Type 0} (n : ℕ) (v u : OrgPlan → Option Tenant → X) (m : Tables) (r : Result X StoreFail) → ((q : OrgPlan) (t : Option Tenant) → v q t ≡ u q t) → FindsIn n v m r → FindsIn n u m r
found_same n v u m (Ok x) same h = λ q t s. h q t s ∙ same q t
found_same n v u m (Err Damaged) same h = h
found_same n v u m (Err Keeper) same h = tt
found_same n v u m (Err Memory) same h = tt

-- a row that is read has the key that it was asked by
pub key_found : {U : Type 0} (f : Form U) (k : Val f.key) (kept : Option (List ℕ)) (r : Result (Option U) StoreFail) → ReadsAs f k kept r → IfOk r (λ found. IfSome found (λ u. f.keyed u ≡ k))
key_found f k kept (Ok None) h = tt
key_found f k kept (Ok (Some u)) h = h.has_key
key_found f k kept (Err e) h = tt

-- a call that was done returned `Ok`, and one that fell returned the keeper's failure
pub stays_so : {X : Type 0} (old new : KeeperState) (r : Result X StoreFail) → StaysAfter (is_done (ended r)) old new → StaysAfter (is_ok r) old new
stays_so old new (Ok x) h = h
stays_so old new (Err Damaged) h = h
stays_so old new (Err Keeper) h = h
stays_so old new (Err Memory) h = h

pub quiet_so : {X : Type 0} (old new : KeeperState) (r : Result X StoreFail) → Quiet old new (HasFallen (ended r)) → Quiet old new (IsErrOf r Keeper)
quiet_so {X = X} old new r h none = h (λ f. none (fallen r f))
  where
    fallen : (r : Result X StoreFail) → HasFallen (ended r) → IsErrOf r Keeper
    fallen (Ok x) f = absurd f
    fallen (Err Damaged) f = absurd f
    fallen (Err Keeper) f = refl
    fallen (Err Memory) f = absurd f

pub cause_so : {X : Type 0} (old new : KeeperState) (r : Result X StoreFail) → KeeperCause old new (HasFallen (ended r)) → KeeperCause old new (IsErrOf r Keeper)
cause_so {X = X} old new r h = record { rose = λ failed. h.rose (fallen r failed); never = λ sure failed. h.never sure (fallen r failed) }
  where
    fallen : (r : Result X StoreFail) → IsErrOf r Keeper → HasFallen (ended r)
    fallen (Ok x) f = absurd cc
    fallen (Err Damaged) f = absurd cc
    fallen (Err Keeper) f = tt
    fallen (Err Memory) f = absurd cc
