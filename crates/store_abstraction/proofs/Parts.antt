-- Tables that have no rows, those of one more organisation, or those of another tenant in place of an organisation's.
use Rattle.std.proofs.Common.{◌≡◌, ℕ, zero, suc, ◌+◌, ◌<◌, ◌≤◌, Bool, true, cond, eqb, List, [], ◌∷◌, ◌++◌, length, Option, Some, None, refl, sym, ap, ◌∙◌, subst, arith, add-one, length-append}
use Rattle.std.specs.Prelude.{if◌then◌else◌}
use Rattle.std.specs.List.{AllByRecursion}
use Rattle.std.specs.Option.{option_and_then}
use Rattle.std.proofs.lemmas.Bool.{eqb-false, eqb-true}
use Rattle.std.proofs.Math.Dec.{eqb-zero-suc, eqb-suc-suc}
use Rattle.base_lemmas.proofs.Lists.{each-push as all_push, slice_get-length as get_past}
use Rattle.base_lemmas.proofs.Bools.{by_answer as pick}
use Rattle.std.proofs.lemmas.Option.{same_Some as some_is}
use Rattle.store_kv.specs.Tables.{Tables, no_rows}
use Rattle.store_rows.specs.Forms.{row_bytes}
use Rattle.store_rows.specs.Holds.{Holds, with_row}
use Rattle.store_rows.specs.Keys.{Key, Version, FitsKey}
use Rattle.store_rows.specs.Rows.{version_form}
use Rattle.model.specs.declared.limit.Limit.TheVariants as limit
use Rattle.model.specs.Limits.{limit_number}
use Rattle.model.specs.Sound.{IsSound}
use Rattle.model.specs.Tenant.{Tenant}
use Rattle.model.specs.World.{World, tenant_at, with_tenant}
use Rattle.store_abstraction.specs.Plan.{FitsPlan, OrgPlan, Plan, opened, with_plan}
use Rattle.store_abstraction.specs.Stands.{all_tables, closed, known_version, owned_row, org_of_key, Stands, StandsBy, row_at, row_in, rows_with, version_at}
use Rattle.store_abstraction.proofs.Lookups.{get_push}

-- rows that agree, as `store_rows` says
abbrev pub SameRows : Type 0
SameRows = (reach : ℕ → Bool) (m : Tables) (rows others : Key → Option (List ℕ)) → ((k : Key) → FitsKey k → rows k ≡ others k) → Holds reach m rows → Holds reach m others

-- ---- the rows of an organisation, if there is one with its number

abbrev rows_of : OrgPlan → Key → Option Tenant → Option (List ℕ)
rows_of q k o = option_and_then (λ t. row_in q t k) o

owned : (p : Plan) (w : World) (n : ℕ) (k : Key) → org_of_key k ≡ Some n → row_at p w k ≡ rows_of (p.org n) k (tenant_at w n)
unfolding row_at
owned p w n Version e = absurd cc
owned p w n k e = ap (owned_row p w k) e

pub own : (p : Plan) (w : World) (n : ℕ) (t : Tenant) (k : Key) → tenant_at w n ≡ Some t → org_of_key k ≡ Some n → row_at p w k ≡ row_in (p.org n) t k
own p w n t k at e = owned p w n k e ∙ ap (rows_of (p.org n) k) at

tenant_past : (w : World) → tenant_at w (suc (length w)) ≡ None
tenant_past w = get_past w

pub past : (p : Plan) (w : World) (k : Key) → org_of_key k ≡ Some (length w + 1) → row_at p w k ≡ None
past p w k e =
    owned p w (length w + 1) k e
    ∙ ap (λ (n : ℕ). rows_of (p.org n) k (tenant_at w n)) (add-one (length w))
    ∙ ap (rows_of (p.org (suc (length w))) k) (tenant_past w)

-- ---- tables without rows

none_at : (k : Key) → ◌≡◌ {A = Option (List ℕ)} None (row_at closed [] k)
unfolding row_at
none_at Version = refl
none_at k = none (org_of_key k)
  where
    none : (o : Option ℕ) → ◌≡◌ {A = Option (List ℕ)} None (owned_row closed [] k o)
    none None = refl
    none (Some zero) = refl
    none (Some (suc n)) = refl

no_tenant : (n : ℕ) (t : Tenant) → tenant_at [] n ≡ Some t → ⊥
no_tenant zero t e = cc
no_tenant (suc n) t e = cc

empty_by : SameRows → Holds all_tables no_rows (λ k. None) → StandsBy closed no_rows []
empty_by same h = record {
  world = record { few = omega arith; tenants = tt };
  plans = λ n t e. absurd (no_tenant n t e);
  opened = λ e. refl;
  rows = same all_tables no_rows (λ k. None) (row_at closed []) (λ k f. none_at k) h;
}

pub empty_stands : SameRows → Holds all_tables no_rows (λ k. None) → Stands no_rows []
empty_stands same h = (closed, empty_by same h)

-- ---- one more organisation

tenant_at-push : (w : World) (t : Tenant) (n : ℕ) → tenant_at (w ++ t ∷ []) n ≡ cond (eqb n (length w + 1)) (Some t) (tenant_at w n)
tenant_at-push w t zero = rw (add-one (length w), eqb-zero-suc (length w)) refl
tenant_at-push w t (suc n) = rw (add-one (length w), eqb-suc-suc n (length w)) (get_push w t n)

module _ (p : Plan) (w : World) (t : Tenant) (q : OrgPlan) where
  -- the plan with that of the new organisation
  abbrev grown : Plan
  grown = opened (with_plan (length w + 1) q p)

  push_owned : (k : Key) (n : ℕ) → (if eqb n (length w + 1) then row_in q t k else rows_of (p.org n) k (tenant_at w n)) ≡ rows_of (grown.org n) k (tenant_at (w ++ t ∷ []) n)
  push_owned k n =
      rw (tenant_at-push w t n)
      (pick (eqb n (length w + 1)) (λ b. cond b (row_in q t k) (rows_of (p.org n) k (tenant_at w n)) ≡ rows_of (cond b q (p.org n)) k (cond b (Some t) (tenant_at w n))) (λ e. refl) (λ e. refl))

  push_rows : (k : Key) → with_row Version (version_at true (w ++ t ∷ [])) (rows_with (length w + 1) q t (row_at p w)) k ≡ row_at grown (w ++ t ∷ []) k
  unfolding row_at
  push_rows Version = refl
  push_rows k = push_owned k _

  push_plans : ((n : ℕ) (u : Tenant) → tenant_at w n ≡ Some u → FitsPlan (p.org n) u) → FitsPlan q t → (n : ℕ) (u : Tenant) → tenant_at (w ++ t ∷ []) n ≡ Some u → FitsPlan (grown.org n) u
  push_plans plans fits n u e =
      pick (eqb n (length w + 1)) (λ b. cond b (Some t) (tenant_at w n) ≡ Some u → FitsPlan (cond b q (p.org n)) u)
      (λ _ at. subst (FitsPlan q) (some_is t u at) fits)
      (λ _ at. plans n u at)
      (sym (tenant_at-push w t n) ∙ e)

pub appended : SameRows → (p : Plan) (m after : Tables) (w : World) (t : Tenant) (q : OrgPlan) → StandsBy p m w → length w < limit_number limit.Organisations → IsSound t → FitsPlan q t
    → Holds all_tables after (with_row Version (version_at true (w ++ t ∷ [])) (rows_with (length w + 1) q t (row_at p w)))
    → StandsBy (opened (with_plan (length w + 1) q p)) after (w ++ t ∷ [])
appended same p m after w t q s few sound fits holds = record {
  world = record { few = omega (arith, few, length-append w (t ∷ [])); tenants = all_push IsSound w t s.world.tenants sound };
  plans = push_plans p w t q s.plans fits;
  opened = λ e. absurd cc;
  rows = same all_tables after (with_row Version (version_at true (w ++ t ∷ [])) (rows_with (length w + 1) q t (row_at p w))) (row_at (opened (with_plan (length w + 1) q p)) (w ++ t ∷ [])) (λ k f. push_rows p w t q k) holds;
}

-- ---- another tenant in place of an organisation's

-- what `tenant_laws` says of it: it is found at its place, the others at theirs
abbrev pub FoundAgain : Type 0
FoundAgain = (w : World) (n : ℕ) (t u : Tenant) → tenant_at w n ≡ Some t → tenant_at (with_tenant w n u) n ≡ Some u

abbrev pub LeavesOthers : Type 0
LeavesOthers = (w : World) (n m : ℕ) (u : Tenant) → (m ≡ n → ⊥) → tenant_at (with_tenant w n u) m ≡ tenant_at w m

length-put : (w : World) (n : ℕ) (u : Tenant) → length (with_tenant w n u) ≡ length w
length-put w zero u = refl
length-put [] (suc n) u = refl
length-put (x ∷ w) (suc zero) u = refl
length-put (x ∷ w) (suc (suc n)) u = ap suc (length-put w (suc n) u)

put_none : (n : ℕ) (u : Tenant) → with_tenant [] n u ≡ []
put_none zero u = refl
put_none (suc n) u = refl

all_put : (P : Tenant → Type 0) (w : World) (n : ℕ) (u : Tenant) → AllByRecursion P w → P u → AllByRecursion P (with_tenant w n u)
all_put P w zero u h p = h
all_put P [] (suc n) u h p = h
all_put P (x ∷ w) (suc zero) u h p = (p, h.1)
all_put P (x ∷ w) (suc (suc n)) u h p = (h.0, all_put P w (suc n) u h.1 p)

module _ (put_found : FoundAgain) (put_other : LeavesOthers) (p : Plan) (w : World) (n : ℕ) (t u : Tenant) (q : OrgPlan) (at : tenant_at w n ≡ Some t) where
  put_here : (m : ℕ) → m ≡ n → tenant_at (with_tenant w n u) m ≡ Some u
  put_here m e = subst (λ (j : ℕ). tenant_at (with_tenant w n u) j ≡ Some u) (sym e) (put_found w n t u at)

  put_owned : (k : Key) (m : ℕ) → (if eqb m n then row_in q u k else rows_of (p.org m) k (tenant_at w m)) ≡ rows_of ((with_plan n q p).org m) k (tenant_at (with_tenant w n u) m)
  put_owned k m =
      pick (eqb m n) (λ b. cond b (row_in q u k) (rows_of (p.org m) k (tenant_at w m)) ≡ rows_of (cond b q (p.org m)) k (tenant_at (with_tenant w n u) m))
      (λ e. sym (ap (rows_of q k) (put_here m (eqb-true m n e))))
      (λ e. sym (ap (rows_of (p.org m) k) (put_other w n m u (eqb-false m n e))))

  put_rows : (k : Key) → rows_with n q u (row_at p w) k ≡ row_at (with_plan n q p) (with_tenant w n u) k
  unfolding row_at
  put_rows Version = ap (λ (l : ℕ). if p.opened then Some (row_bytes version_form (record { version = known_version; organisations = l })) else None) (sym (length-put w n u))
  put_rows k = put_owned k _

  put_plans : ((m : ℕ) (v : Tenant) → tenant_at w m ≡ Some v → FitsPlan (p.org m) v) → FitsPlan q u → (m : ℕ) (v : Tenant) → tenant_at (with_tenant w n u) m ≡ Some v → FitsPlan ((with_plan n q p).org m) v
  put_plans plans fits m v e =
      pick (eqb m n) (λ b. FitsPlan (cond b q (p.org m)) v)
      (λ here. subst (FitsPlan q) (some_is u v (sym (put_here m (eqb-true m n here)) ∙ e)) fits)
      (λ there. plans m v (sym (put_other w n m u (eqb-false m n there)) ∙ e))

pub changed : FoundAgain → LeavesOthers → SameRows → (p : Plan) (m after : Tables) (w : World) (n : ℕ) (t u : Tenant) (q : OrgPlan) → StandsBy p m w → tenant_at w n ≡ Some t → IsSound u → FitsPlan q u
    → Holds all_tables after (rows_with n q u (row_at p w)) → StandsBy (with_plan n q p) after (with_tenant w n u)
changed found other same p m after w n t u q s at sound fits holds = record {
  world = record { few = subst (λ (l : ℕ). l ≤ limit_number limit.Organisations) (sym (length-put w n u)) s.world.few; tenants = all_put IsSound w n u s.world.tenants sound };
  plans = put_plans found other p w n t u q at s.plans fits;
  opened = λ e. ap (λ (v : World). with_tenant v n u) (s.opened e) ∙ put_none n u;
  rows = same all_tables after (rows_with n q u (row_at p w)) (row_at (with_plan n q p) (with_tenant w n u)) (λ k f. put_rows found other p w n t u q at k) holds;
}
