-- The row of a user, a role or a group that is to change: what was read, and what the organisation's rows are once it is put.
use Rattle.std.proofs.Common.{◌≡◌, ◌∙◌, ℕ, Bool, true, false, cond, List, [], ◌∷◌, Option, Some, None, is_none, refl, sym, ap, subst, bytes_eq}
use Rattle.std.specs.Prelude.{Err, IfOk, IfSome, Ok, Result}
use Rattle.std.specs.Option.{option_map}
use Rattle.std.proofs.lemmas.Slice.Eq.{bytes_eq-Decides}
use Rattle.std.proofs.lemmas.Option.{same_Some as some_is}
use Rattle.store_edit.specs.Edits.{Takes}
use Rattle.store_edit.specs.Rows.{change_to}
use Rattle.store_kv.specs.Draft.{Held}
use Rattle.store_kv.specs.State.{KeeperState}
use Rattle.store_kv.specs.Tables.{Tables}
use Rattle.store_rows.specs.declared.fail.StoreFail.{StoreFail}
use Rattle.store_rows.specs.declared.fail.StoreFail.TheVariants.{Damaged, Keeper, Memory}
use Rattle.store_rows.specs.Forms.{FitsForm, Form, key_of, row_bytes}
use Rattle.store_rows.specs.Keys.{Key, key_eq}
use Rattle.model.specs.declared.refusal.Refusal.TheVariants.{NotFound}
use Rattle.model.specs.Rules.{refuse_if}
use Rattle.model.specs.Sound.{IsSound}
use Rattle.model.specs.Tenant.{Tenant}
use Rattle.model.specs.Verdict.{Verdict, accept, done}
use Rattle.model.specs.World.{having_id}
use Rattle.store_abstraction.specs.Calls.{Calls, ended, ended_edit}
use Rattle.store_abstraction.specs.declared.fail.EditFail.{EditFail}
use Rattle.store_abstraction.specs.Local.{FindsIn, StandsIn}
use Rattle.store_abstraction.specs.Plan.{FitsPlan, OrgPlan}
use Rattle.store_abstraction.specs.Stands.{org_of_key, row_in}
use Rattle.people_edit.specs.inner.Changing.{IsRowAs, found}
use Rattle.store_edit.specs.Judging.{Passes}
use Rattle.people_edit.proofs.Joining.{PlanStays, SamePlan}
use Rattle.store_edit.proofs.Putting.{beside, put_is_of}

-- ---- what was read

-- what is read where the tenant has this, or nothing
pub there_passes : {X U : Type 0} (made : X → U) (o : Option X) (org : ℕ) (value : OrgPlan → Option Tenant → Option U) (q : OrgPlan) (t : Tenant) (m : Tables) (r : Result (Option U) StoreFail) (out : Result U EditFail)
    → value q (Some t) ≡ option_map made o → StandsIn org q m (Some t) → FindsIn org value m r → out ≡ found r → Passes (refuse_if (is_none o) NotFound) (IsRowAs made o) out
there_passes {X} {U} made o org value q t m r out is s finds same =
    subst (Passes (refuse_if (is_none o) NotFound) (IsRowAs made o)) (sym same) (by r o is finds)
  where
    some_none : (u : U) → ◌≡◌ {A = Option U} (Some u) None → ⊥
    some_none u e = cc

    by : (r : Result (Option U) StoreFail) (o : Option X) → value q (Some t) ≡ option_map made o → FindsIn org value m r → Passes (refuse_if (is_none o) NotFound) (IsRowAs made o) (found r)
    by (Ok (Some u)) None is h = absurd (some_none u (h q (Some t) s ∙ is))
    by (Ok (Some u)) (Some x) is h = (refl, record { it = x; is_there = refl; is = some_is u (made x) (h q (Some t) s ∙ is) })
    by (Ok None) None is h = refl
    by (Ok None) (Some x) is h = absurd (some_none (made x) (sym (h q (Some t) s ∙ is)))
    by (Err Damaged) o is h = λ e. h q (Some t) s
    by (Err Keeper) o is h = λ e. absurd cc
    by (Err Memory) o is h = λ e. absurd cc

-- what holds of each row that is read holds of this one
pub found_has : {U : Type 0} (P : U → Type 0) (r : Result (Option U) StoreFail) (out : Result U EditFail) → IfOk r (λ o. IfSome o P) → out ≡ found r → IfOk out P
found_has {U} P r out h same = subst (λ (x : Result U EditFail). IfOk x P) (sym same) (by r h)
  where
    by : (r : Result (Option U) StoreFail) → IfOk r (λ o. IfSome o P) → IfOk (found r) P
    by (Ok (Some u)) h = h
    by (Ok None) h = tt
    by (Err e) h = tt

pub found_so : {U : Type 0} (P Q : U → Type 0) (r : Result U EditFail) → ((u : U) → P u → Q u) → IfOk r P → IfOk r Q
found_so P Q (Ok u) f h = f u h
found_so P Q (Err e) f h = tt

-- the call ended as the read did
pub found_calls : {K U : Type 0} (state : K → KeeperState) (a b : Held K) (r : Result (Option U) StoreFail) (out : Result U EditFail) → Calls state 0 (ended r) a b → out ≡ found r → Calls state 0 (ended_edit out) a b
found_calls {K} {U} state a b r out h same = subst (λ (x : Result U EditFail). Calls state 0 (ended_edit x) a b) (sym same) (by r h)
  where
    by : (r : Result (Option U) StoreFail) → Calls state 0 (ended r) a b → Calls state 0 (ended_edit (found r)) a b
    by (Ok (Some u)) h = h
    by (Ok None) h = h
    by (Err e) h = h

-- ---- what is changed

-- what is found has the id
pub having_its_id : {X : Type 0} (id : X → List ℕ) (xs : List X) (i : List ℕ) (x : X) → having_id id xs i ≡ Some x → id x ≡ i
having_its_id id [] i x e = absurd cc
having_its_id {X} id (y ∷ xs) i x e = by (having_its_id id xs i x) (bytes_eq i (id y)) refl e
  where
    by : (having_id id xs i ≡ Some x → id x ≡ i) → (b : Bool) → bytes_eq i (id y) ≡ b → cond b (Some y) (having_id id xs i) ≡ Some x → id x ≡ i
    by rest true same e = ap id (sym (some_is y x e)) ∙ sym ((bytes_eq-Decides i (id y)).0 same)
    by rest false same e = rest e

-- the row of what changed is that of the tenant then, and all rows but it stay
pub record HasChangedRow {U : Type 0} (f : Form U) (org : ℕ) (q : OrgPlan) (t u : Tenant) (row : U) : Type 0 where
  pub fits : FitsForm f row
  pub own : org_of_key (key_of f row) ≡ Some org
  pub there : row_in q u (key_of f row) ≡ Some (row_bytes f row)
  pub rest : (k : Key) → org_of_key k ≡ Some org → key_eq k (key_of f row) ≡ false → row_in q u k ≡ row_in q t k

pub changed_takes : PlanStays → {U : Type 0} (f : Form U) (org : ℕ) (q : OrgPlan) (t u : Tenant) (v : Verdict) (row : U) → FitsPlan q t → v ≡ accept done u → IsSound v.tenant → u.objects ≡ t.objects → u.job ≡ t.job
    → HasChangedRow f org q t u row → Takes org q t v done SamePlan (change_to f row ∷ [])
changed_takes stays f org q t u v row plan is sound objects job h =
    let takes : Takes org q t (accept done u) done SamePlan (change_to f row ∷ []) = record {
      answer = refl;
      sound = subst IsSound (ap (λ (v : Verdict). v.tenant) is) sound;
      plan = q;
      kept = refl;
      fits = stays q t u objects job plan;
      are = (put_is_of f org q u row h.fits h.own h.there, tt);
      rest = λ k of same. h.rest k of (beside (change_to f row) [] k same).0;
    } in
    subst (λ (y : Verdict). Takes org q t y done SamePlan (change_to f row ∷ [])) (sym is) takes
