-- What is told of a change is what the tenant has, by its row and the layout of its object.
use Rattle.std.proofs.Common.{◌≡◌, ◌∙◌, ℕ, zero, suc, ◌+◌, List, [], ◌∷◌, map, Option, None, Some, refl, sym, ap, subst}
use Rattle.std.specs.Prelude.{Err, Ok, Result, slice_get}
use Rattle.std.specs.List.{enumerate_from}
use Rattle.std.specs.Option.{option_and_then, option_map}
use Rattle.std.proofs.lemmas.Option.{same_Some as some_is}
use Rattle.store_kv.specs.Tables.{Tables}
use Rattle.store_rows.specs.declared.fail.StoreFail.{StoreFail}
use Rattle.store_rows.specs.declared.fail.StoreFail.TheVariants.{Damaged, Keeper, Memory}
use Rattle.store_rows.specs.declared.job.JobRow.{JobRow}
use Rattle.model.specs.Cases.{in_case}
use Rattle.model.specs.Objects.{object_numbered}
use Rattle.model.specs.Tenant.{Field, Job, Object, Tenant}
use Rattle.retype_request.specs.declared.state.ChangeState.{ChangeState}
use Rattle.retype_request.specs.inner.States.{state_by}
use Rattle.retype_request.specs.States.{state_in}
use Rattle.store_abstraction.specs.declared.layout.FieldPlace.{FieldPlace}
use Rattle.store_abstraction.specs.declared.layout.Layout.{Layout}
use Rattle.store_abstraction.specs.Layouts.{layout_of, own_change_row, own_layout, place_of}
use Rattle.store_abstraction.specs.Local.{FindsIn, StandsIn}
use Rattle.store_abstraction.specs.Metadata.{job_of}
use Rattle.store_abstraction.specs.Plan.{OrgPlan}

-- what is told of the change of an organisation, if it ever made one
abbrev pub told : OrgPlan → Option Tenant → Option ChangeState
told q t = option_and_then (λ u. option_map (state_in u) u.job) t

names_back : (q : OrgPlan) (n k : ℕ) (fields : List Field) (i : ℕ)
    → in_case (slice_get (map (place_of q n) (enumerate_from k fields)) i) [] (λ (f : FieldPlace). f.name) ≡ in_case (slice_get fields i) [] (λ (f : Field). f.name)
names_back q n k [] zero = refl
names_back q n k [] (suc i) = refl
names_back q n k (f ∷ fields) zero = refl
names_back q n k (f ∷ fields) (suc i) = names_back q n (k + 1) fields i

state_is : (org : ℕ) (q : OrgPlan) (t : Tenant) (j : Job) → state_by (job_of org q j) (own_layout org j.object q (Some t)) ≡ state_in t j
unfolding own_layout
state_is org q t j = by (object_numbered t j.object)
  where
    by : (o : Option Object)
        → state_by (job_of org q j) (option_map (layout_of org q t) (option_map (λ (x : Object). record { number = j.object; object = x }) o))
        ≡ record {
          object = in_case o [] (λ (o : Object). o.name);
          field = in_case (option_and_then (λ (o : Object). slice_get o.fields j.field) o) [] (λ (f : Field). f.name);
          phase = j.phase;
          outcome = j.outcome;
          failed = j.failed;
        }
    by None = refl
    by (Some o) = ap (λ (name : List ℕ). record { object = o.name; field = name; phase = j.phase; outcome = j.outcome; failed = j.failed }) (names_back q j.object 0 o.fields j.field)

-- there never was a change
none_told : (org : ℕ) (q : OrgPlan) (t : Option Tenant) → None ≡ own_change_row org q t → None ≡ told q t
unfolding own_change_row
none_told org q None e = refl
none_told org q (Some t) e = by t.job e
  where
    by : (job : Option Job) → None ≡ option_map (job_of org q) job → None ≡ option_map (state_in t) job
    by None e = refl
    by (Some j) e = absurd cc

pub none_found : (org : ℕ) (m : Tables) (r : Result (Option JobRow) StoreFail) (found : Option JobRow) → FindsIn org (own_change_row org) m r → r ≡ Ok found → found ≡ None → FindsIn org told m (Ok None)
none_found org m r found h was none = λ q t s. none_told org q t (sym none ∙ subst (FindsIn org (own_change_row org) m) was h q t s)

-- there was one
one_told : (org : ℕ) (row : JobRow) (q : OrgPlan) (t : Option Tenant) → Some row ≡ own_change_row org q t → ◌≡◌ {A = Option ChangeState} (Some (state_by row (own_layout org row.object q t))) (told q t)
unfolding own_change_row
one_told org row q None e = absurd cc
one_told org row q (Some t) e = by t.job e
  where
    by : (job : Option Job) → Some row ≡ option_map (job_of org q) job → ◌≡◌ {A = Option ChangeState} (Some (state_by row (own_layout org row.object q (Some t)))) (option_map (state_in t) job)
    by None e = absurd cc
    by (Some j) e =
        ap (λ (r : JobRow). Some (state_by r (own_layout org r.object q (Some t)))) (some_is row (job_of org q j) e) ∙ ap (λ (x : ChangeState). Some x) (state_is org q t j)

pub one_found : (org : ℕ) (m : Tables) (c : Result (Option JobRow) StoreFail) (found : Option JobRow) (row : JobRow) (r : Result (Option ChangeState) StoreFail) → FindsIn org (own_change_row org) m c → c ≡ Ok found → found ≡ Some row
    → FindsIn org (λ q t. Some (state_by row (own_layout org row.object q t))) m r → FindsIn org told m r
one_found org m c found row r h was is = by r
  where
    there : (q : OrgPlan) (t : Option Tenant) → StandsIn org q m t → Some row ≡ own_change_row org q t
    there q t s = sym is ∙ subst (FindsIn org (own_change_row org) m) was h q t s

    by : (r : Result (Option ChangeState) StoreFail) → FindsIn org (λ q t. Some (state_by row (own_layout org row.object q t))) m r → FindsIn org told m r
    by (Ok x) g = λ q t s. g q t s ∙ one_told org row q t (there q t s)
    by (Err Damaged) g = g
    by (Err Keeper) g = tt
    by (Err Memory) g = tt

-- what is told by the row and the layout that was read
pub state_found : (org : ℕ) (m : Tables) (row : JobRow) (r : Result (Option Layout) StoreFail) (layout : Option Layout) (state : ChangeState) → FindsIn org (own_layout org row.object) m r → r ≡ Ok layout → state ≡ state_by row layout
    → FindsIn org (λ q t. Some (state_by row (own_layout org row.object q t))) m (Ok (Some state))
state_found org m row r layout state h was is = λ q t s. ap (λ (x : ChangeState). Some x) (is ∙ ap (state_by row) (subst (FindsIn org (own_layout org row.object) m) was h q t s))
