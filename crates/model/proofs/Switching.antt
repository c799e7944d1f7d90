-- The step at which the switch of a field's type comes.
use Rattle.std.proofs.Common.{◌≡◌, ℕ, zero, suc, ◌+◌, ◌*◌, ◌<◌, ◌≤◌, Bool, false, List, [], ◌∷◌, ◌++◌, filter, take, drop, length, Option, Some, None, refl, sym, ap, ◌∙◌, arith, subst}
use Rattle.std.specs.declared.cmp.Ordering.TheVariants.{Less}
use Rattle.std.specs.Cmp.{tied_itself}
use Rattle.std.specs.Cmp.Lexicographic.{nat_list_cmp_total}
use Rattle.std.specs.List.{AllByRecursion, find, list_any}
use Rattle.std.specs.List.Sorted.{IsStrictlySortedBy}
use Rattle.std.specs.Ordering.{is_lt, ordering_reverse}
use Rattle.std.proofs.Math.ListN.{drop_of_length-le}
use Rattle.std.proofs.lemmas.List.{drop-take, take-append-drop}
use Rattle.std.proofs.lemmas.Bool.{or_parts as neither}
use Rattle.base_value.specs.declared.job.Phase.{Phase}
use Rattle.base_value.specs.declared.job.Phase.TheVariants as phase
use Rattle.model.specs.declared.record.Record.{Record}
use Rattle.model.specs.Cases.{in_case}
use Rattle.model.specs.Jobs.{copy_step, is_bad, is_past, job_step, last_id, moved, failed_at, step_in, switched}
use Rattle.model.specs.Limits.{step_records}
use Rattle.model.specs.Objects.{records_of}
use Rattle.model.specs.Ordered.{by_id}
use Rattle.model.specs.Retyping.{with_job}
use Rattle.model.specs.Steps.{copy_steps, steps}
use Rattle.model.specs.Tenant.{Job, Tenant}

-- ---- the records after a cursor

abbrev past : Option (List ℕ) → Record → Bool
past cursor r = is_past cursor r.id

rest_past : (x : Record) (rs : List Record) → AllByRecursion (λ s. by_id x s ≡ Less) rs → filter (past (Some x.id)) rs ≡ rs
rest_past x [] h = refl
rest_past x (s ∷ rs) h = rw (h.0, rest_past x rs h.1) refl

not_itself : (x : Record) → past (Some x.id) x ≡ false
not_itself x = ap is_lt (tied_itself nat_list_cmp_total x.id)

-- who is below the id of the last is not past it
below_last : (x y : Record) (zs : List Record) → by_id x y ≡ Less → AllByRecursion (λ s. by_id x s ≡ Less) zs → past (last_id (y ∷ zs)) x ≡ false
below_last x y [] h hs = ap is_lt (nat_list_cmp_total.antisymm y.id x.id ∙ ap ordering_reverse h)
below_last x y (z ∷ zs) h hs = below_last x z zs hs.0 hs.1

all_taken : (P : Record → Type 0) (n : ℕ) (rs : List Record) → AllByRecursion P rs → AllByRecursion P (take n rs)
all_taken P zero rs h = tt
all_taken P (suc n) [] h = tt
all_taken P (suc n) (r ∷ rs) h = (h.0, all_taken P n rs h.1)

-- those that are past the last of the first few are the others
past_more : (m : ℕ) (x : Record) (rs : List Record) → IsStrictlySortedBy by_id (x ∷ rs) → filter (past (last_id (x ∷ take m rs))) (x ∷ rs) ≡ drop m rs
unfolding IsStrictlySortedBy
past_more zero x rs h = rw (not_itself x, rest_past x rs h.0) refl
past_more (suc m) x [] h = rw (not_itself x) refl
past_more (suc m) x (y ∷ ys) h =
    rw (below_last x y (take m ys) h.0.0 (all_taken (λ s. by_id x s ≡ Less) m ys h.0.1), past_more m y ys h.1) refl

all_past : (rs : List Record) → filter (past None) rs ≡ rs
all_past [] = refl
all_past (r ∷ rs) = ap (λ rs. r ∷ rs) (all_past rs)

past_few : (m : ℕ) (rs : List Record) → IsStrictlySortedBy by_id rs → filter (past (last_id (take m rs))) rs ≡ drop m rs
past_few zero rs h = all_past rs
past_few (suc m) [] h = refl
past_few (suc m) (x ∷ rs) h = past_more m x rs h

-- ---- the last of the first few, and of the next few

last_behind : (xs : List Record) (y : Record) (ys : List Record) → last_id (xs ++ y ∷ ys) ≡ last_id (y ∷ ys)
last_behind [] y ys = refl
last_behind (x ∷ []) y ys = refl
last_behind (x ∷ w ∷ xs) y ys = last_behind (w ∷ xs) y ys

last_next : (m n : ℕ) (rs : List Record) (z : Record) (zs : List Record) → take n (drop m rs) ≡ z ∷ zs → last_id (take (m + n) rs) ≡ last_id (z ∷ zs)
last_next m n rs z zs e =
    ap last_id (sym (take-append-drop m (take (m + n) rs)))
    ∙ ap (λ (ys : List Record). last_id (take m (take (m + n) rs) ++ ys)) (drop-take m n rs ∙ e)
    ∙ last_behind (take m (take (m + n) rs)) z zs

some_left : (m : ℕ) (rs : List Record) → m < length rs → (z : Record) × (zs : List Record) × (drop m rs ≡ z ∷ zs)
some_left zero [] h = absurd (omega arith)
some_left zero (r ∷ rs) h = (r, rs, refl)
some_left (suc m) [] h = absurd (omega arith)
some_left (suc m) (r ∷ rs) h = some_left m rs (omega arith)

-- ---- none of them is bad

none_dropped : (bad : Record → Bool) (m : ℕ) (rs : List Record) → list_any bad rs ≡ false → list_any bad (drop m rs) ≡ false
none_dropped bad zero rs h = h
none_dropped bad (suc m) [] h = refl
none_dropped bad (suc m) (r ∷ rs) h = none_dropped bad m rs (neither (bad r) (list_any bad rs) h).1

none_taken : (bad : Record → Bool) (m : ℕ) (rs : List Record) → list_any bad rs ≡ false → list_any bad (take m rs) ≡ false
none_taken bad zero rs h = refl
none_taken bad (suc m) [] h = refl
none_taken bad (suc m) (r ∷ rs) h = let both = neither (bad r) (list_any bad rs) h in rw both.0 (none_taken bad m rs both.1)

none_found : (bad : Record → Bool) (rs : List Record) → list_any bad rs ≡ false → find bad rs ≡ None
none_found bad [] h = refl
none_found bad (r ∷ rs) h = let both = neither (bad r) (list_any bad rs) h in rw both.0 (none_found bad rs both.1)

-- ---- steps

-- so many records go by in so many steps
far : ℕ → ℕ
far zero = 0
far (suc k) = far k + step_records

far_is : (k : ℕ) → far k ≡ 100 * k
unfolding far
far_is zero = refl
far_is (suc k) = omega (arith, far_is k)

module _ (t : Tenant) (j : Job) (copy : j.phase ≡ phase.Copy) (rise : IsStrictlySortedBy by_id (records_of t j.object)) (good : list_any (is_bad t j) (records_of t j.object) ≡ false) where
  abbrev rs : List Record
  rs = records_of t j.object

  -- the job once it has gone over so many records
  abbrev job_at : ℕ → Job
  job_at m = record j { cursor = last_id (take m rs) }

  abbrev at : ℕ → Tenant
  at m = with_job (job_at m) t

  step : (m : ℕ) → job_step (at m) ≡ copy_step (job_at m) (take step_records (drop m rs)) (at m)
  unfolding job_step
  step m =
      ap (λ (p : Phase). step_in p (job_at m) (at m)) copy
      ∙ ap (λ (xs : List Record). copy_step (job_at m) (take step_records xs) (at m)) (past_few m rs rise)

  goes_on : (m : ℕ) (z : Record) (zs : List Record) → take step_records (drop m rs) ≡ z ∷ zs → job_step (at m) ≡ at (m + step_records)
  goes_on m z zs e =
      step m ∙ ap (λ (xs : List Record). copy_step (job_at m) xs (at m)) e
      ∙ ap (λ (o : Option Record). with_job (in_case o (moved (job_at m) (z ∷ zs)) (failed_at (job_at m))) (at m)) none
      ∙ ap (λ (c : Option (List ℕ)). with_job (record j { cursor = c }) t) (sym (last_next m step_records rs z zs e))
    where
      none : find (is_bad t j) (z ∷ zs) ≡ None
      none =
          none_found (is_bad t j) (z ∷ zs)
          (subst (λ (xs : List Record). list_any (is_bad t j) xs ≡ false) e (none_taken (is_bad t j) step_records (drop m rs) (none_dropped (is_bad t j) m rs good)))

  ends : (m : ℕ) → drop m rs ≡ [] → job_step (at m) ≡ switched (job_at m) (at m)
  ends m e = step m ∙ ap (λ (xs : List Record). copy_step (job_at m) (take step_records xs) (at m)) e

  module _ (there : t.job ≡ Some j) (cursor : j.cursor ≡ None) where
    begins : t ≡ at 0
    begins = ap (λ (o : Option Job). record t { job = o }) (there ∙ ap (λ (c : Option (List ℕ)). Some (record j { cursor = c })) cursor)

    goes : (k : ℕ) → far k < length rs + step_records → steps k t ≡ at (far k)
    unfolding far
    goes zero h = begins
    goes (suc k) h =
        let left = some_left (far k) rs (omega (arith, h)) in
        ap job_step (goes k (omega (arith, h))) ∙ goes_on (far k) left.0 (take 99 left.1) (ap (take step_records) left.2)

    pub copied : (k : ℕ) → k ≤ copy_steps (length rs) → (steps k t).objects ≡ t.objects
    copied k h = ap (λ (x : Tenant). x.objects) (goes k (omega (arith, h, far_is k)))

    pub switches : (steps (suc (copy_steps (length rs))) t).objects ≡ (switched j t).objects
    switches =
        let k = copy_steps (length rs) in
        let over : length rs ≤ far k = omega (arith, far_is k) in
        ap (λ (x : Tenant). (job_step x).objects) (goes k (omega (arith, far_is k))) ∙ ap (λ (x : Tenant). x.objects) (ends (far k) (drop_of_length-le rs over))
