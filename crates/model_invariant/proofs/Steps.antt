-- The steps of a change that copies records of which all convert.
use Rattle.std.proofs.Common.{◌≡◌, ◌<◌, ◌≤◌, ℕ, zero, suc, ◌+◌, ◌*◌, Bool, cond, List, [], ◌∷◌, ◌++◌, length, take, drop, Option, Some, None, refl, sym, ap, subst, ◌∙◌, arith, take-add as take_more}
use Rattle.std.specs.Prelude.{slice_get}
use Rattle.std.specs.List.{find}
use Rattle.std.specs.Option.{option_and_then, option_map}
use Rattle.std.proofs.lemmas.List.{drop_all as drop_none}
use Rattle.base_lemmas.proofs.Bools.{by_answer as pick}
use Rattle.base_value.specs.declared.job.Phase.{Phase}
use Rattle.base_value.specs.declared.job.Phase.TheVariants as phase
use Rattle.model_invariant.specs.progress.Course.{after_steps, field_type}
use Rattle.model_invariant.proofs.Past.{Rises, past_taken, rises_filter}
use Rattle.model.specs.declared.record.Record.{Record}
use Rattle.model.specs.Cases.{in_case}
use Rattle.model.specs.Jobs.{copy_step, failed_at, is_bad, job_step, last_id, moved, next_hundred, step_in, switched}
use Rattle.model.specs.Objects.{change_at, is_of, records_of}
use Rattle.model.specs.Retyping.{with_job}
use Rattle.model.specs.Sound.{IsSound}
use Rattle.model.specs.SoundJob.{HasSoundJob}
use Rattle.model.specs.Tenant.{Field, Job, Object, Tenant}

-- ---- lists

take_nothing : {X : Type 0} (n : ℕ) → ◌≡◌ {A = List X} (take n []) []
take_nothing zero = refl
take_nothing (suc n) = refl

last_more : (xs : List Record) (y : Record) (ys : List Record) → last_id (xs ++ y ∷ ys) ≡ last_id (y ∷ ys)
last_more [] y ys = refl
last_more (x ∷ []) y ys = refl
last_more (x ∷ z ∷ xs) y ys = last_more (z ∷ xs) y ys

drop_some : {X : Type 0} (n : ℕ) (xs : List X) → n < length xs → (y : X) × (ys : List X) × (drop n xs ≡ y ∷ ys)
drop_some zero [] h = absurd (omega (arith, h))
drop_some zero (x ∷ xs) h = (x, xs, refl)
drop_some (suc n) [] h = absurd (omega (arith, h))
drop_some (suc n) (x ∷ xs) h = drop_some n xs (omega (arith, h))

none_in : {X : Type 0} (f : X → Bool) (xs : List X) → find f xs ≡ None → (n : ℕ) → find f (take n xs) ≡ None
none_in f xs e zero = refl
none_in f [] e (suc n) = refl
none_in {X = X} f (x ∷ xs) e (suc n) =
    pick (f x) (λ b. cond b (Some x) (find f xs) ≡ None → cond b (Some x) (find f (take n xs)) ≡ None)
    (λ _ e. absurd (some_none x e))
    (λ _ e. none_in f xs e n)
    e
  where
    some_none : (x : X) → ◌≡◌ {A = Option X} (Some x) None → ⊥
    some_none x e = cc

none_past : {X : Type 0} (f : X → Bool) (xs : List X) → find f xs ≡ None → (n : ℕ) → find f (drop n xs) ≡ None
none_past f xs e zero = e
none_past f [] e (suc n) = refl
none_past {X = X} f (x ∷ xs) e (suc n) =
    pick (f x) (λ b. cond b (Some x) (find f xs) ≡ None → find f (drop n xs) ≡ None)
    (λ _ e. absurd (some_none x e))
    (λ _ e. none_past f xs e n)
    e
  where
    some_none : (x : X) → ◌≡◌ {A = Option X} (Some x) None → ⊥
    some_none x e = cc

-- ---- the steps

module _ (t : Tenant) (j : Job) (sound : IsSound t) (is : t.job ≡ Some j) (copies : j.phase ≡ phase.Copy) (fresh : j.cursor ≡ None) (fine : find (is_bad t j) (records_of t j.object) ≡ None) where
  abbrev rs : List Record
  rs = records_of t j.object

  rises : Rises rs
  rises = rises_filter (is_of j.object) t.records sound.records.rise

  -- the change once it has come to so many records
  abbrev come : ℕ → Job
  come m = record j { cursor = last_id (take m rs) }

  abbrev reached : ℕ → Tenant
  reached m = with_job (come m) t

  begins : t ≡ reached 0
  begins =
      ap (λ (x : Option Job). record t { job = x }) is
      ∙ ap (λ (c : Option (List ℕ)). with_job (record j { cursor = c }) t) fresh

  page : (m : ℕ) → next_hundred (reached m) (come m) ≡ take 100 (drop m rs)
  page m = ap (take 100) (past_taken m rs rises)

  step_is : (m : ℕ) → job_step (reached m) ≡ copy_step (come m) (take 100 (drop m rs)) (reached m)
  unfolding job_step
  step_is m =
      ap (λ (x : Phase). step_in x (come m) (reached m)) copies
      ∙ ap (λ (xs : List Record). copy_step (come m) xs (reached m)) (page m)

  -- a step over some records
  moves : (m : ℕ) → m < length rs → job_step (reached m) ≡ reached (m + 100)
  moves m some =
      let (y, ys, e) = drop_some m rs some in
      let taken : take 100 (drop m rs) ≡ y ∷ take 99 ys = ap (take 100) e in
      let none : find (is_bad t j) (y ∷ take 99 ys) ≡ None = ap (find (is_bad t j)) (sym taken) ∙ none_in (is_bad t j) (drop m rs) (none_past (is_bad t j) rs fine m) 100 in
      let last : last_id (y ∷ take 99 ys) ≡ last_id (take (m + 100) rs)
      = sym (last_more (take m rs) y (take 99 ys)) ∙ ap (λ (xs : List Record). last_id (take m rs ++ xs)) (sym taken) ∙ ap last_id (sym (take_more m 100 rs)) in
      step_is m
      ∙ ap (λ (xs : List Record). copy_step (come m) xs (reached m)) taken
      ∙ ap (λ (x : Option Record). with_job (in_case x (moved (come m) (y ∷ take 99 ys)) (failed_at (come m))) t) none
      ∙ ap (λ (c : Option (List ℕ)). with_job (record j { cursor = c }) t) last

  -- the step behind the last
  switches : (m : ℕ) → length rs ≤ m → job_step (reached m) ≡ switched (come m) (reached m)
  switches m all = step_is m ∙ ap (λ (xs : List Record). copy_step (come m) (take 100 xs) (reached m)) (drop_none m rs all)

  pub steps : (n : ℕ) → 100 * n < length rs + 100 → after_steps n t ≡ reached (100 * n)
  steps zero h = begins
  steps (suc n) h =
      ap job_step (steps n (omega (arith, h)))
      ∙ moves (100 * n) (omega (arith, h))
      ∙ ap reached (more n)
    where
      more : (n : ℕ) → 100 * n + 100 ≡ 100 * suc n
      more n = omega arith

  pub copying : (n : ℕ) → 100 * n < length rs + 100 → field_type j (after_steps n t) ≡ field_type j t
  copying n h = ap (field_type j) (steps n h)

  -- ---- the type after the switch

  changed_there : (n i : ℕ) (os : List Object) (f : Field) → option_and_then (λ (o : Object). slice_get o.fields i) (slice_get os n) ≡ Some f
      → option_map (λ (f : Field). f.kind) (option_and_then (λ (o : Object). slice_get o.fields i) (slice_get (change_at n (λ o. record o { fields = change_at i (λ f. record f { kind = j.to }) o.fields }) os) n)) ≡ Some j.to
  changed_there n i [] f e = absurd cc
  changed_there zero i (o ∷ os) f e = in_fields i o.fields f e
    where
      in_fields : (i : ℕ) (fs : List Field) (f : Field) → slice_get fs i ≡ Some f → option_map (λ (f : Field). f.kind) (slice_get (change_at i (λ f. record f { kind = j.to }) fs) i) ≡ Some j.to
      in_fields i [] f e = absurd cc
      in_fields zero (x ∷ fs) f e = refl
      in_fields (suc i) (x ∷ fs) f e = in_fields i fs f e
  changed_there (suc n) i (o ∷ os) f e = changed_there n i os f e

  pub switching : (n : ℕ) → length rs ≤ 100 * n → 100 * n < length rs + 100 → field_type j (after_steps (suc n) t) ≡ Some j.to
  switching n all h =
      let job = subst (HasSoundJob t.counter t.objects t.records) is sound.job in
      ap (λ (u : Tenant). field_type j (job_step u)) (steps n h)
      ∙ ap (field_type j) (switches (100 * n) all)
      ∙ changed_there j.object j.field t.objects job.field job.there
