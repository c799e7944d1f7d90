-- What a step of a change of a type leaves is sound.
use Rattle.std.proofs.Common.{◌≡◌, ℕ, zero, suc, Bool, true, false, not, ◌||◌, T, inl, inr, List, [], ◌∷◌, map, filter, take, Option, Some, None, is_some, refl, ap, sym, subst, ◌∙◌, nat_cmp, Less, Equal, Greater, Ordering, is_lt, is_le}
use Rattle.std.specs.Prelude.{is_none}
use Rattle.std.specs.List.{find}
use Rattle.std.specs.Option.{unwrap_or}
use Rattle.std.specs.Ordering.{ordering_reverse}
use Rattle.std.specs.FinMap.{is_sorted}
use Rattle.std.specs.Cmp.Lexicographic.{slice_cmp}
use Rattle.std.proofs.lemmas.Cmp.{nat_list_cmp_total}
use Rattle.std.proofs.lemmas.Bool.{eqb-true, true≢false as clash, not-false as holds_not}
use Rattle.base_lemmas.proofs.Bools.{by_answer as pick}
use Rattle.base_value.specs.Conversion.{convert}
use Rattle.base_value.specs.Id.{made}
use Rattle.base_value.specs.declared.job.Outcome.{Outcome}
use Rattle.base_value.specs.declared.job.Outcome.TheVariants as outcome
use Rattle.base_value.specs.declared.job.Phase.{Phase}
use Rattle.base_value.specs.declared.job.Phase.TheVariants as phase
use Rattle.base_value.specs.declared.value.Value.{Value}
use Rattle.formula.specs.Meaning.{value_at}
use Rattle.model.specs.Limits.{step_records}
use Rattle.model.specs.declared.record.Record.{Record}
use Rattle.model.specs.declared.refusal.Refusal.TheVariants as refusal
use Rattle.model.specs.Cases.{in_case}
use Rattle.model.specs.Jobs.{clear_step, copy_step, failed_at, is_bad, is_past, job_step, last_id, moved, next_hundred, step_in, switched}
use Rattle.model.specs.Known.{IsDrawn, known}
use Rattle.model.specs.Membership.{Has}
use Rattle.model.specs.Objects.{is_of, object_number, record_prefix, records_of}
use Rattle.model.specs.Retyping.{cancel_retype, to_clear, with_job}
use Rattle.model.specs.RuleFormulas.{is_copy}
use Rattle.model.specs.Rules.{refuse_if}
use Rattle.model_invariant.proofs.SoundParts.{HasSoundParts}
use Rattle.model.specs.SoundJob.{HasSoundJob, IsSoundJob, copies, is_failed, is_open, is_switched}
use Rattle.model.specs.SoundRecords.{IsSoundRecord, record_id, those_of}
use Rattle.model.specs.SoundSharing.{IsCursor}
use Rattle.model.specs.Tenant.{Job, Tenant}
use Rattle.model.specs.Updates.{is_copied}
use Rattle.model.specs.Verdict.{accept, done, judged, refuse}
use Rattle.model_invariant.proofs.Parts.{all_at, among_kept, kept_among, list_all_at, list_all_from, unrefused}
use Rattle.model_invariant.proofs.Orders.{rise_first, rise_kept, rise_rest}
use Rattle.model_invariant.proofs.ContentSound.{none_found}
use Rattle.model_invariant.proofs.PeopleSound.{when_judged}
use Rattle.model_invariant.proofs.UpsertsSound.{found_record}

pub job_changed : (t : Tenant) (j : Job) → HasSoundParts t → IsSoundJob t.counter t.objects t.records j → HasSoundParts (with_job j t)
job_changed t j s h =
    record { name = s.name; counter = s.counter; numbers = s.numbers; users = s.users; roles = s.roles; groups = s.groups; metadata = s.metadata; records = s.records; rules = s.rules; shares = s.shares; job = h }

-- a record of the object may be a cursor
pub cursor_of : (t : Tenant) → HasSoundParts t → (n : ℕ) (r : Record) → Has t.records r → is_of n r ≡ true → IsDrawn (record_prefix n) t.counter r.id
cursor_of t s n r m of =
    let x = all_at (IsSoundRecord (known t) t.objects) r t.records s.records.each m in
    (x.number, x.drawn, x.id ∙ ap (λ (k : ℕ). made (record_prefix k) x.number) (eqb-true (object_number r.id) n of))

-- ---- into Clear, unless it was switched
cleared : (t : Tenant) (j : Job) (o : Outcome) (failed : Option (List ℕ)) → is_open o ≡ false → is_switched o ≡ false → is_some failed ≡ is_failed o → IsCursor t.counter j.object failed
    → IsSoundJob t.counter t.objects t.records j → IsSoundJob t.counter t.objects t.records (record (to_clear o j) { failed = failed })
cleared t j o failed shut other where_failed cursor h =
    record {
      field = h.field;
      there = h.there;
      change = record { unique = h.change.unique; reference = h.change.reference; to = h.change.to; indexed = h.change.indexed; converts = h.change.converts; switched = λ e. absurd (clash (sym e ∙ other)) };
      cursor = tt;
      failed = cursor;
      open_in_copy = shut;
      failed_where = where_failed;
      copied = list_all_from (copies (record (to_clear o j) { failed = failed })) (those_of j.object t.records) (λ y m. refl);
    }

-- ---- the cursor moves on
among_take : (n : ℕ) (xs : List Record) (y : Record) → Has (take n xs) y → Has xs y
among_take zero xs y m = absurd m
among_take (suc n) [] y m = absurd m
among_take (suc n) (x ∷ xs) y (inl e) = inl e
among_take (suc n) (x ∷ xs) y (inr m) = inr (among_take n xs y m)

-- the last of some is one of them
last_among : (r : Record) (rs : List Record) → (x : Record) × Has (r ∷ rs) x × (last_id (r ∷ rs) ≡ Some x.id)
last_among r [] = (r, inl refl, refl)
last_among r (s ∷ rs) = let h = last_among s rs in (h.0, inr h.1, h.2)

-- up to the last of the first n, all are among the first n
covers : (n : ℕ) (xs : List Record) → T (is_sorted (slice_cmp nat_cmp) (map (λ x. (record_id x, x)) xs)) → (last : List ℕ) → last_id (take n xs) ≡ Some last
    → (y : Record) → Has xs y → is_le (slice_cmp nat_cmp y.id last) ≡ true → Has (take n xs) y
covers zero xs h last e y m le = absurd cc
covers (suc n) [] h last e y m le = absurd m
covers (suc n) (x ∷ xs) h last e y (inl i) le = inl i
covers (suc n) (x ∷ xs) h last e y (inr m) le = by (take n xs) refl e (λ e. covers n xs (rise_rest (slice_cmp nat_cmp) record_id x xs h) last e y m le)
  where
    above : slice_cmp nat_cmp x.id y.id ≡ Less
    above = rise_first (slice_cmp nat_cmp) record_id x xs h y m

    some_is : (a b : List ℕ) → Some a ≡ Some b → a ≡ b
    some_is a b e = ap (λ o. unwrap_or o a) e

    by : (zs : List Record) → take n xs ≡ zs → last_id (x ∷ zs) ≡ Some last → (last_id (take n xs) ≡ Some last → Has (take n xs) y) → Has (x ∷ take n xs) y
    by [] t e more =
        let same : x.id ≡ last = some_is x.id last e in
        let turned : slice_cmp nat_cmp y.id x.id ≡ Greater = nat_list_cmp_total.antisymm y.id x.id ∙ ap ordering_reverse above in
        absurd (clash (sym le ∙ ap (λ (i : List ℕ). is_le (slice_cmp nat_cmp y.id i)) (sym same) ∙ ap is_le turned))
    by (z ∷ zs) t e more = inr (more (ap last_id t ∙ e))

-- ---- a step
module _ (t : Tenant) (s : HasSoundParts t) (j : Job) (h : IsSoundJob t.counter t.objects t.records j) where
  abbrev left : List Record
  left = filter (λ r. is_past j.cursor r.id) (records_of t j.object)

  next_of : (y : Record) → Has (next_hundred t j) y → Has t.records y × (is_of j.object y ≡ true)
  next_of y m =
      let w = among_kept (λ r. is_past j.cursor r.id) (records_of t j.object) y (among_take step_records left y m) in
      among_kept (is_of j.object) t.records y w.0

  -- the last of the next records as cursor
  last_cursor : (r : Record) (rs : List Record) → next_hundred t j ≡ r ∷ rs → IsCursor t.counter j.object (last_id (r ∷ rs))
  last_cursor r rs e =
      let x = last_among r rs in
      let w = next_of x.0 (subst (λ (zs : List Record). Has zs x.0) (sym e) x.1) in
      subst (λ (c : Option (List ℕ)). IsCursor t.counter j.object c) (sym x.2) (cursor_of t s j.object x.0 w.0 w.1)

  -- either a record was copied before, or it is left
  pub before_or_left : (y : Record) → is_copied phase.Copy j.cursor y.id ≡ false → is_past j.cursor y.id ≡ true
  before_or_left y e = by j.cursor e
    where
      less : (a b : List ℕ) (o : Ordering) → slice_cmp nat_cmp a b ≡ o → is_le o ≡ false → is_lt (slice_cmp nat_cmp b a) ≡ true
      less a b Less w f = absurd cc
      less a b Equal w f = absurd cc
      less a b Greater w f = ap is_lt (nat_list_cmp_total.antisymm b a ∙ ap ordering_reverse w)

      by : (c : Option (List ℕ)) → is_copied phase.Copy c y.id ≡ false → is_past c y.id ≡ true
      by None e = refl
      by (Some c) e = less y.id c (slice_cmp nat_cmp y.id c) refl e

  copied_on : j.phase ≡ phase.Copy → (r : Record) (rs : List Record) → next_hundred t j ≡ r ∷ rs → find (is_bad t j) (r ∷ rs) ≡ None
      → (y : Record) → Has (those_of j.object t.records) y → copies (moved j (r ∷ rs)) y ≡ true
  copied_on copy r rs e none y m =
      let x = last_among r rs in
      subst (λ (p : Phase). (not (is_copied p (last_id (r ∷ rs)) y.id) || converts) ≡ true) (sym copy)
      (subst (λ (c : Option (List ℕ)). (not (is_copied phase.Copy c y.id) || converts) ≡ true) (sym x.2)
      (pick (is_le (slice_cmp nat_cmp y.id x.0.id)) (λ b. (not b || converts) ≡ true)
      (λ le.
      pick (is_copied phase.Copy j.cursor y.id) (λ b. (not b || converts) ≡ true → converts ≡ true)
      (λ _ old. old)
      (λ past _. fits y (among_next y le past))
      (subst (λ (p : Phase). (not (is_copied p j.cursor y.id) || converts) ≡ true) copy (list_all_at (copies j) y (those_of j.object t.records) h.copied m)))
      (λ _. refl)))
    where
      converts : Bool
      converts = is_some (convert j.to (value_at y.values (suc j.field)))

      unstuck : (o : Option Value) → is_none o ≡ false → is_some o ≡ true
      unstuck None e = absurd cc
      unstuck (Some v) e = refl

      fits : (z : Record) → Has (r ∷ rs) z → is_some (convert j.to (value_at z.values (suc j.field))) ≡ true
      fits z m = unstuck (convert j.to (value_at z.values (suc j.field))) (none_found (is_bad t j) (r ∷ rs) none z m)

      among_next : (z : Record) → is_le (slice_cmp nat_cmp y.id (last_among r rs).0.id) ≡ true → is_copied phase.Copy j.cursor y.id ≡ false → Has (r ∷ rs) y
      among_next z le past =
          let x = last_among r rs in
          subst (λ (zs : List Record). Has zs y) e
          (covers step_records left (rise_kept (slice_cmp nat_cmp) record_id (λ r. is_past j.cursor r.id) (records_of t j.object) (rise_kept (slice_cmp nat_cmp) record_id (is_of j.object) t.records s.records.rise))
          x.0.id (ap last_id e ∙ x.2) y (kept_among (λ r. is_past j.cursor r.id) (records_of t j.object) y m (before_or_left y past)) le)

  pub copy_moves : j.phase ≡ phase.Copy → (r : Record) (rs : List Record) → next_hundred t j ≡ r ∷ rs → HasSoundParts (copy_step j (r ∷ rs) t)
  copy_moves copy r rs e = by (find (is_bad t j) (r ∷ rs)) refl
    where
      by : (f : Option Record) → find (is_bad t j) (r ∷ rs) ≡ f
          → HasSoundParts (with_job (in_case f (moved j (r ∷ rs)) (failed_at j)) t)
      by None w =
          job_changed t (moved j (r ∷ rs)) s (record {
            field = h.field;
            there = h.there;
            change = record { unique = h.change.unique; reference = h.change.reference; to = h.change.to; indexed = h.change.indexed; converts = h.change.converts; switched = h.change.switched };
            cursor = last_cursor r rs e;
            failed = h.failed;
            open_in_copy = h.open_in_copy;
            failed_where = h.failed_where;
            copied = list_all_from (copies (moved j (r ∷ rs))) (those_of j.object t.records) (copied_on copy r rs e w);
          })
      by (Some x) w =
          let m = next_of x (subst (λ (zs : List Record). Has zs x) (sym e) (found_record (is_bad t j) (r ∷ rs) x w)) in
          job_changed t (failed_at j x) s (cleared t j outcome.Failed (Some x.id) refl refl refl (cursor_of t s j.object x m.0 m.1) h)

  clear_moves : j.phase ≡ phase.Clear → (zs : List Record) → next_hundred t j ≡ zs → HasSoundParts (clear_step j zs t)
  clear_moves clear [] e =
      job_changed t (record j { phase = phase.Done }) s (record {
        field = h.field;
        there = h.there;
        change = record { unique = h.change.unique; reference = h.change.reference; to = h.change.to; indexed = h.change.indexed; converts = h.change.converts; switched = h.change.switched };
        cursor = h.cursor;
        failed = h.failed;
        open_in_copy = h.open_in_copy ∙ ap is_copy clear;
        failed_where = h.failed_where;
        copied = list_all_from (copies (record j { phase = phase.Done })) (those_of j.object t.records) (λ y m. refl);
      })
  clear_moves clear (r ∷ rs) e =
      job_changed t (moved j (r ∷ rs)) s (record {
        field = h.field;
        there = h.there;
        change = record { unique = h.change.unique; reference = h.change.reference; to = h.change.to; indexed = h.change.indexed; converts = h.change.converts; switched = h.change.switched };
        cursor = last_cursor r rs e;
        failed = h.failed;
        open_in_copy = h.open_in_copy;
        failed_where = h.failed_where;
        copied = list_all_from (copies (moved j (r ∷ rs))) (those_of j.object t.records)
            (λ y m. subst (λ (p : Phase). (not (is_copied p (last_id (r ∷ rs)) y.id) || is_some (convert j.to (value_at y.values (suc j.field)))) ≡ true) (sym clear) refl);
      })

-- a step, where the switch leaves a sound tenant
pub step_sound : (t : Tenant) → ((j : Job) → t.job ≡ Some j → j.phase ≡ phase.Copy → next_hundred t j ≡ [] → HasSoundParts (switched j t)) → HasSoundParts t → HasSoundParts (job_step t)
unfolding job_step
step_sound t switch s = by t.job refl
  where
    by : (job : Option Job) → t.job ≡ job → HasSoundParts (in_case job t (λ j. step_in j.phase j t))
    by None e = s
    by (Some j) e = phased j.phase refl
      where
        h : IsSoundJob t.counter t.objects t.records j
        h = subst (λ (z : Option Job). HasSoundJob t.counter t.objects t.records z) e s.job

        phased : (p : Phase) → j.phase ≡ p → HasSoundParts (step_in p j t)
        phased phase.Copy c = copying (next_hundred t j) refl
          where
            copying : (zs : List Record) → next_hundred t j ≡ zs → HasSoundParts (copy_step j zs t)
            copying [] w = switch j e c w
            copying (r ∷ rs) w = copy_moves t s j h c r rs w
        phased phase.Clear c = clear_moves t s j h c (next_hundred t j) refl
        phased phase.Done c = s

-- a change that is called off
pub cancel_sound : (t : Tenant) → HasSoundParts t → HasSoundParts (cancel_retype t).tenant
cancel_sound t s = by t.job s.job
  where
    by : (job : Option Job) → HasSoundJob t.counter t.objects t.records job
        → HasSoundParts (in_case job (refuse t refusal.NotFound) (λ j. judged t (refuse_if (not (is_copy j.phase)) refusal.NotFound ∷ []) (accept done (with_job (to_clear outcome.Cancelled j) t)))).tenant
    by None h = s
    by (Some j) h =
        when_judged HasSoundParts t (refuse_if (not (is_copy j.phase)) refusal.NotFound ∷ []) (accept done (with_job (to_clear outcome.Cancelled j) t)) s (λ r.
        let copy = holds_not (is_copy j.phase) (unrefused (not (is_copy j.phase)) refusal.NotFound r.0) in
        let open_is = h.open_in_copy ∙ copy in
        job_changed t (to_clear outcome.Cancelled j) s (cleared t j outcome.Cancelled j.failed refl refl (h.failed_where ∙ open_not_failed j.outcome open_is) h.failed h))
      where
        open_not_failed : (o : Outcome) → is_open o ≡ true → is_failed o ≡ false
        open_not_failed outcome.Open e = refl
        open_not_failed o e = absurd cc
