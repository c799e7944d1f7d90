-- A change of a type that begins, ends before its time, is switched, or is done: the changes of rows that take the organisation
-- there, and the plan that then fits.
use Rattle.std.proofs.Common.{◌≡◌, ℕ, suc, ◌<◌, ◌^◌, Bool, true, false, ◌||◌, cond, IsTrue, List, [], ◌∷◌, length, Option, Some, None, refl, sym, ap, ◌∙◌, subst}
use Rattle.std.specs.Prelude.{slice_get}
use Rattle.std.specs.Option.{option_and_then, option_map}
use Rattle.std.proofs.lemmas.Bool.{eqb-true, false≢true as clash}
use Rattle.base_lemmas.proofs.Numbers.{eqb-self as eqb_same}
use Rattle.std.proofs.lemmas.Option.{none-some as none_is, same_Some as some_is}
use Rattle.base_lemmas.proofs.Bools.{by_answer as pick, or_first_false as or_first, or_second_false as or_second}
use Rattle.store_edit.specs.Edits.{Planned, Takes}
use Rattle.store_edit.specs.Rows.{change_to}
use Rattle.formula.specs.Meaning.{value_at}
use Rattle.store_rows.specs.Forms.{row_bytes}
use Rattle.store_rows.specs.Keys.{Field, Job, Key, key_eq}
use Rattle.store_rows.specs.Rows.{field_form, job_form}
use Rattle.model.specs.declared.record.Record.{Record}
use Rattle.model.specs.Jobs.{is_past, next_hundred, switched}
use Rattle.model.specs.Known.{known}
use Rattle.model.specs.Membership.{Has}
use Rattle.model.specs.Objects.{change_at, is_of, object_number, object_numbered, record_at}
use Rattle.model.specs.Retyping.{job_is_done, new_job, to_clear, with_job}
use Rattle.model.specs.Sound.{IsSound}
use Rattle.model.specs.SoundJob.{HasSoundJob, IsSoundJob, is_switched}
use Rattle.model.specs.SoundMetadata.{IsSoundField}
use Rattle.model.specs.SoundRecords.{IsSoundRecord, all_valid, kinds_of}
use Rattle.model.specs.Tenant as model
use Rattle.model.specs.Tenant.{Tenant}
use Rattle.model.specs.Verdict.{accept, done}
use Rattle.store_abstraction.specs.Changes.{IsOf, is_changed}
use Rattle.store_abstraction.specs.Metadata.{field_of, job_of}
use Rattle.store_abstraction.specs.Plan.{FitsPlan, OrgPlan, has_field, is_clearing, slot_count, type_there}
use Rattle.store_abstraction.specs.Stands.{org_of_key, row_in}
use Rattle.store_abstraction.proofs.MetadataRows.{all_at, and_then_some, field_fits, sound_object}
use Rattle.store_abstraction.proofs.Placed.{get_changed}
use Rattle.base_value.specs.Conversion.{convert}
use Rattle.base_value.specs.Types.{is_type}
use Rattle.base_value.specs.Values.{valid}
use Rattle.base_value.specs.declared.job.Outcome.{Outcome}
use Rattle.base_value.specs.declared.job.Outcome.TheVariants as outcome
use Rattle.base_value.specs.declared.job.Phase.TheVariants as phase
use Rattle.base_value.specs.declared.value.FieldType.{FieldType}
use Rattle.base_value.specs.declared.value.Value.{Value}
use Rattle.retype_cutover.specs.Switch.{any_plan, changing_value, stopped_plan, switch_changes, switched_plan}
use Rattle.retype_cutover.proofs.Alone as alone
use Rattle.retype_cutover.proofs.Keys.{EqualKeys, is_job_key, other_field, other_job}
use Rattle.retype_cutover.proofs.Lists.{found_id, get_mapped, of_has}
use Rattle.retype_cutover.proofs.Switched as switch
use Rattle.retype_cutover.proofs.Values.{valid_at}

-- what `base_value` says of values that are converted
abbrev pub ConvertLaw : Type 0
ConvertLaw =
    (from to : FieldType) (v w : Value) → IsTrue (is_type from) → IsTrue (valid from v) → convert to v ≡ Some w → IsTrue (valid to w)

-- the object and the field of a change
pub its_field : (t : Tenant) (j : model.Job) → IsSound t → t.job ≡ Some j
    → (o : model.Object) × (f : model.Field) × (object_numbered t j.object ≡ Some o)
    × (slice_get o.fields j.field ≡ Some f) × (f.unique ≡ false)
its_field t j sound is =
    let h : IsSoundJob t.counter t.objects t.records j = subst (HasSoundJob t.counter t.objects t.records) is sound.job in
    let it = and_then_some (λ (o : model.Object). slice_get o.fields j.field) (slice_get t.objects j.object) h.field h.there in
    (it.0, h.field, it.1, it.2, h.change.unique)

module _ (equal : EqualKeys) (org : ℕ) (p : OrgPlan) (t : Tenant) (lo : org < 2 ^ 32) (sound : IsSound t) (old : FitsPlan p t) where
  -- ---- the row of the change alone

  module _ (q : OrgPlan) (k : model.Job) where
    of_job : (u : Tenant) → u.job ≡ Some k → IsOf org q u (change_to job_form (job_of org q k))
    unfolding row_in
    of_job u is = (lo, refl, ap (option_map (λ (x : model.Job). row_bytes job_form (job_of org q x))) is)

    alone_takes : (planned : Planned) → planned p t q → FitsPlan q (with_job k t) → IsSound (with_job k t)
        → ((key : Key) → is_job_key key ≡ false → row_in q (with_job k t) key ≡ row_in p t key)
        → Takes org p t (accept done (with_job k t)) done planned (change_to job_form (job_of org q k) ∷ [])
    alone_takes planned kept fits after stay = record {
      answer = refl;
      sound = after;
      plan = q;
      kept = kept;
      fits = fits;
      are = (of_job (with_job k t) refl, tt);
      rest = λ key own out. stay key (other_job equal org key own (or_first (key_eq key (Job org)) false out));
    }

  -- ---- begun

  module _ (n i slot : ℕ) (to : FieldType) where
    abbrev begun : model.Job
    begun = new_job n i to

    abbrev begun_plan : OrgPlan
    begun_plan = record p { other = slot }

    calm : (k : model.Job) → ◌≡◌ {A = Option model.Job} (Some begun) (Some k) → is_clearing k.phase ≡ false
    calm k e = subst (λ (x : model.Job). is_clearing x.phase ≡ false) (some_is begun k e) refl

    pub begins : ((j : model.Job) → t.job ≡ Some j → j.phase ≡ phase.Done) → slot < slot_count
        → ((f : ℕ) → IsTrue (has_field t n f) → p.slot n f ≡ slot → ⊥) → IsSound (with_job begun t)
        → Takes org p t (accept done (with_job begun t)) done (λ q t next. next ≡ record q { other = slot })
        (change_to job_form (job_of org begun_plan begun) ∷ [])
    begins idle low free after =
        alone_takes begun_plan begun (λ q t next. next ≡ record q { other = slot }) refl fits after
        (λ key e. alone.begun p t n i slot to sound idle key e)
      where
        fits : FitsPlan begun_plan (with_job begun t)
        fits = record {
          below = old.below;
          differ = old.differ;
          other = low;
          apart = λ k e busy f has same.
              free f (subst (λ (x : model.Job). IsTrue (has_field t x.object f)) (sym (some_is begun k e)) has)
              (subst (λ (x : model.Job). p.slot x.object f ≡ slot) (sym (some_is begun k e)) same);
          was = old.was;
          switched = λ k f e clear. absurd (clash (sym (calm k e) ∙ clear));
          left = λ k id v e clear. absurd (clash (sym (calm k e) ∙ clear));
        }

  module _ (j : model.Job) (is : t.job ≡ Some j) where
    -- ---- done

    abbrev finished : model.Job
    finished = record j { phase = phase.Done }

    calm_too : (k : model.Job) → ◌≡◌ {A = Option model.Job} (Some finished) (Some k) → is_clearing k.phase ≡ false
    calm_too k e = subst (λ (x : model.Job). is_clearing x.phase ≡ false) (some_is finished k e) refl

    pub finishes : j.phase ≡ phase.Clear → next_hundred t j ≡ [] → IsSound (with_job finished t)
        → Takes org p t (accept done (with_job finished t)) done any_plan
        (change_to job_form (job_of org p finished) ∷ [])
    finishes clear empty after =
        alone_takes p finished any_plan tt fits after
        (λ key e. alone.finished p t j sound is clear empty key e)
      where
        fits : FitsPlan p (with_job finished t)
        fits = record {
          below = old.below;
          differ = old.differ;
          other = old.other;
          apart = λ k e busy. absurd (clash (sym busy ∙ subst (λ (x : model.Job). job_is_done x.phase ≡ true) (some_is finished k e) refl));
          was = old.was;
          switched = λ k f e clear. absurd (clash (sym (calm_too k e) ∙ clear));
          left = λ k i v e clear. absurd (clash (sym (calm_too k e) ∙ clear));
        }

    module _ (copy : j.phase ≡ phase.Copy) where
      not_done : job_is_done j.phase ≡ false
      not_done = ap job_is_done copy

      -- ---- called off or failed

      module _ (convert_law : ConvertLaw) (x : Outcome) (failed : Option (List ℕ)) (ended : x ≡ outcome.Switched → ⊥) where
        abbrev after : model.Job
        after = record (to_clear x j) { failed = failed }

        abbrev left_plan : OrgPlan
        left_plan = stopped_plan p t j

        abbrev o : model.Object
        o = (its_field t j sound is).0

        abbrev f : model.Field
        f = (its_field t j sound is).1

        here : object_numbered t j.object ≡ Some o
        here = (its_field t j sound is).2

        there : slice_get o.fields j.field ≡ Some f
        there = (its_field t j sound is).3

        sound_field : IsSoundField (length t.objects) f
        sound_field = all_at (IsSoundField (length t.objects)) o.fields j.field f (sound_object t j.object o sound here).fields there

        value_valid : (r : Record) → Has t.records r → is_of j.object r ≡ true → valid f.kind (value_at r.values (suc j.field)) ≡ true
        value_valid r has of =
            let y = of_has (IsSoundRecord (known t) t.objects) t.records r sound.records.each has in
            let same : y.object ≡ o =
            some_is y.object o (sym y.there ∙ ap (slice_get t.objects) (eqb-true (object_number r.id) j.object of) ∙ here) in
            valid_at (kinds_of o) r.values (suc j.field) f.kind
            (subst (λ (z : model.Object). all_valid (kinds_of z) r.values ≡ true) same y.values)
            (get_mapped (λ (y : model.Field). y.kind) o.fields j.field f there)

        abbrev its_value : Bool → Record → Option Value
        its_value of r = cond of (Some (value_at r.values (suc j.field))) None

        valid_left : (i : List ℕ) (v : Value) → left_plan.left i ≡ Some v → valid j.to v ≡ true
        valid_left i v =
            pick (is_past j.cursor i)
            (λ b. cond b None (option_and_then (convert j.to) (changing_value t j i)) ≡ Some v → valid j.to v ≡ true)
            (λ _ w. absurd (none_is v w))
            (λ _ w. by (record_at t i) refl w)
          where
            by : (y : Option Record) → record_at t i ≡ y
                → option_and_then (convert j.to) (option_and_then (λ (r : Record). its_value (is_of j.object r) r) y) ≡ Some v
                → valid j.to v ≡ true
            by None e w = absurd (none_is v w)
            by (Some r) e w =
                pick (is_of j.object r)
                (λ b. is_of j.object r ≡ b → option_and_then (convert j.to) (its_value b r) ≡ Some v → valid j.to v ≡ true)
                (λ of _ w.
                convert_law f.kind j.to (value_at r.values (suc j.field)) v sound_field.kind
                (value_valid r (found_id t.records i r e).1 of) w)
                (λ _ _ w. absurd (none_is v w))
                refl w

        there_to : (y : Outcome) → (y ≡ outcome.Switched → ⊥) → type_there left_plan (record (to_clear y j) { failed = failed }) ≡ j.to
        there_to outcome.Open h = refl
        there_to outcome.Switched h = absurd (h refl)
        there_to outcome.Failed h = refl
        there_to outcome.Cancelled h = refl

        no_switch : (y : Outcome) → (y ≡ outcome.Switched → ⊥) → is_switched y ≡ false
        no_switch outcome.Open h = refl
        no_switch outcome.Switched h = absurd (h refl)
        no_switch outcome.Failed h = refl
        no_switch outcome.Cancelled h = refl

        fits : FitsPlan left_plan (with_job after t)
        fits = record {
          below = old.below;
          differ = old.differ;
          other = old.other;
          apart = λ k e busy i has e2.
              old.apart j is not_done i
              (subst (λ (y : model.Job). IsTrue (has_field t y.object i)) (sym (some_is after k e)) has)
              (subst (λ (y : model.Job). p.slot y.object i ≡ p.other) (sym (some_is after k e)) e2);
          was = old.was;
          switched = λ k g e clear done.
              let unswitched : is_switched k.outcome ≡ false =
              subst (λ (y : model.Job). is_switched y.outcome ≡ false) (some_is after k e) (no_switch x ended) in
              absurd (clash (sym unswitched ∙ done));
          left = λ k i v e clear found.
              subst (λ (y : model.Job). IsTrue (valid (type_there left_plan y) v)) (some_is after k e)
              (subst (λ (z : FieldType). valid z v ≡ true) (sym (there_to x ended)) (valid_left i v found));
        }

        pub stops : IsSound (with_job after t)
            → Takes org p t (accept done (with_job after t)) done any_plan (change_to job_form (job_of org left_plan after) ∷ [])
        stops sound_after =
            alone_takes left_plan after any_plan tt fits sound_after
            (λ key e. alone.stopped p t j x failed sound is copy ended key e)

      -- ---- switched

      module _ (empty : next_hundred t j ≡ []) (o : model.Object) (f : model.Field) (here : object_numbered t j.object ≡ Some o)
          (there : slice_get o.fields j.field ≡ Some f) where
        abbrev q : OrgPlan
        q = switched_plan p t j

        abbrev u : Tenant
        u = switched j t

        abbrev turn : model.Field → model.Field
        turn x = record x { kind = j.to }

        abbrev change : model.Object → model.Object
        change x = record x { fields = change_at j.field turn x.fields }

        field_there : row_in q u (Field org j.object j.field) ≡ Some (row_bytes field_form (field_of org q j.object j.field (turn f)))
        unfolding row_in
        field_there =
            rw (
              get_changed j.object change t.objects j.object,
              here,
              eqb_same j.object,
              get_changed j.field turn o.fields j.field,
              there,
              eqb_same j.field,
            )
            refl

        of_field : IsOf org q u (change_to field_form (field_of org q j.object j.field (turn f)))
        of_field = ((field_fits org p t j.object j.field o f lo sound old here there).0, refl, field_there)

        pub switches : IsSound u → Takes org p t (accept done u) done any_plan (switch_changes org q j f)
        switches after = record {
          answer = refl;
          sound = after;
          plan = q;
          kept = tt;
          fits = switch.plan_fits p t j sound old is copy empty;
          are = (of_field, (of_job q (to_clear outcome.Switched j) u refl, tt));
          rest = λ key own out. rest key own out;
        }
          where
            rest : (key : Key) → org_of_key key ≡ Some org → is_changed (switch_changes org q j f) key ≡ false
                → row_in q u key ≡ row_in p t key
            rest key own out =
                let is_field = key_eq key (Field org j.object j.field) in
                let is_job = key_eq key (Job org) in
                switch.rows_stay p t j sound old is copy empty key
                (other_field equal org j.object j.field key own (or_first is_field (is_job || false) out))
                (other_job equal org key own (or_first is_job false (or_second is_field (is_job || false) out)))
