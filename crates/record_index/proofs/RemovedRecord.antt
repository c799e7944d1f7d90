-- What is removed of a record that goes is what differs.
use Rattle.std.proofs.Common.{◌≡◌, ℕ, suc, Bool, true, false, not, ◌&&◌, ◌||◌, cond, eqb, IsTrue, List, ◌∷◌, Option, Some, None, refl, sym, ap, ap₂, subst, ◌∙◌}
use Rattle.std.specs.Prelude.{IfSome, codes, slice_get, slice_index_or}
use Rattle.std.specs.List.{range_with_len}
use Rattle.std.specs.Option.{option_and_then, option_map}
use Rattle.std.proofs.lemmas.Bool.{eq-eqb, eqb-true, true≢false as clash}
use Rattle.base_lemmas.proofs.Bools.{and_first as and_left, by_answer as pick}
use Rattle.std.proofs.lemmas.Option.{same_Some as some_is}
use Rattle.record_read.specs.Decoding.{read_slot}
use Rattle.record_read.proofs.Texts.{PrintsBack, slot_back}
use Rattle.formula.specs.Meaning.{value_at}
use Rattle.store_rows.specs.declared.data.DataRow.{DataRow}
use Rattle.store_rows.specs.Keys.{Data}
use Rattle.model.specs.declared.record.Record.{Record}
use Rattle.model.specs.Cases.{in_case}
use Rattle.model.specs.Jobs.{is_past}
use Rattle.model.specs.Objects.{is_of, object_numbered, record_at}
use Rattle.model.specs.Retyping.{is_checkbox}
use Rattle.model.specs.Sound.{IsSound}
use Rattle.model.specs.SoundJob.{IsSoundChange, IsSoundJob, is_switched, job_field}
use Rattle.model.specs.Tenant.{Field, Job, Object, Tenant}
use Rattle.model.specs.Updates.{is_copied}
use Rattle.record_index.specs.Changed.{SameKeys, record_changes, slot_changes}
use Rattle.record_index.specs.Made.{entry_of}
use Rattle.record_index.specs.Removed.{beside_entry, beside_of, beside_there, beside_value, is_left, left_value, removed_changes, removed_entry, text_value, values_removed}
use Rattle.record_index.specs.Turned.{copied_value}
use Rattle.record_index.proofs.Converting.{the_field}
use Rattle.record_index.proofs.CopiedEntries.{copied_is, field_there}
use Rattle.record_index.proofs.NewRecord.{flat_same, kept_is}
use Rattle.record_index.proofs.RemovedValues.{keys_go}
use Rattle.record_index.proofs.SlotEntries.{found_same}
use Rattle.record_index.proofs.TurnedRecord.{beside_is, text_there}
use Rattle.record_index.proofs.TurnedValues.{null_keys}
use Rattle.store_abstraction.specs.Changes.{Change}
use Rattle.store_abstraction.specs.Entries.{Entry, data_of, entry_text, field_entry, job_entry, job_value, other_entry, slot_entry, slot_field, slot_text}
use Rattle.store_abstraction.specs.Layouts.{job_place, layout_of, place_of}
use Rattle.store_abstraction.specs.Plan.{FitsPlan, OrgPlan, is_clearing, slot_count, slot_type, type_there}
use Rattle.store_abstraction.specs.Stands.{kept_at, kept_in}
use Rattle.store_abstraction.specs.declared.layout.FieldPlace.{FieldPlace}
use Rattle.store_abstraction.specs.declared.layout.JobPlace.{JobPlace}
use Rattle.store_abstraction.specs.declared.layout.Layout.{Layout}
use Rattle.base_value.specs.Conversion.{convert, convertible, where_read}
use Rattle.base_value.specs.Printing.{print_value}
use Rattle.base_value.specs.Reading.{read_value}
use Rattle.base_value.specs.Types.{is_reference, is_type, suits_indexed}
use Rattle.base_value.specs.Values.{valid}
use Rattle.base_value.specs.declared.job.Outcome.{Outcome}
use Rattle.base_value.specs.declared.job.Outcome.TheVariants as outcome
use Rattle.base_value.specs.declared.job.Phase.{Phase}
use Rattle.base_value.specs.declared.job.Phase.TheVariants as phase
use Rattle.base_value.specs.declared.value.FieldType.{FieldType}
use Rattle.base_value.specs.declared.value.FieldType.TheVariants as type
use Rattle.base_value.specs.declared.value.Value.{Value}
use Rattle.base_value.specs.declared.value.Value.TheVariants as value

-- ---- what is left reads back, and what has no text has no rows

-- values of this type, which aren't unique, and aren't truth values if they are indexed
record IsPlain (kind : FieldType) (indexed unique : Bool) : Type 0 where
  typed : is_type kind ≡ true
  not_unique : unique ≡ false
  not_truth : indexed ≡ true → is_checkbox kind ≡ false

false_keys : (kind : FieldType) (i u : Bool) → i ≡ false → u ≡ false → SameKeys None (Some (record { kind = kind; value = value.Bool false; indexed = i; unique = u }))
false_keys kind true u a b = absurd cc
false_keys kind false true a b = absurd cc
false_keys kind false false a b = record { index = refl; unique = refl; reference = refl }

truth_kind : (kind : FieldType) (truth : Bool) → valid kind (value.Bool truth) ≡ true → is_checkbox kind ≡ true
truth_kind type.Checkbox truth h = refl
truth_kind _ truth h = absurd cc

module _ (prints : PrintsBack) (kind : FieldType) (indexed unique : Bool) (plain : IsPlain kind indexed unique) where
  abbrev entry : Option Value → Option Entry
  entry x = option_map {U = Entry} (λ v. record { kind = kind; value = v; indexed = indexed; unique = unique }) x

  abbrev read : Option (List ℕ) → Option Value
  read text = option_and_then (text_value kind) text

  not_indexed : (truth : Bool) → valid kind (value.Bool truth) ≡ true → indexed ≡ false
  not_indexed truth h = by indexed refl
    where
      by : (b : Bool) → indexed ≡ b → b ≡ false
      by true e = absurd (clash (sym (truth_kind kind truth h) ∙ plain.not_truth e))
      by false e = refl

  reads_back : (v : Value) (text : List ℕ) → slot_text v ≡ Some text → valid kind v ≡ true → read (slot_text v) ≡ Some v
  reads_back v text e h =
      ap read e ∙ ap (λ b. cond b (where_read (read_value kind text)) None) plain.typed ∙ (sym (ap (read_slot kind) e) ∙ slot_back prints kind v plain.typed h)

  back : (v : Value) (text : List ℕ) → slot_text v ≡ Some text → valid kind v ≡ true → SameKeys (entry (read (slot_text v))) (entry (Some v))
  back v text e h = subst (λ (x : Option Value). SameKeys (entry x) (entry (Some v))) (sym (reads_back v text e h)) (record { index = refl; unique = refl; reference = refl })

  value_keys : (v : Value) → valid kind v ≡ true → SameKeys (entry (read (slot_text v))) (entry (Some v))
  value_keys value.Null h = null_keys kind indexed unique
  value_keys (value.Text cs) h = back (value.Text cs) (print_value (value.Text cs)) refl h
  value_keys (value.Num count) h = back (value.Num count) (print_value (value.Num count)) refl h
  value_keys (value.Bool true) h = back (value.Bool true) (codes "1") refl h
  value_keys (value.Bool false) h = false_keys kind indexed unique (not_indexed false h) plain.not_unique
  value_keys (value.Day day) h = back (value.Day day) (print_value (value.Day day)) refl h
  value_keys (value.Moment second) h = back (value.Moment second) (print_value (value.Moment second)) refl h
  value_keys (value.Ref id) h = back (value.Ref id) id refl h

  left_keys : (x : Option Value) → ((v : Value) → x ≡ Some v → valid kind v ≡ true) → SameKeys (entry (read (entry_text (entry x)))) (entry x)
  left_keys None h = record { index = refl; unique = refl; reference = refl }
  left_keys (Some v) h = value_keys v (h v refl)

-- ---- the change's field

suited : (kind : FieldType) (indexed : Bool) → (not indexed || suits_indexed kind) ≡ true → indexed ≡ true → is_checkbox kind ≡ false
suited type.Checkbox true h e = absurd cc
suited kind false h e = absurd cc
suited _ true h e = refl

no_truth : (kind : FieldType) (indexed : Bool) → (not indexed || not (is_checkbox kind)) ≡ true → indexed ≡ true → is_checkbox kind ≡ false
no_truth type.Checkbox true h e = absurd cc
no_truth kind false h e = absurd cc
no_truth _ true h e = refl

module _ (prints : PrintsBack) (org n : ℕ) (p : OrgPlan) (t : Tenant) (o : Object) (r : Record) (sound : IsSound t) (fits : FitsPlan p t) (here : object_numbered t n ≡ Some o) where
  abbrev own : Layout
  own = layout_of org p t (record { number = n; object = o })

  abbrev kept : DataRow
  kept = data_of org n r (slot_entry p t.job n o r)

  of_job : (j : Job) → t.job ≡ Some j → IsSoundJob t.counter t.objects t.records j
  of_job j e = subst (λ (x : Option Job). IfSome x (IsSoundJob t.counter t.objects t.records)) e sound.job

  the_change : (j : Job) (f : Field) → t.job ≡ Some j → job_field t.objects j ≡ Some f → IsSoundChange j f
  the_change j f e at = let job = of_job j e in subst (IsSoundChange j) (some_is job.field f (sym job.there ∙ at)) job.change

  -- what is left is of a type like that
  left_plain : (j : Job) (f : Field) → t.job ≡ Some j → j.phase ≡ phase.Clear → job_field t.objects j ≡ Some f → IsPlain (type_there p j) f.indexed f.unique
  left_plain j f e clears at = subst (λ (ph : Phase). IsPlain (slot_type p j ph j.outcome) f.indexed f.unique) (sym clears) (by j.outcome refl)
    where
      change : IsSoundChange j f
      change = the_change j f e at

      new : IsPlain j.to f.indexed f.unique
      new = record { typed = and_left (is_type j.to) (not (is_reference j.to)) change.to; not_unique = change.unique; not_truth = no_truth j.to f.indexed change.indexed }

      was : is_switched j.outcome ≡ true → IsPlain p.was f.indexed f.unique
      was switched = record {
        typed = and_left (is_type p.was) (not (is_reference p.was)) fits.was;
        not_unique = change.unique;
        not_truth = suited p.was f.indexed (and_left (not f.indexed || suits_indexed p.was) (convertible p.was j.to) (fits.switched j f e (ap is_clearing clears) switched at));
      }

      by : (x : Outcome) → j.outcome ≡ x → IsPlain (slot_type p j phase.Clear x) f.indexed f.unique
      by outcome.Switched is = was (ap is_switched is)
      by outcome.Open is = new
      by outcome.Failed is = new
      by outcome.Cancelled is = new

  -- ---- what the change has

  abbrev mapped : Job → Field → Option Value → Option Entry
  mapped j f x = option_map {U = Entry} (λ v. record { kind = type_there p j; value = v; indexed = f.indexed; unique = f.unique }) x

  same_keys : (e : Option Entry) → SameKeys e e
  same_keys e = record { index = refl; unique = refl; reference = refl }

  alike : (j : Job) (f : Field) (x y : Option Value) → x ≡ y → SameKeys (mapped j f x) (mapped j f y)
  alike j f x y e = subst (λ (z : Option Value). SameKeys (mapped j f x) (mapped j f z)) e (same_keys (mapped j f x))

  -- the text that is left
  left_there : (j : Job) (f : Field) → t.job ≡ Some j → eqb j.object n ≡ true → slot_field p n o.fields p.other ≡ None → slice_get o.fields j.field ≡ Some f
      → slice_index_or kept.slots p.other None ≡ entry_text (mapped j f (job_value p j j.phase r))
  left_there j f e at none there =
      text_there (slot_entry p t.job n o r) p.other fits.other
      ∙ ap entry_text (beside_is p t n o r p.other none ∙ ap (λ (x : Option Job). other_entry p x n o r p.other) e ∙ ap (λ b. cond (b && eqb p.other p.other) (option_and_then (job_entry p j r) (slice_get o.fields j.field)) None) at
      ∙ ap (λ b. cond b (option_and_then (job_entry p j r) (slice_get o.fields j.field)) None) (eq-eqb p.other p.other refl)
      ∙ ap (option_and_then (job_entry p j r)) there)

  abbrev beside : Job → Phase → Option Value
  beside j ph = cond (is_left ph j.cursor r.id) (left_value (job_place p j) kept) (copied_value (job_place p j) r)

  pub beside_keys : (j : Job) (f : Field) → t.job ≡ Some j → eqb j.object n ≡ true → slot_field p n o.fields p.other ≡ None → slice_get o.fields j.field ≡ Some f
      → SameKeys (mapped j f (beside_value (job_place p j) kept r)) (mapped j f (job_value p j j.phase r))
  beside_keys j f e at none there = by j.phase refl
    where
      field_is : job_field t.objects j ≡ Some f
      field_is = the_field t n o j here (eqb-true j.object n at) ∙ there

      cleared : j.phase ≡ phase.Clear → is_past j.cursor r.id ≡ true → SameKeys (mapped j f (left_value (job_place p j) kept)) (mapped j f (p.left r.id))
      cleared clears past =
          let left : job_value p j j.phase r ≡ p.left r.id = ap (λ (ph : Phase). job_value p j ph r) clears ∙ ap (λ b. cond b (p.left r.id) None) past in
          let text : slice_index_or kept.slots p.other None ≡ entry_text (mapped j f (p.left r.id)) = left_there j f e at none there ∙ ap (λ (x : Option Value). entry_text (mapped j f x)) left in
          subst (λ (x : Option (List ℕ)). SameKeys (mapped j f (option_and_then (text_value (type_there p j)) x)) (mapped j f (p.left r.id))) (sym text)
          (left_keys prints (type_there p j) f.indexed f.unique (left_plain j f e clears field_is) (p.left r.id) (λ v is. fits.left j r.id v e (ap is_clearing clears) is))

      not_copied : j.phase ≡ phase.Clear → copied_value (job_place p j) r ≡ None
      not_copied clears = ap (λ (ph : Phase). cond (is_copied ph j.cursor r.id) (convert (type_there p j) (value_at r.values (suc j.field))) None) clears

      by : (ph : Phase) → j.phase ≡ ph → SameKeys (mapped j f (beside j ph)) (mapped j f (job_value p j ph r))
      by phase.Copy is = alike j f (copied_value (job_place p j) r) (job_value p j phase.Copy r) (copied_is p j r is ∙ ap (λ (ph : Phase). job_value p j ph r) is)
      by phase.Clear is =
          pick (is_past j.cursor r.id)
          (λ b. is_past j.cursor r.id ≡ b → SameKeys (mapped j f (cond b (left_value (job_place p j) kept) (copied_value (job_place p j) r))) (mapped j f (cond b (p.left r.id) None)))
          (λ _ past. cleared is past)
          (λ _ _. alike j f (copied_value (job_place p j) r) None (not_copied is))
          refl
      by phase.Done is = alike j f (copied_value (job_place p j) r) None (ap (λ (ph : Phase). cond (is_copied ph j.cursor r.id) (convert (type_there p j) (value_at r.values (suc j.field))) None) is)

  -- ---- the slots

  abbrev gone : ℕ → Option Entry → List Change
  gone s e = slot_changes org n r.id e None s

  there_goes : (s : ℕ) (j : Job) → t.job ≡ Some j → eqb j.object n ≡ true → slot_field p n o.fields p.other ≡ None
      → gone s (beside_there own (job_place p j) kept r) ≡ gone s (option_and_then (job_entry p j r) (slice_get o.fields j.field))
  there_goes s j e at none =
      ap (gone s) (field_there p n (beside_of (job_place p j) kept r) (λ f. mapped j f (beside_value (job_place p j) kept r)) (λ i x. refl) 0 j.field o.fields)
      ∙ by (slice_get o.fields j.field) refl
    where
      by : (x : Option Field) → slice_get o.fields j.field ≡ x → gone s (option_and_then (λ f. mapped j f (beside_value (job_place p j) kept r)) x) ≡ gone s (option_and_then (job_entry p j r) x)
      by None is = refl
      by (Some f) is = keys_go org n r.id (mapped j f (beside_value (job_place p j) kept r)) (mapped j f (job_value p j j.phase r)) s (beside_keys j f e at none is)

  abbrev beside_in : ℕ → Option JobPlace → Option Entry
  beside_in s job = in_case job None (λ j. cond (eqb j.twin s) (beside_there own j kept r) None)

  others_go : (s : ℕ) → slot_field p n o.fields s ≡ None → gone s (beside_entry own kept r s) ≡ gone s (other_entry p t.job n o r s)
  others_go s none = by t.job refl
    where
      by : (job : Option Job) → t.job ≡ job → gone s (beside_in s (option_and_then (λ (j : Job). cond (eqb j.object n) (Some (job_place p j)) None) job)) ≡ gone s (other_entry p job n o r s)
      by None e = refl
      by (Some j) e =
          pick (eqb j.object n)
          (λ b. eqb j.object n ≡ b
          → gone s (beside_in s (cond b (Some (job_place p j)) None)) ≡ gone s (cond (b && eqb p.other s) (option_and_then (job_entry p j r) (slice_get o.fields j.field)) None))
          (λ _ at.
          pick (eqb p.other s)
          (λ b. eqb p.other s ≡ b
          → gone s (cond b (beside_there own (job_place p j) kept r) None) ≡ gone s (cond b (option_and_then (job_entry p j r) (slice_get o.fields j.field)) None))
          (λ _ one. there_goes s j e at (subst (λ (x : ℕ). slot_field p n o.fields x ≡ None) (sym (eqb-true p.other s one)) none))
          (λ _ _. refl)
          refl)
          (λ _ _. refl)
          refl

  slot_goes : (s : ℕ) → gone s (removed_entry own kept r s) ≡ gone s (slot_entry p t.job n o r s)
  unfolding slot_entry
  slot_goes s = ap (λ (x : Option (ℕ × FieldPlace)). gone s (in_case (option_map entry_in x) (beside_entry own kept r s) Some)) (found_same p n s 0 o.fields) ∙ by (slot_field p n o.fields s) refl
    where
      entry_in : ℕ × FieldPlace → Entry
      entry_in f = entry_of f.1 (value_at r.values (suc f.0))

      by : (x : Option (ℕ × Field)) → slot_field p n o.fields s ≡ x
          → gone s (in_case (option_map entry_in (option_map {U = ℕ × FieldPlace} (λ (f : ℕ × Field). (f.0, place_of p n f)) x)) (beside_entry own kept r s) Some)
          ≡ gone s (in_case x (other_entry p t.job n o r s) (λ f. Some (field_entry r f)))
      by None none = others_go s none
      by (Some f) _ = refl

  pub removed_in : removed_changes own kept r ≡ record_changes org n r.id (Some (kept_in p t n o r)) None
  unfolding removed_changes values_removed record_changes
  removed_in =
      ap (λ (cs : List Change). (Data org n r.id, None) ∷ cs)
      (flat_same (λ s. gone s (removed_entry own kept r s)) (λ s. gone s (slot_entry p t.job n o r s)) slot_goes (range_with_len 0 slot_count))

-- ---- the law

gone_is : (p : OrgPlan) (u : Tenant) (n : ℕ) (id : List ℕ) → record_at u id ≡ None → kept_at p u n id ≡ None
unfolding kept_at
gone_is p u n id e = ap (option_and_then (λ (r : Record). cond (is_of n r) (option_map (λ o. kept_in p u n o r) (object_numbered u n)) None)) e

pub removed_is : PrintsBack → (org n : ℕ) (p : OrgPlan) (t u : Tenant) (o : Object) (old : Record) → IsSound t → FitsPlan p t → IsTrue (is_of n old)
    → record_at t old.id ≡ Some old → record_at u old.id ≡ None → object_numbered t n ≡ Some o
    → removed_changes (layout_of org p t (record { number = n; object = o })) (data_of org n old (slot_entry p t.job n o old)) old
    ≡ record_changes org n old.id (kept_at p t n old.id) (kept_at p u n old.id)
removed_is prints org n p t u o old sound fits of there after here =
    removed_in prints org n p t o old sound fits here
    ∙ sym (ap₂ (record_changes org n old.id) (kept_is p t n o old of there here) (gone_is p u n old.id after))
