-- What the code turns in the slot of a change is what the layouts say.
use Rattle.std.proofs.Common.{◌≡◌, ◌≢◌, ℕ, Bool, true, false, cond, eqb, List, [], Option, Some, None, Bor, refl, sym, ap, ap₂, subst, ◌∙◌}
use Rattle.std.specs.Prelude.{slice_get}
use Rattle.std.specs.Option.{option_and_then, option_copied, option_map}
use Rattle.std.proofs.lemmas.Bool.{eq-eqb}
use Rattle.std.proofs.lemmas.Option.{same_Some as some_is}
use Rattle.record_read.specs.Decoding.{has_types, kinds_in}
use Rattle.store_rows.specs.declared.data.DataRow.{DataRow}
use Rattle.model.specs.SoundRecords.{all_valid}
use Rattle.model.specs.Cases.{in_case}
use Rattle.model.specs.declared.record.Record.{Record}
use Rattle.record_index.specs.Changed.{slot_changes}
use Rattle.record_index.specs.Removed.{beside_entry, beside_of, beside_there, beside_value}
use Rattle.record_index.specs.Turned.{converts, converts_to}
use Rattle.record_index.proofs.TurnedValues.{copied_keys, given, keys_turn}
use Rattle.retype_step.specs.backfill.Progress.{come_to, job_come_to, twin_changes}
use Rattle.store_abstraction.specs.Changes.{Change}
use Rattle.store_abstraction.specs.Entries.{Entry}
use Rattle.store_abstraction.specs.declared.layout.FieldPlace.{FieldPlace}
use Rattle.store_abstraction.specs.declared.layout.JobPlace.{JobPlace}
use Rattle.store_abstraction.specs.declared.layout.Layout.{Layout}
use Rattle.base_value.specs.declared.value.Value.{Value}

-- ---- the entry of a change, by its layout

abbrev in_layout : Layout → DataRow → Record → ℕ → Option JobPlace → Option Entry
in_layout l kept r s job = in_case job None (λ j. cond (eqb j.twin s) (beside_there l j kept r) None)

there_is : (l : Layout) (kept : DataRow) (r : Record) (j : JobPlace) (f : FieldPlace) (s : ℕ) → l.job ≡ Some j → j.twin ≡ s → slice_get l.fields j.field ≡ Some f → beside_entry l kept r s ≡ beside_of j kept r f
there_is l kept r j f s job twin at =
    ap (in_layout l kept r s) job
    ∙ ap (λ b. cond b (beside_there l j kept r) None) (eq-eqb j.twin s twin)
    ∙ ap (option_and_then (beside_of j kept r)) at

none_there : (l : Layout) (kept : DataRow) (r : Record) (j : JobPlace) (s : ℕ) → l.job ≡ Some j → slice_get l.fields j.field ≡ None → beside_entry l kept r s ≡ None
none_there l kept r j s job at =
    ap (in_layout l kept r s) job
    ∙ ap (λ (x : Option FieldPlace). cond (eqb j.twin s) (option_and_then (beside_of j kept r) x) None) at
    ∙ nothing (eqb j.twin s)
  where
    nothing : (b : Bool) → cond {A = Option Entry} b None None ≡ None
    nothing true = refl
    nothing false = refl

-- ---- both layouts

module _ (l m : Layout) (c : Option (List ℕ)) (come : m ≡ come_to c l) where
  job_after : m.job ≡ option_map (job_come_to c) l.job
  job_after = ap (λ (x : Layout). x.job) come

  fields_after : m.fields ≡ l.fields
  fields_after = ap (λ (x : Layout). x.fields) come

  after_is : (j k : JobPlace) → l.job ≡ Some j → m.job ≡ Some k → job_come_to c j ≡ k
  after_is j k before after = some_is (job_come_to c j) k (sym (job_after ∙ ap (option_map (job_come_to c)) before) ∙ after)

  pub twin_after : (j k : JobPlace) → l.job ≡ Some j → m.job ≡ Some k → k.twin ≡ j.twin
  twin_after j k before after = sym (ap (λ (x : JobPlace). x.twin) (after_is j k before after))

  pub field_after : (j k : JobPlace) → l.job ≡ Some j → m.job ≡ Some k → k.field ≡ j.field
  field_after j k before after = sym (ap (λ (x : JobPlace). x.field) (after_is j k before after))

  pub converts_after : (j k : JobPlace) (f : FieldPlace) → l.job ≡ Some j → m.job ≡ Some k → converts_to j f ≡ true → converts_to k f ≡ true
  converts_after j k f before after h = subst (λ (x : JobPlace). converts_to x f ≡ true) (after_is j k before after) h

  pub there_after : (j k : JobPlace) (f : FieldPlace) → l.job ≡ Some j → m.job ≡ Some k → slice_get l.fields j.field ≡ Some f → slice_get m.fields k.field ≡ Some f
  there_after j k f before after at = ap₂ (λ (fs : List FieldPlace) (i : ℕ). slice_get fs i) fields_after (field_after j k before after) ∙ at

  -- the premises of the rows that are made
  pub types_after : has_types l ≡ true → has_types m ≡ true
  types_after h = subst (λ (x : Layout). has_types x ≡ true) (sym come) h

  pub values_after : (r : Record) → all_valid (kinds_in l.fields) r.values ≡ true → all_valid (kinds_in m.fields) r.values ≡ true
  values_after r h = subst (λ (x : Layout). all_valid (kinds_in x.fields) r.values ≡ true) (sym come) h

  pub all_convert : converts l ≡ true → converts m ≡ true
  all_convert h = subst (λ (x : Layout). converts x ≡ true) (sym come) (same l.job ∙ h)
    where
      same : (x : Option JobPlace) → in_case (option_map (job_come_to c) x) true (λ j. in_case (slice_get l.fields j.field) true (converts_to j)) ≡ in_case x true (λ j. in_case (slice_get l.fields j.field) true (converts_to j))
      same None = refl
      same (Some j) = refl

  module _ (kept : DataRow) (r : Record) where
    abbrev turn : ℕ → Option Entry → Option Entry → List Change
    turn s e g = slot_changes l.org l.object r.id e g s

    abbrev by_job : Option JobPlace → List Change
    by_job x = in_case x [] (λ j. turn j.twin (beside_entry l kept r j.twin) (beside_entry m kept r j.twin))

    pub no_job : l.job ≡ None → twin_changes l m kept r ≡ []
    no_job e = ap by_job e

    -- a change is in both
    pub no_job_after : l.job ≢ None → m.job ≡ None → twin_changes l m kept r ≡ []
    no_job_after some none = by l.job refl
      where
        by : (x : Option JobPlace) → l.job ≡ x → twin_changes l m kept r ≡ []
        by None e = absurd (some e)
        by (Some j) e = absurd (let at = sym none ∙ job_after ∙ ap (option_map (job_come_to c)) e in cc)

    pub no_field : (j : JobPlace) → l.job ≡ Some j → slice_get l.fields j.field ≡ None → twin_changes l m kept r ≡ []
    no_field j e none =
        ap by_job e
        ∙ ap₂ (turn j.twin) (none_there l kept r j j.twin e none) (none_there m kept r (job_come_to c j) j.twin (job_after ∙ ap (option_map (job_come_to c)) e) (ap (λ (fs : List FieldPlace). slice_get fs j.field) fields_after ∙ none))

    pub twin_turns : (j k : JobPlace) (f : FieldPlace) (x y : Option (Bor Value)) → l.job ≡ Some j → m.job ≡ Some k → slice_get l.fields j.field ≡ Some f
        → option_copied x ≡ beside_value j kept r → option_copied y ≡ beside_value k kept r → turn j.twin (given f x) (given f y) ≡ twin_changes l m kept r
    twin_turns j k f x y before after at old new =
        keys_turn l.org l.object r.id (given f x) (beside_of j kept r f) (given f y) (beside_of k kept r f) j.twin
        (copied_keys j f x (beside_value j kept r) old) (copied_keys k f y (beside_value k kept r) new)
        ∙ sym (ap by_job before
        ∙ ap₂ (turn j.twin) (there_is l kept r j f j.twin before refl at) (there_is m kept r k f j.twin after (twin_after j k before after) (there_after j k f before after at)))
