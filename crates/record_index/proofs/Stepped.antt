-- A record that a change of a field's type comes to: what the layout says of the change's slot is what the plan says, before and after,
-- and the row that is made anew is the one that tables have.
use Rattle.std.proofs.Common.{◌≡◌, ◌≢◌, ℕ, suc, ◌<◌, Bool, true, false, not, ◌&&◌, cond, eqb, IsTrue, List, length, map, set, Option, Some, None, refl, sym, ap, subst, ◌∙◌, arith}
use Rattle.std.specs.Prelude.{slice_get, slice_index_or}
use Rattle.std.specs.List.{list_all, range_with_len}
use Rattle.std.specs.Option.{option_and_then, option_map}
use Rattle.std.proofs.lemmas.Bool.{eq-eqb, eqb-true}
use Rattle.std.proofs.lemmas.Grind.{get_or-set_at}
use Rattle.std.proofs.lemmas.List.{get_or-set_other}
use Rattle.std.proofs.lemmas.List.FromFn.{get_or-map-range_with_len, length-map-range_with_len}
use Rattle.base_lemmas.proofs.Bools.{by_answer as pick}
use Rattle.record_read.specs.Encoding.{field_of_slot, kept_text, row_from, text_of_slot, texts_of_slots, value_text}
use Rattle.record_read.proofs.Texts.{PrintsBack}
use Rattle.formula.specs.Meaning.{value_at}
use Rattle.store_rows.specs.declared.data.DataRow.{DataRow}
use Rattle.model.specs.declared.record.Record.{Record}
use Rattle.model.specs.Cases.{in_case}
use Rattle.model.specs.Jobs.{is_past}
use Rattle.model.specs.Objects.{object_numbered}
use Rattle.model.specs.Sound.{IsSound}
use Rattle.model.specs.Tenant.{Field, Job, Object, Tenant}
use Rattle.model.specs.Updates.{is_copied}
use Rattle.record_index.specs.Changed.{SameKeys}
use Rattle.record_index.specs.Removed.{beside_entry, beside_of, beside_there, beside_value, is_left, left_value}
use Rattle.record_index.specs.Turned.{copied_there, copied_value, turned_row, with_text}
use Rattle.record_index.proofs.CopiedEntries.{copied_is, copies, field_there, past_is, there_is}
use Rattle.record_index.proofs.RemovedRecord.{beside_keys}
use Rattle.record_index.proofs.SlotEntries.{entry_none}
use Rattle.record_index.proofs.TurnedRecord.{RowRewritten, beside_is, no_field, row_beside, text_there}
use Rattle.store_abstraction.specs.Entries.{Entry, data_of, entry_text, job_entry, job_value, other_entry, slot_entry, slot_field, slots_of}
use Rattle.store_abstraction.specs.Layouts.{job_place, layout_of}
use Rattle.store_abstraction.specs.Plan.{FitsPlan, OrgPlan, slot_count, type_there}
use Rattle.store_abstraction.specs.declared.layout.JobPlace.{JobPlace}
use Rattle.store_abstraction.specs.declared.layout.Layout.{Layout}
use Rattle.base_value.specs.Conversion.{convert}
use Rattle.base_value.specs.Printing.{is_printable}
use Rattle.base_value.specs.declared.job.Phase.{Phase}
use Rattle.base_value.specs.declared.job.Phase.TheVariants as phase
use Rattle.base_value.specs.declared.value.Value.{Value}

module _ (org n : ℕ) (p : OrgPlan) (t : Tenant) (o : Object) (r : Record) (j : Job) (is : t.job ≡ Some j) (at : eqb j.object n ≡ true) where
  abbrev own : Layout
  own = layout_of org p t (record { number = n; object = o })

  abbrev mapped : Field → Option Value → Option Entry
  mapped f x = option_map {U = Entry} (λ v. record { kind = type_there p j; value = v; indexed = f.indexed; unique = f.unique }) x

  abbrev there : Option Entry
  there = option_and_then (job_entry p j r) (slice_get o.fields j.field)

  -- what the layout says is in the change's slot
  beside_here : (kept : DataRow) → beside_entry own kept r p.other ≡ option_and_then (λ f. mapped f (beside_value (job_place p j) kept r)) (slice_get o.fields j.field)
  beside_here kept =
      ap (λ (x : Option Job). in_case (option_and_then (λ (j : Job). cond (eqb j.object n) (Some (job_place p j)) None) x) None (λ j. cond (eqb j.twin p.other) (beside_there own j kept r) None)) is
      ∙ ap (λ b. in_case (cond b (Some (job_place p j)) None) None (λ j. cond (eqb j.twin p.other) (beside_there own j kept r) None)) at
      ∙ ap (λ b. cond b (beside_there own (job_place p j) kept r) None) (eq-eqb p.other p.other refl)
      ∙ field_there p n (beside_of (job_place p j) kept r) (λ f. mapped f (beside_value (job_place p j) kept r)) (λ i x. refl) 0 j.field o.fields

  other_is : (s : ℕ) → other_entry p t.job n o r s ≡ cond (eqb p.other s) there None
  other_is s = ap (λ job. other_entry p job n o r s) is ∙ ap (λ b. cond (b && eqb p.other s) there None) at

  -- what the plan says
  slot_here : slot_field p n o.fields p.other ≡ None → slot_entry p t.job n o r p.other ≡ there
  slot_here vacant = beside_is p t n o r p.other vacant ∙ other_is p.other ∙ ap (λ b. cond b there None) (eq-eqb p.other p.other refl)

  -- ---- before

  abbrev kept_row : DataRow
  kept_row = data_of org n r (slot_entry p t.job n o r)

  pub beside_same : PrintsBack → IsSound t → FitsPlan p t → object_numbered t n ≡ Some o → slot_field p n o.fields p.other ≡ None → SameKeys (beside_entry own kept_row r p.other) (slot_entry p t.job n o r p.other)
  beside_same prints sound fits here vacant =
      subst (λ (e : Option Entry). SameKeys e (slot_entry p t.job n o r p.other)) (sym (beside_here kept_row))
      (subst (SameKeys (option_and_then (λ f. mapped f (beside_value (job_place p j) kept_row r)) (slice_get o.fields j.field))) (sym (slot_here vacant)) (by (slice_get o.fields j.field) refl))
    where
      by : (x : Option Field) → slice_get o.fields j.field ≡ x → SameKeys (option_and_then (λ f. mapped f (beside_value (job_place p j) kept_row r)) x) (option_and_then (job_entry p j r) x)
      by None e = record { index = refl; unique = refl; reference = refl }
      by (Some f) e = beside_keys prints org n p t o r sound fits here j f is at vacant e

  -- ---- once the change has come to the record

  module _ (come : is_past j.cursor r.id ≡ false) where
    abbrev beside_in : DataRow → Phase → Option Value
    beside_in kept ph = cond (is_left ph j.cursor r.id) (left_value (job_place p j) kept) (cond (is_copied ph j.cursor r.id) (convert (type_there p j) (value_at r.values (suc j.field))) None)

    -- the row that is kept doesn't matter
    value_is : (kept : DataRow) → beside_value (job_place p j) kept r ≡ job_value p j j.phase r
    value_is kept = by j.phase refl
      where
        by : (ph : Phase) → j.phase ≡ ph → beside_in kept ph ≡ job_value p j ph r
        by phase.Copy e = ap (λ (ph : Phase). cond (is_copied ph j.cursor r.id) (convert (type_there p j) (value_at r.values (suc j.field))) None) (sym e) ∙ copied_is p j r e ∙ ap (λ (ph : Phase). job_value p j ph r) e
        by phase.Clear e = rw come refl
        by phase.Done e = refl

    pub entry_is : (kept : DataRow) → slot_field p n o.fields p.other ≡ None → beside_entry own kept r p.other ≡ slot_entry p t.job n o r p.other
    entry_is kept vacant = beside_here kept ∙ by (slice_get o.fields j.field) ∙ sym (slot_here vacant)
      where
        by : (x : Option Field) → option_and_then (λ f. mapped f (beside_value (job_place p j) kept r)) x ≡ option_and_then (job_entry p j r) x
        by None = refl
        by (Some f) = ap (mapped f) (value_is kept)

    -- ---- the row

    abbrev bare : DataRow
    bare = row_from own r None

    abbrev new_text : Option (List ℕ)
    new_text = entry_text (copied_there own (job_place p j) r)

    abbrev over : Bool → DataRow
    over b = cond b (with_text p.other new_text bare) bare

    abbrev in_row : ℕ → Option (List ℕ)
    in_row s = slice_index_or (slots_of (slot_entry p t.job n o r)) s None

    -- what the row holds in a slot of no field
    row_there : (s : ℕ) → s < slot_count → slot_field p n o.fields s ≡ None → in_row s ≡ entry_text (cond (eqb p.other s) there None)
    row_there s lt none = text_there (slot_entry p t.job n o r) s lt ∙ ap entry_text (beside_is p t n o r s none ∙ other_is s)

    bare_there : (s : ℕ) → s < slot_count → field_of_slot own.fields s ≡ None → slice_index_or bare.slots s None ≡ None
    unfolding texts_of_slots
    bare_there s lt none =
        get_or-map-range_with_len (text_of_slot own r None) 0 slot_count s s None lt (omega arith)
        ∙ ap (λ (x : Option ℕ). in_case x (kept_text None s) (λ f. value_text (value_at r.values (suc f)))) none

    bare_length : length bare.slots ≡ slot_count
    unfolding texts_of_slots
    bare_length = length-map-range_with_len (text_of_slot own r None) 0 slot_count

    copied_beside : is_copied j.phase j.cursor r.id ≡ true → (s : ℕ) → s < slot_count → field_of_slot own.fields s ≡ None → slice_index_or (set bare.slots p.other new_text) s None ≡ in_row s
    copied_beside copied s lt none =
        pick (eqb p.other s)
        (λ b. eqb p.other s ≡ b → slice_index_or (set bare.slots p.other new_text) s None ≡ in_row s)
        (λ _ here.
        let one : p.other ≡ s = eqb-true p.other s here in
        let size : length bare.slots ≡ 48 = bare_length in
        let low : p.other < length bare.slots = omega (arith, one, size, lt) in
        get_or-set_at bare.slots p.other s new_text None (sym one) low
        ∙ ap entry_text (there_is org n p t o j r (copies j.phase j.cursor r.id copied))
        ∙ sym (row_there s lt (no_field org n p t o s none) ∙ ap (λ b. entry_text (cond b there None)) here))
        (λ _ elsewhere.
        let apart : s ≢ p.other = (λ e. absurd (let h = eq-eqb p.other s (sym e) in cc)) in
        get_or-set_other bare.slots p.other s new_text None apart
        ∙ bare_there s lt none
        ∙ sym (row_there s lt (no_field org n p t o s none) ∙ ap (λ b. entry_text (cond b there None)) elsewhere))
        refl

    -- where nothing is copied, nothing is left either
    nothing : is_copied j.phase j.cursor r.id ≡ false → job_value p j j.phase r ≡ None
    nothing none = by j.phase none
      where
        by : (ph : Phase) → is_copied ph j.cursor r.id ≡ false → job_value p j ph r ≡ None
        by phase.Copy e = absurd (let past = sym come ∙ past_is j.cursor r.id ∙ ap not e in cc)
        by phase.Clear e = ap (λ b. cond b (p.left r.id) None) come
        by phase.Done e = refl

    plain_beside : is_copied j.phase j.cursor r.id ≡ false → (s : ℕ) → s < slot_count → field_of_slot own.fields s ≡ None → slice_index_or bare.slots s None ≡ in_row s
    plain_beside none s lt e =
        bare_there s lt e
        ∙ sym (row_there s lt (no_field org n p t o s e) ∙ ap (λ (x : Option Entry). entry_text (cond (eqb p.other s) x None)) (entry_none p j r (nothing none) (slice_get o.fields j.field)) ∙ no_text (eqb p.other s))
      where
        no_text : (b : Bool) → entry_text (cond {A = Option Entry} b None None) ≡ None
        no_text true = refl
        no_text false = refl

    over_job : Option JobPlace → DataRow
    over_job job = in_case job bare (λ j. cond (is_copied j.phase j.cursor r.id) (with_text j.twin (entry_text (copied_there own j r)) bare) bare)

    row_over : (b : Bool) → is_copied j.phase j.cursor r.id ≡ b → row_from own r (Some (over b)) ≡ row_from own r (Some kept_row)
    row_over true copied = row_beside own r (with_text p.other new_text bare) kept_row (copied_beside copied)
    row_over false none = row_beside own r bare kept_row (plain_beside none)

    pub row_is : RowRewritten → IsTrue (list_all is_printable r.values) → turned_row own bare r ≡ kept_row
    unfolding over_job
    row_is rewritten printable =
        ap (λ (x : Option Job). row_from own r (Some (over_job (option_and_then (λ (j : Job). cond (eqb j.object n) (Some (job_place p j)) None) x)))) is
        ∙ ap (λ b. row_from own r (Some (over_job (cond b (Some (job_place p j)) None)))) at
        ∙ row_over (is_copied j.phase j.cursor r.id) refl
        ∙ rewritten org n p t o r r (λ _ _ _. refl) printable

-- ---- the laws

pub beside : PrintsBack → (org n : ℕ) (p : OrgPlan) (t : Tenant) (o : Object) (r : Record) (j : Job) → IsSound t → FitsPlan p t → t.job ≡ Some j → j.object ≡ n → object_numbered t n ≡ Some o → slot_field p n o.fields p.other ≡ None
    → SameKeys (beside_entry (layout_of org p t (record { number = n; object = o })) (data_of org n r (slot_entry p t.job n o r)) r p.other) (slot_entry p t.job n o r p.other)
beside prints org n p t o r j sound fits is at here vacant = beside_same org n p t o r j is (eq-eqb j.object n at) prints sound fits here vacant

pub come_entry : (org n : ℕ) (p : OrgPlan) (t : Tenant) (o : Object) (r : Record) (j : Job) (kept : DataRow) → t.job ≡ Some j → j.object ≡ n → is_past j.cursor r.id ≡ false → slot_field p n o.fields p.other ≡ None
    → beside_entry (layout_of org p t (record { number = n; object = o })) kept r p.other ≡ slot_entry p t.job n o r p.other
come_entry org n p t o r j kept is at come vacant = entry_is org n p t o r j is (eq-eqb j.object n at) come kept vacant

pub come_row : RowRewritten → (org n : ℕ) (p : OrgPlan) (t : Tenant) (o : Object) (r : Record) (j : Job) → t.job ≡ Some j → j.object ≡ n → is_past j.cursor r.id ≡ false → IsTrue (list_all is_printable r.values)
    → turned_row (layout_of org p t (record { number = n; object = o })) (row_from (layout_of org p t (record { number = n; object = o })) r None) r ≡ data_of org n r (slot_entry p t.job n o r)
come_row rewritten org n p t o r j is at come printable = row_is org n p t o r j is (eq-eqb j.object n at) come rewritten printable
