-- What is turned of a record whose values change is what differs.
use Rattle.std.proofs.Common.{◌≡◌, ◌≢◌, ℕ, suc, ◌<◌, ◌&&◌, Bool, true, cond, eqb, IsTrue, List, ◌∷◌, length, set, Option, Some, None, refl, sym, ap, ap₂, subst, ◌∙◌, arith}
use Rattle.std.specs.Prelude.{slice_get, slice_index_or}
use Rattle.std.specs.List.{list_all, range_with_len}
use Rattle.std.specs.Option.{option_and_then, option_map}
use Rattle.std.proofs.lemmas.Bool.{eq-eqb, eqb-true}
use Rattle.std.proofs.lemmas.Grind.{get_or-set_at}
use Rattle.std.proofs.lemmas.List.{get_or-set_other}
use Rattle.std.proofs.lemmas.List.FromFn.{get_or-map-range_with_len, length-map-range_with_len}
use Rattle.base_lemmas.proofs.Lists.{map-range_with_len_same as same_below}
use Rattle.base_lemmas.proofs.Bools.{by_answer as pick}
use Rattle.std.proofs.lemmas.Option.{same_Some as some_is}
use Rattle.record_read.specs.Encoding.{field_of_slot, kept_text, row_from, text_of_slot, texts_of_slots, value_text}
use Rattle.record_read.proofs.Writing.{number_same}
use Rattle.formula.specs.Meaning.{value_at}
use Rattle.store_rows.specs.declared.data.DataRow.{DataRow}
use Rattle.store_rows.specs.Forms.{row_bytes}
use Rattle.store_rows.specs.Keys.{Data}
use Rattle.store_rows.specs.Rows.{data_form}
use Rattle.model.specs.declared.record.Record.{Record}
use Rattle.model.specs.Cases.{in_case}
use Rattle.model.specs.Objects.{is_of, object_number, object_numbered, record_at}
use Rattle.model.specs.Tenant.{Field, Job, Object, Tenant}
use Rattle.model.specs.Updates.{is_copied}
use Rattle.record_index.specs.Changed.{record_changes, slot_changes}
use Rattle.record_index.specs.Made.{entry_of}
use Rattle.record_index.specs.Turned.{copied_entry, copied_there, turned_changes, turned_entry, turned_row, values_turned, with_text}
use Rattle.record_index.proofs.CopiedEntries.{copies, others_turn, there_is, value_stays}
use Rattle.record_index.proofs.NewRecord.{flat_same, kept_is}
use Rattle.record_index.proofs.SlotEntries.{found_same}
use Rattle.store_abstraction.specs.Changes.{Change}
use Rattle.store_abstraction.specs.Entries.{Entry, data_of, entry_text, field_entry, job_entry, job_value, other_entry, slot_entry, slot_field, slots_of}
use Rattle.store_abstraction.specs.Layouts.{job_place, layout_of, place_of}
use Rattle.store_abstraction.specs.Plan.{OrgPlan, slot_count}
use Rattle.store_abstraction.specs.Stands.{Kept, kept_at, kept_in}
use Rattle.store_abstraction.specs.declared.layout.FieldPlace.{FieldPlace}
use Rattle.store_abstraction.specs.declared.layout.JobPlace.{JobPlace}
use Rattle.store_abstraction.specs.declared.layout.Layout.{Layout}
use Rattle.base_value.specs.Printing.{is_printable}

-- what `record_read` says of the row that is made of a record over that of another
abbrev pub RowRewritten : Type 0
RowRewritten = (org n : ℕ) (p : OrgPlan) (t : Tenant) (o : Object) (q r : Record)
    → ((j : Job) → t.job ≡ Some j → j.object ≡ n → job_value p j j.phase q ≡ job_value p j j.phase r) → IsTrue (list_all is_printable r.values)
    → row_from (layout_of org p t (record { number = n; object = o })) r (Some (data_of org n q (slot_entry p t.job n o q))) ≡ data_of org n r (slot_entry p t.job n o r)

-- ---- a row that is made over others: what they have in slots of fields doesn't matter

abbrev SameBeside : Layout → DataRow → DataRow → Type 0
SameBeside l a b = (s : ℕ) → s < slot_count → field_of_slot l.fields s ≡ None → slice_index_or a.slots s None ≡ slice_index_or b.slots s None

text_beside : (l : Layout) (r : Record) (a b : DataRow) → SameBeside l a b → (s : ℕ) → s < slot_count → text_of_slot l r (Some a) s ≡ text_of_slot l r (Some b) s
text_beside l r a b same s lt = by (field_of_slot l.fields s) refl
  where
    by : (x : Option ℕ) → field_of_slot l.fields s ≡ x
        → in_case x (kept_text (Some a) s) (λ f. value_text (value_at r.values (suc f))) ≡ in_case x (kept_text (Some b) s) (λ f. value_text (value_at r.values (suc f)))
    by None e = same s lt e
    by (Some f) e = refl

pub row_beside : (l : Layout) (r : Record) (a b : DataRow) → SameBeside l a b → row_from l r (Some a) ≡ row_from l r (Some b)
unfolding texts_of_slots
row_beside l r a b same =
    rw (same_below (text_of_slot l r (Some a)) (text_of_slot l r (Some b)) 0 slot_count (λ s lt. text_beside l r a b same s (omega (arith, lt)))) refl

-- ---- what the rows that tables have hold in slots of no field

pub no_field : (org n : ℕ) (p : OrgPlan) (t : Tenant) (o : Object) (s : ℕ) → field_of_slot (layout_of org p t (record { number = n; object = o })).fields s ≡ None → slot_field p n o.fields s ≡ None
no_field org n p t o s e = by (slot_field p n o.fields s) (sym (number_same p n s 0 o.fields) ∙ e)
  where
    by : (x : Option (ℕ × Field)) → option_map (λ (f : ℕ × Field). f.0) x ≡ None → x ≡ None
    by None h = refl
    by (Some f) h = absurd cc

pub beside_is : (p : OrgPlan) (t : Tenant) (n : ℕ) (o : Object) (r : Record) (s : ℕ) → slot_field p n o.fields s ≡ None → slot_entry p t.job n o r s ≡ other_entry p t.job n o r s
unfolding slot_entry
beside_is p t n o r s none = ap (λ (x : Option (ℕ × Field)). in_case x (other_entry p t.job n o r s) (λ f. Some (field_entry r f))) none

pub text_there : (entries : ℕ → Option Entry) (s : ℕ) → s < slot_count → slice_index_or (slots_of entries) s None ≡ entry_text (entries s)
unfolding slots_of
text_there entries s lt = get_or-map-range_with_len (λ i. entry_text (entries i)) 0 slot_count s s None lt (omega arith)

all_there : (entries : ℕ → Option Entry) → length (slots_of entries) ≡ slot_count
unfolding slots_of
all_there entries = length-map-range_with_len (λ i. entry_text (entries i)) 0 slot_count

module _ (org n : ℕ) (p : OrgPlan) (t : Tenant) (o : Object) (q r : Record) (j : Job) (is : t.job ≡ Some j) (at : eqb j.object n ≡ true) (copied : is_copied j.phase j.cursor r.id ≡ true) where
  abbrev l : Layout
  l = layout_of org p t (record { number = n; object = o })

  abbrev there : Record → Option Entry
  there x = option_and_then (job_entry p j x) (slice_get o.fields j.field)

  abbrev old_slots : List (Option (List ℕ))
  old_slots = slots_of (slot_entry p t.job n o q)

  abbrev new_text : Option (List ℕ)
  new_text = entry_text (copied_there l (job_place p j) r)

  other_is : (x : Record) (s : ℕ) → other_entry p t.job n o x s ≡ cond (eqb p.other s) (there x) None
  other_is x s = ap (λ job. other_entry p job n o x s) is ∙ ap (λ b. cond (b && eqb p.other s) (there x) None) at

  entry_beside : (x : Record) (s : ℕ) → s < slot_count → slot_field p n o.fields s ≡ None → slice_index_or (slots_of (slot_entry p t.job n o x)) s None ≡ entry_text (cond (eqb p.other s) (there x) None)
  entry_beside x s lt none = text_there (slot_entry p t.job n o x) s lt ∙ ap entry_text (beside_is p t n o x s none ∙ other_is x s)

  -- with the text that was copied the old row has in slots of no field what the new one has
  slots_beside : (s : ℕ) → s < slot_count → slot_field p n o.fields s ≡ None → slice_index_or (set old_slots p.other new_text) s None ≡ slice_index_or (slots_of (slot_entry p t.job n o r)) s None
  slots_beside s lt none =
      pick (eqb p.other s)
      (λ b. eqb p.other s ≡ b → slice_index_or (set old_slots p.other new_text) s None ≡ slice_index_or (slots_of (slot_entry p t.job n o r)) s None)
      (λ _ here.
      let one : p.other ≡ s = eqb-true p.other s here in
      let size : length old_slots ≡ 48 = all_there (slot_entry p t.job n o q) in
      let low : p.other < length old_slots = omega (arith, one, size, lt) in
      get_or-set_at old_slots p.other s new_text None (sym one) low
      ∙ ap entry_text (there_is org n p t o j r (copies j.phase j.cursor r.id copied))
      ∙ sym (entry_beside r s lt none ∙ ap (λ b. entry_text (cond b (there r) None)) here))
      (λ _ elsewhere.
      let apart : s ≢ p.other = (λ e. absurd (let h = eq-eqb p.other s (sym e) in cc)) in
      get_or-set_other old_slots p.other s new_text None apart
      ∙ entry_beside q s lt none ∙ ap (λ b. entry_text (cond b (there q) None)) elsewhere
      ∙ sym (entry_beside r s lt none ∙ ap (λ b. entry_text (cond b (there r) None)) elsewhere))
      refl

  pub row_over : RowRewritten → IsTrue (list_all is_printable r.values)
      → row_from l r (Some (with_text p.other new_text (data_of org n q (slot_entry p t.job n o q)))) ≡ data_of org n r (slot_entry p t.job n o r)
  row_over rewritten printable =
      row_beside l r (with_text p.other new_text (data_of org n q (slot_entry p t.job n o q))) (data_of org n r (slot_entry p t.job n o r))
      (λ s lt e. slots_beside s lt (no_field org n p t o s e))
      ∙ rewritten org n p t o r r (λ _ _ _. refl) printable

-- ---- the row

module _ (rewritten : RowRewritten) (org n : ℕ) (p : OrgPlan) (t : Tenant) (o : Object) (q r : Record) (same : r.id ≡ q.id) (printable : IsTrue (list_all is_printable r.values)) where
  abbrev own : Layout
  own = layout_of org p t (record { number = n; object = o })

  abbrev kept : DataRow
  kept = data_of org n q (slot_entry p t.job n o q)

  abbrev new_row : DataRow
  new_row = data_of org n r (slot_entry p t.job n o r)

  abbrev over : Option JobPlace → DataRow
  over job = in_case job kept (λ j. cond (is_copied j.phase j.cursor r.id) (with_text j.twin (entry_text (copied_there own j r)) kept) kept)

  pub row_is : turned_row own kept r ≡ new_row
  row_is = by t.job refl
    where
      by : (job : Option Job) → t.job ≡ job → row_from own r (Some (over (option_and_then (λ (j : Job). cond (eqb j.object n) (Some (job_place p j)) None) job))) ≡ new_row
      by None e = rewritten org n p t o q r (λ j is _. absurd cc) printable
      by (Some j) e =
          pick (eqb j.object n)
          (λ b. eqb j.object n ≡ b → row_from own r (Some (over (cond b (Some (job_place p j)) None))) ≡ new_row)
          (λ _ at.
          pick (is_copied j.phase j.cursor r.id)
          (λ b. is_copied j.phase j.cursor r.id ≡ b → row_from own r (Some (cond b (with_text p.other (entry_text (copied_there own (job_place p j) r)) kept) kept)) ≡ new_row)
          (λ _ copied. row_over org n p t o q r j e at copied rewritten printable)
          (λ _ none.
          rewritten org n p t o q r
          (λ k is _. subst (λ (i : Job). job_value p i i.phase q ≡ job_value p i i.phase r) (some_is j k (sym e ∙ is)) (value_stays p j q r same none))
          printable)
          refl)
          (λ _ apart.
          rewritten org n p t o q r
          (λ k is at. absurd (let one : j ≡ k = some_is j k (sym e ∙ is) in let h = eq-eqb j.object n (ap (λ (i : Job). i.object) one ∙ at) in cc))
          printable)
          refl

  -- ---- the values

  abbrev entry_in : Record → ℕ × FieldPlace → Entry
  entry_in x f = entry_of f.1 (value_at x.values (suc f.0))

  pub slot_is : (s : ℕ) → slot_changes org n r.id (turned_entry own q s) (turned_entry own r s) s ≡ slot_changes org n r.id (slot_entry p t.job n o q s) (slot_entry p t.job n o r s) s
  unfolding slot_entry
  slot_is s =
      ap (λ (x : Option (ℕ × FieldPlace)). slot_changes org n r.id (in_case (option_map (entry_in q) x) (copied_entry own q s) Some) (in_case (option_map (entry_in r) x) (copied_entry own r s) Some) s)
      (found_same p n s 0 o.fields)
      ∙ by (slot_field p n o.fields s)
    where
      by : (x : Option (ℕ × Field))
          → slot_changes org n r.id (in_case (option_map (entry_in q) (option_map {U = ℕ × FieldPlace} (λ (f : ℕ × Field). (f.0, place_of p n f)) x)) (copied_entry own q s) Some)
          (in_case (option_map (entry_in r) (option_map {U = ℕ × FieldPlace} (λ (f : ℕ × Field). (f.0, place_of p n f)) x)) (copied_entry own r s) Some) s
          ≡ slot_changes org n r.id (in_case x (other_entry p t.job n o q s) (λ f. Some (field_entry q f))) (in_case x (other_entry p t.job n o r s) (λ f. Some (field_entry r f))) s
      by None = others_turn org n p t o q r same s
      by (Some f) = refl

  pub turned_in : turned_changes own kept q r ≡ record_changes org n r.id (Some (kept_in p t n o q)) (Some (kept_in p t n o r))
  unfolding turned_changes values_turned record_changes
  turned_in =
      ap₂ (λ (d : DataRow) (cs : List Change). (Data org n r.id, Some (row_bytes data_form d)) ∷ cs) row_is
      (flat_same (λ s. slot_changes org n r.id (turned_entry own q s) (turned_entry own r s) s) (λ s. slot_changes org n r.id (slot_entry p t.job n o q s) (slot_entry p t.job n o r s) s) slot_is (range_with_len 0 slot_count))

-- ---- the law

abbrev object_is : ℕ → List ℕ → Bool
object_is n i = eqb (object_number i) n

abbrev some_kept : Kept → Option Kept
some_kept k = Some k

pub turned_is : RowRewritten → (org n : ℕ) (p : OrgPlan) (t u : Tenant) (o : Object) (old new : Record)
    → u.objects ≡ t.objects → u.job ≡ t.job → new.id ≡ old.id → IsTrue (list_all is_printable new.values) → IsTrue (is_of n new)
    → record_at t old.id ≡ Some old → record_at u new.id ≡ Some new → object_numbered t n ≡ Some o
    → turned_changes (layout_of org p t (record { number = n; object = o })) (data_of org n old (slot_entry p t.job n o old)) old new
    ≡ record_changes org n new.id (kept_at p t n new.id) (kept_at p u n new.id)
turned_is rewritten org n p t u o old new objects job same printable of there after here =
    let of_old : IsTrue (is_of n old) = subst (λ (i : List ℕ). object_is n i ≡ true) same of in
    let before : kept_at p t n new.id ≡ Some (kept_in p t n o old) = ap (kept_at p t n) same ∙ kept_is p t n o old of_old there here in
    let known : object_numbered u n ≡ Some o = ap (λ (os : List Object). slice_get os n) objects ∙ here in
    let now : kept_at p u n new.id ≡ Some (kept_in p t n o new) =
    kept_is p u n o new of after known ∙ ap (λ (x : Option Job). some_kept (record { item = new; entries = slot_entry p x n o new })) job
    in
    turned_in rewritten org n p t o old new same printable ∙ sym (ap₂ (record_changes org n new.id) before now)
