-- What is made for a record of a page is what differs of it.
use Rattle.std.proofs.Common.{◌≡◌, ℕ, zero, suc, ◌+◌, ◌<◌, ◌≤◌, Bool, true, false, cond, eqb, IsTrue, List, [], ◌∷◌, ◌++◌, map, Option, Some, None, refl, sym, ap, ap₂, subst, ◌∙◌, inl, inr, arith}
use Rattle.std.specs.List.{flat_map, list_all, range_with_len}
use Rattle.std.specs.Option.{option_and_then, option_map}
use Rattle.std.proofs.lemmas.Bool.{eq-eqb, eqb-true}
use Rattle.base_lemmas.proofs.Bools.{by_answer as pick}
use Rattle.record_read.specs.Encoding.{row_from}
use Rattle.store_rows.specs.declared.data.DataRow.{DataRow}
use Rattle.store_rows.specs.Forms.{row_bytes}
use Rattle.store_rows.specs.Keys.{Data}
use Rattle.store_rows.specs.Rows.{data_form}
use Rattle.model.specs.declared.record.Record.{Record}
use Rattle.model.specs.Cases.{in_case}
use Rattle.model.specs.Jobs.{is_past}
use Rattle.model.specs.Membership.{Has}
use Rattle.model.specs.Objects.{is_of, object_number, object_numbered, record_at}
use Rattle.model.specs.Retyping.{with_job}
use Rattle.model.specs.Sound.{IsSound}
use Rattle.model.specs.Tenant.{Job, Object, Tenant}
use Rattle.record_index.specs.Changed.{SameKeys, record_changes, slot_changes}
use Rattle.record_index.specs.Removed.{beside_entry}
use Rattle.record_index.specs.Turned.{turned_row}
use Rattle.record_index.proofs.NewRecord.{kept_is}
use Rattle.record_index.proofs.TurnedValues.{keys_turn}
use Rattle.retype_step.specs.backfill.Progress.{come_to, job_come_to, record_moves, records_move, twin_changes}
use Rattle.retype_step.proofs.Entries.{slot_apart, type_same}
use Rattle.store_abstraction.specs.Changes.{Change}
use Rattle.store_abstraction.specs.Entries.{Entry, data_of, slot_entry, slot_field}
use Rattle.store_abstraction.specs.Layouts.{job_place, layout_of}
use Rattle.store_abstraction.specs.Plan.{FitsPlan, OrgPlan, slot_count}
use Rattle.store_abstraction.specs.Stands.{kept_at, kept_in}
use Rattle.store_abstraction.specs.declared.layout.JobPlace.{JobPlace}
use Rattle.store_abstraction.specs.declared.layout.Layout.{Layout}
use Rattle.record_index.specs.diff.Touched.{changes_at, record_ids}
use Rattle.base_value.specs.Printing.{is_printable}
use Rattle.base_value.specs.declared.value.FieldType.{FieldType}

-- ---- what `record_index` says

abbrev pub SlotSame : Type 0
SlotSame = (org n : ℕ) (id : List ℕ) (e : Option Entry) (s : ℕ) → slot_changes org n id e e s ≡ []

abbrev pub Beside : Type 0
Beside = (org n : ℕ) (p : OrgPlan) (t : Tenant) (o : Object) (r : Record) (j : Job) → IsSound t → FitsPlan p t → t.job ≡ Some j → j.object ≡ n → object_numbered t n ≡ Some o → slot_field p n o.fields p.other ≡ None
    → SameKeys (beside_entry (layout_of org p t (record { number = n; object = o })) (data_of org n r (slot_entry p t.job n o r)) r p.other) (slot_entry p t.job n o r p.other)

abbrev pub ComeEntry : Type 0
ComeEntry = (org n : ℕ) (p : OrgPlan) (t : Tenant) (o : Object) (r : Record) (j : Job) (kept : DataRow) → t.job ≡ Some j → j.object ≡ n → is_past j.cursor r.id ≡ false → slot_field p n o.fields p.other ≡ None
    → beside_entry (layout_of org p t (record { number = n; object = o })) kept r p.other ≡ slot_entry p t.job n o r p.other

abbrev pub ComeRow : Type 0
ComeRow = (org n : ℕ) (p : OrgPlan) (t : Tenant) (o : Object) (r : Record) (j : Job) → t.job ≡ Some j → j.object ≡ n → is_past j.cursor r.id ≡ false → IsTrue (list_all is_printable r.values)
    → turned_row (layout_of org p t (record { number = n; object = o })) (row_from (layout_of org p t (record { number = n; object = o })) r None) r ≡ data_of org n r (slot_entry p t.job n o r)

-- ---- one slot among all

-- what nothing but one place gives
flat_none : (f : ℕ → List Change) (k a n : ℕ) → ((s : ℕ) → eqb k s ≡ false → f s ≡ []) → k < a → flat_map f (range_with_len a n) ≡ []
flat_none f k a zero none lt = refl
flat_none f k a (suc n) none lt = ap₂ (λ (x y : List Change). x ++ y) (none a (apart (eqb k a) refl)) (flat_none f k (a + 1) n none (omega (arith, lt)))
  where
    apart : (b : Bool) → eqb k a ≡ b → eqb k a ≡ false
    apart true e = absurd (let same = eqb-true k a e in omega (arith, lt, same))
    apart false e = e

flat_one : (f : ℕ → List Change) (k a n : ℕ) → ((s : ℕ) → eqb k s ≡ false → f s ≡ []) → a ≤ k → k < a + n → flat_map f (range_with_len a n) ≡ f k
flat_one f k a zero none lo hi = absurd (omega (arith, lo, hi))
flat_one f k a (suc n) none lo hi =
    pick (eqb k a) (λ b. eqb k a ≡ b → f a ++ flat_map f (range_with_len (a + 1) n) ≡ f k)
    (λ _ e.
    let same : k ≡ a = eqb-true k a e in
    ap (λ (x : List Change). f a ++ x) (flat_none f k (a + 1) n none (omega (arith, same))) ∙ append_none (f a) ∙ ap f (sym same))
    (λ _ e. ap (λ (x : List Change). x ++ flat_map f (range_with_len (a + 1) n)) (none a e) ∙ flat_one f k (a + 1) n none (more e) (omega (arith, hi)))
    refl
  where
    append_none : (xs : List Change) → xs ++ [] ≡ xs
    append_none [] = refl
    append_none (x ∷ xs) = ap (λ (cs : List Change). x ∷ cs) (append_none xs)

    differ : true ≡ false → ⊥
    differ e = cc

    more : eqb k a ≡ false → a + 1 ≤ k
    more e = by_arith (λ same. differ (sym (eq-eqb k a same) ∙ e))
      where
        by_arith : (k ≡ a → ⊥) → a + 1 ≤ k
        by_arith apart = omega (arith, apart, lo)

-- ---- a change that comes further

module _ (slot_same : SlotSame) (beside : Beside) (come_entry : ComeEntry) (come_row : ComeRow) (org : ℕ) (q : OrgPlan) (t : Tenant) (j : Job) (o : Object) (c : Option (List ℕ))
    (sound : IsSound t) (fits : FitsPlan q t) (is : t.job ≡ Some j) (here : object_numbered t j.object ≡ Some o) (vacant : slot_field q j.object o.fields q.other ≡ None) where
  abbrev n : ℕ
  n = j.object

  abbrev after : Job
  after = record j { cursor = c }

  abbrev u : Tenant
  u = with_job after t

  abbrev l : Layout
  l = layout_of org q t (record { number = n; object = o })

  abbrev m : Layout
  m = come_to c l

  abbrev row : Record → DataRow
  row r = data_of org n r (slot_entry q t.job n o r)

  -- the change in both layouts
  job_here : l.job ≡ Some (job_place q j)
  job_here =
      ap (λ (x : Option Job). option_and_then (λ (j : Job). cond (eqb j.object n) (Some (job_place q j)) None) x) is
      ∙ ap (λ b. cond b (Some (job_place q j)) None) (eq-eqb n n refl)

  place_same : job_place q after ≡ job_come_to c (job_place q j)
  place_same = ap (λ (k : FieldType). record { field = j.field; kind = k; twin = q.other; phase = j.phase; cursor = c }) (type_same q j c j.phase j.outcome)

  layout_after : layout_of org q u (record { number = n; object = o }) ≡ m
  layout_after =
      ap (λ (x : Option JobPlace). record l { job = x })
      (ap (λ b. cond b (Some (job_place q after)) None) (eq-eqb n n refl) ∙ ap (λ (x : JobPlace). Some x) place_same ∙ sym (ap (option_map (job_come_to c)) job_here))

  module _ (r : Record) (come : is_past c r.id ≡ false) where
    -- what is turned in the change's slot
    pub twin_is : twin_changes l m (row r) r ≡ slot_changes org n r.id (slot_entry q t.job n o r q.other) (slot_entry q u.job n o r q.other) q.other
    twin_is =
        ap (λ (x : Option JobPlace). in_case x [] (λ j. slot_changes l.org l.object r.id (beside_entry l (row r) r j.twin) (beside_entry m (row r) r j.twin) j.twin)) job_here
        ∙ ap (λ (e : Option Entry). slot_changes org n r.id (beside_entry l (row r) r q.other) e q.other)
        (subst (λ (x : Layout). beside_entry x (row r) r q.other ≡ slot_entry q u.job n o r q.other) layout_after (come_entry org n q u o r after (row r) refl refl come vacant))
        ∙ keys_turn org n r.id (beside_entry l (row r) r q.other) (slot_entry q t.job n o r q.other) (slot_entry q u.job n o r q.other) (slot_entry q u.job n o r q.other) q.other
        (beside org n q t o r j sound fits is refl here vacant) (record { index = refl; unique = refl; reference = refl })

    row_is : IsTrue (list_all is_printable r.values) → turned_row m (row_from m r None) r ≡ data_of org n r (slot_entry q u.job n o r)
    row_is printable =
        subst (λ (x : Layout). turned_row x (row_from x r None) r ≡ data_of org n r (slot_entry q u.job n o r)) layout_after
        (come_row org n q u o r after refl refl come printable)

    abbrev of_slot : ℕ → List Change
    of_slot s = slot_changes org n r.id (slot_entry q t.job n o r s) (slot_entry q u.job n o r s) s

    elsewhere : (s : ℕ) → eqb q.other s ≡ false → of_slot s ≡ []
    elsewhere s e =
        ap (λ (x : Option Entry). slot_changes org n r.id x (slot_entry q u.job n o r s) s) (ap (λ (job : Option Job). slot_entry q job n o r s) is ∙ sym (slot_apart q j c n o r s e))
        ∙ slot_same org n r.id (slot_entry q u.job n o r s) s

    record_is : IsTrue (list_all is_printable r.values) → is_of n r ≡ true → record_at t r.id ≡ Some r → record_moves l m (row r) r ≡ record_changes org n r.id (kept_at q t n r.id) (kept_at q u n r.id)
    unfolding record_changes
    record_is printable of at = in_both ∙ sym (ap₂ (record_changes org n r.id) (kept_is q t n o r of at here) (kept_is q u n o r of at here))
      where
        in_both : record_moves l m (row r) r ≡ record_changes org n r.id (Some (kept_in q t n o r)) (Some (kept_in q u n o r))
        in_both =
            ap₂ (λ (d : DataRow) (cs : List Change). (Data org n r.id, Some (row_bytes data_form d)) ∷ cs) (row_is printable)
            (twin_is ∙ sym (flat_one of_slot q.other 0 slot_count elsewhere (omega arith) (let low = fits.other in omega (arith, low))))

    pub moves_is : IsTrue (list_all is_printable r.values) → is_of n r ≡ true → record_at t r.id ≡ Some r → record_moves l m (row r) r ≡ changes_at org q q t u r.id
    moves_is printable of at =
        subst (λ (i : ℕ). record_moves l m (row r) r ≡ record_changes org i r.id (kept_at q t i r.id) (kept_at q u i r.id)) (sym (eqb-true (object_number r.id) n of)) (record_is printable of at)

  -- of all records
  pub page_is : (rs : List Record) → ((r : Record) → Has rs r → (is_past c r.id ≡ false) × IsTrue (list_all is_printable r.values) × (is_of n r ≡ true) × (record_at t r.id ≡ Some r))
      → records_move l m (map row rs) rs ≡ flat_map (changes_at org q q t u) (record_ids rs)
  unfolding records_move
  page_is [] each = refl
  page_is (r ∷ rs) each =
      let (come, printable, of, at) = each r (inl refl) in
      ap₂ (λ (x y : List Change). x ++ y) (moves_is r come printable of at) (page_is rs (λ x has. each x (inr has)))
