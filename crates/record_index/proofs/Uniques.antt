-- Unique rows stay where an edit touches some records, but for those that are among its changes.
use Rattle.std.proofs.Common.{◌≡◌, ℕ, Bool, true, false, List, [], Option, Some, None, refl, sym, ap, subst, ◌∙◌}
use Rattle.std.specs.Prelude.{slice_get}
use Rattle.std.specs.List.{find}
use Rattle.std.specs.Option.{option_and_then, option_map}
use Rattle.std.proofs.lemmas.Bool.{eqb-true, true≢false as clash}
use Rattle.base_lemmas.proofs.Bools.{by_answer as pick}
use Rattle.store_rows.specs.Forms.{row_bytes}
use Rattle.store_rows.specs.Keys.{Index, Unique}
use Rattle.store_rows.specs.Rows.{unique_form}
use Rattle.model.specs.declared.record.Record.{Record}
use Rattle.model.specs.Membership.{Has}
use Rattle.model.specs.Objects.{is_of, object_number, object_numbered, records_of}
use Rattle.model.specs.Tenant as model
use Rattle.model.specs.Tenant.{Tenant}
use Rattle.record_index.specs.Changed.{index_key, kept_entry, slot_changes, row_turned, unique_key}
use Rattle.store_abstraction.specs.Changes.{is_changed}
use Rattle.store_abstraction.specs.Entries.{is_unique, slot_entry}
use Rattle.store_abstraction.specs.Plan.{OrgPlan}
use Rattle.store_abstraction.specs.Stands.{kept_at, row_in, unique_of}
use Rattle.record_index.proofs.Records.{entry_of_kept, has_kept, is_found, kept_has, kept_is, none_found}
use Rattle.record_index.proofs.Same.{entries_same}
use Rattle.record_index.proofs.Touching.{by_slot, unchanged_slot}
use Rattle.record_index.proofs.DiffTurned.{EqualKeys, left_unchanged, right_unchanged, turned_rest, unique_is_at}
use Rattle.record_index.specs.diff.Touched.{HasSoundRows, IsAlike, has, touched_changes}

module _ (equal : EqualKeys) (org : ℕ) (p q : OrgPlan) (t u : Tenant) (ids : List (List ℕ)) (is : IsAlike p q t u ids) (kept_t : HasSoundRows p t) (kept_u : HasSoundRows q u)
    (n s : ℕ) (key : List ℕ) (e : is_changed (touched_changes org p q t u ids) (Unique org n s key) ≡ false) where
  -- where a touched id is of the object, its entry has the key before exactly if it has it after
  touched_same : (i : List ℕ) → has ids i ≡ true → object_number i ≡ n → is_unique key (kept_entry (kept_at p t n i) s) ≡ is_unique key (kept_entry (kept_at q u n i) s)
  touched_same i h of =
      by_slot equal org p q t u ids is kept_t.low kept_u.low i n s (is_unique key) (λ lo.
      let old = kept_entry (kept_at p t n i) s in
      let new = kept_entry (kept_at q u n i) s in
      let slot = subst (λ (m : ℕ). is_changed (slot_changes org m i (kept_entry (kept_at p t m i) s) (kept_entry (kept_at q u m i) s) s) (Unique org n s key) ≡ false) of
      (unchanged_slot equal org p q t u ids is kept_t.low kept_u.low i (Unique org n s key) h e s lo) in
      let two = right_unchanged (row_turned (λ k. Index org n s k i) [] (index_key old) (index_key new)) _ (Unique org n s key) slot in
      unique_is_at key old
      ∙ turned_rest equal (λ k. Unique org n s k) i (unique_key old) (unique_key new) key (left_unchanged (row_turned (λ k. Unique org n s k) i (unique_key old) (unique_key new)) _ (Unique org n s key) two)
      ∙ sym (unique_is_at key new))

  -- the entry of an id has the key in both
  both_same : (i : List ℕ) → object_number i ≡ n → is_unique key (kept_entry (kept_at p t n i) s) ≡ is_unique key (kept_entry (kept_at q u n i) s)
  both_same i of =
      pick (has ids i) (λ b. is_unique key (kept_entry (kept_at p t n i) s) ≡ is_unique key (kept_entry (kept_at q u n i) s))
      (λ h. touched_same i h of)
      (λ h. sym (ap (is_unique key) (entries_same (kept_at q u n i) (kept_at p t n i) s (is.others n i h))))

  row : Record → List ℕ
  row y = row_bytes unique_form (unique_of org n s key y)

  module _ (o : model.Object) (here : object_numbered t n ≡ Some o) where
    there : object_numbered u n ≡ Some o
    there = ap (λ (os : List model.Object). slice_get os n) is.objects ∙ here

    has_t : Record → Bool
    has_t y = is_unique key (slot_entry p t.job n o y s)

    has_u : Record → Bool
    has_u y = is_unique key (slot_entry q u.job n o y s)

    -- what a record has by what is kept of it
    by_kept_t : (y : Record) → Has t.records y → is_of n y ≡ true → has_t y ≡ is_unique key (kept_entry (kept_at p t n y.id) s)
    unfolding has_t
    by_kept_t y m of = sym (ap (λ k. is_unique key (kept_entry k s)) (kept_is p t n o y here (kept_t.each y m) of))

    by_kept_u : (y : Record) → Has u.records y → is_of n y ≡ true → has_u y ≡ is_unique key (kept_entry (kept_at q u n y.id) s)
    unfolding has_u
    by_kept_u y m of = sym (ap (λ k. is_unique key (kept_entry k s)) (kept_is q u n o y there (kept_u.each y m) of))

    found_t : Option Record
    found_t = find has_t (records_of t n)

    found_u : Option Record
    found_u = find has_u (records_of u n)

    -- the record with the id of one that has the key before is there afterwards, and has it
    after : (y : Record) → Has t.records y → is_of n y ≡ true → has_t y ≡ true
        → (z : Record) × (Has u.records z) × (z.id ≡ y.id) × (is_of n z ≡ true) × (is_unique key (slot_entry q u.job n o z s) ≡ true)
    after y m of h = entry_of_kept q u n o y.id s key there (sym (both_same y.id (eqb-true (object_number y.id) n of)) ∙ sym (by_kept_t y m of) ∙ h)

    same_rows : option_map row found_u ≡ option_map row found_t
    unfolding row found_t found_u has_t has_u
    same_rows = by found_t refl found_u refl
      where
        by : (x : Option Record) → found_t ≡ x → (z : Option Record) → found_u ≡ z → option_map row z ≡ option_map row x
        by None a None b = refl
        by (Some y) a (Some z) b =
            let y_is = is_found has_t (records_of t n) y a in
            let y_in = kept_has (is_of n) t.records y y_is.0 in
            let z_is = is_found has_u (records_of u n) z b in
            let z_in = kept_has (is_of n) u.records z z_is.0 in
            let k = after y y_in.0 y_in.1 y_is.1 in
            let one = kept_u.one n o s key z k.0 there z_in.0 k.1 z_in.1 k.3 z_is.1 k.4 ∙ k.2 in
            ap (λ (i : List ℕ). Some i) one
        by (Some y) a None b =
            let y_is = is_found has_t (records_of t n) y a in
            let y_in = kept_has (is_of n) t.records y y_is.0 in
            let k = after y y_in.0 y_in.1 y_is.1 in
            absurd (clash (sym k.4 ∙ none_found has_u (records_of u n) b k.0 (has_kept (is_of n) u.records k.0 k.1 k.3)))
        by None a (Some z) b =
            let z_is = is_found has_u (records_of u n) z b in
            let z_in = kept_has (is_of n) u.records z z_is.0 in
            let k = entry_of_kept p t n o z.id s key here (both_same z.id (eqb-true (object_number z.id) n z_in.1) ∙ sym (by_kept_u z z_in.0 z_in.1) ∙ z_is.1) in
            absurd (clash (sym k.4 ∙ none_found has_t (records_of t n) a k.0 (has_kept (is_of n) t.records k.0 k.1 k.3)))

    of_object : row_in q u (Unique org n s key) ≡ row_in p t (Unique org n s key)
    unfolding row_in row found_t found_u has_t has_u
    of_object =
        ap (λ (x : Option model.Object). option_map (λ y. row_bytes unique_form (unique_of org n s key y)) (option_and_then (λ o. find (λ y. is_unique key (slot_entry q u.job n o y s)) (records_of u n)) x)) there
        ∙ same_rows
        ∙ sym (ap (λ (x : Option model.Object). option_map (λ y. row_bytes unique_form (unique_of org n s key y)) (option_and_then (λ o. find (λ y. is_unique key (slot_entry p t.job n o y s)) (records_of t n)) x)) here)

  no_object : object_numbered t n ≡ None → row_in q u (Unique org n s key) ≡ row_in p t (Unique org n s key)
  unfolding row_in
  no_object none =
      ap (λ (x : Option model.Object). option_map (λ y. row_bytes unique_form (unique_of org n s key y)) (option_and_then (λ o. find (λ y. is_unique key (slot_entry q u.job n o y s)) (records_of u n)) x))
      (ap (λ (os : List model.Object). slice_get os n) is.objects ∙ none)
      ∙ sym (ap (λ (x : Option model.Object). option_map (λ y. row_bytes unique_form (unique_of org n s key y)) (option_and_then (λ o. find (λ y. is_unique key (slot_entry p t.job n o y s)) (records_of t n)) x)) none)

  pub unique_rest : row_in q u (Unique org n s key) ≡ row_in p t (Unique org n s key)
  unique_rest = by (object_numbered t n) refl
    where
      by : (x : Option model.Object) → object_numbered t n ≡ x → row_in q u (Unique org n s key) ≡ row_in p t (Unique org n s key)
      by None none = no_object none
      by (Some o) here = of_object o here
