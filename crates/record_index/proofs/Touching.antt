-- Which rows of records, of indexed values and of references stay where an edit touches some records.
use Rattle.std.proofs.Common.{◌≡◌, ℕ, ◌<◌, ◌≤◌, Bool, true, false, ◌||◌, cond, eqb, List, [], ◌∷◌, Option, Some, None, refl, sym, ap, subst, ◌∙◌, arith, bytes_eq, nat_le}
use Rattle.std.specs.Prelude.{if◌then◌else◌}
use Rattle.std.specs.List.{flat_map, range_with_len}
use Rattle.std.specs.Option.{option_and_then, option_map}
use Rattle.std.proofs.lemmas.Bool.{eqb-true, true≢false as clash}
use Rattle.std.proofs.lemmas.Bool.Decides.{nat_tests}
use Rattle.base_lemmas.proofs.Bools.{or_first_false as or_left_false, or_second_false as or_right_false, by_answer as pick}
use Rattle.base_lemmas.proofs.Texts.{same_from_bytes_eq as same_exact}
use Rattle.store_rows.specs.Keys.{Key, Data, Index, Unique, Relation, key_eq}
use Rattle.model.specs.declared.record.Record.{Record}
use Rattle.model.specs.Objects.{is_of, object_number, object_numbered}
use Rattle.model.specs.Tenant.{Tenant}
use Rattle.model.specs.World.{having_id}
use Rattle.store_abstraction.specs.Changes.{Change, is_changed}
use Rattle.store_abstraction.specs.Entries.{Entry, is_indexed, is_reference_to}
use Rattle.store_abstraction.specs.Plan.{OrgPlan, slot_count}
use Rattle.store_abstraction.specs.Stands.{Kept, kept_at, kept_in, row_in, row_where}
use Rattle.record_index.specs.Changed.{data_row, index_key, kept_entry, record_changes, reference_key, slot_changes, row_turned, unique_key}
use Rattle.record_index.proofs.Same.{data_same, where_same}
use Rattle.record_index.proofs.DiffTurned.{EqualKeys, flat_unchanged, in_range, indexed_at, left_unchanged, reference_at, right_unchanged, turned_rest}
use Rattle.record_index.specs.diff.Touched.{AllLow, IsAlike, changes_at, has, touched_changes}

-- what isn't changed isn't where one of the ids is touched
at_one : (f : List ℕ → List Change) (k : Key) (ids : List (List ℕ)) (i : List ℕ) → is_changed (flat_map f ids) k ≡ false → has ids i ≡ true → is_changed (f i) k ≡ false
at_one f k [] i e h = absurd cc
at_one f k (x ∷ ids) i e h =
    pick (bytes_eq x i) (λ b. (b || has ids i) ≡ true → is_changed (f i) k ≡ false)
    (λ g _. subst (λ (y : List ℕ). is_changed (f y) k ≡ false) (same_exact x i g) (left_unchanged (f x) (flat_map f ids) k e))
    (λ _ g. at_one f k ids i (right_unchanged (f x) (flat_map f ids) k e) g)
    h

-- an empty row by what is in a slot
pub where_is : (is : Option Entry → Bool) → is None ≡ false → (s : ℕ) (a : Option Kept) → row_where is s a ≡ cond (is (kept_entry a s)) (Some []) None
where_is is none s None = ap (λ b. cond {A = Option (List ℕ)} b (Some []) None) (sym none)
where_is is none s (Some k) = refl

-- of another object than its own an id names no record
elsewhere : (p : OrgPlan) (v : Tenant) (n : ℕ) (i : List ℕ) → eqb (object_number i) n ≡ false → kept_at p v n i ≡ None
unfolding kept_at
elsewhere p v n i e = by v.records
  where
    by : (rs : List Record) → option_and_then (λ (r : Record). if is_of n r then option_map (λ o. kept_in p v n o r) (object_numbered v n) else None) (having_id (λ r. r.id) rs i) ≡ None
    by [] = refl
    by (r ∷ rs) =
        pick (bytes_eq i r.id) (λ b. option_and_then (λ (r : Record). if is_of n r then option_map (λ o. kept_in p v n o r) (object_numbered v n) else None) (cond b (Some r) (having_id (λ r. r.id) rs i)) ≡ None)
        (λ g. ap (λ b. cond b (option_map (λ o. kept_in p v n o r) (object_numbered v n)) None) (ap (λ x. eqb (object_number x) n) (sym (same_exact i r.id g)) ∙ e))
        (λ _. by rs)

module _ (equal : EqualKeys) (org : ℕ) (p q : OrgPlan) (t u : Tenant) (ids : List (List ℕ)) (is : IsAlike p q t u ids) (low_t : AllLow p t) (low_u : AllLow q u) where
  -- what is unchanged in a slot of a touched record
  pub unchanged_slot : (i : List ℕ) (k : Key) → has ids i ≡ true → is_changed (touched_changes org p q t u ids) k ≡ false → (s : ℕ) → s < slot_count
      → is_changed (slot_changes org (object_number i) i (kept_entry (kept_at p t (object_number i) i) s) (kept_entry (kept_at q u (object_number i) i) s) s) k ≡ false
  unfolding record_changes
  unchanged_slot i k h e s lo =
      let own = at_one (changes_at org p q t u) k ids i e h in
      flat_unchanged (λ s. slot_changes org (object_number i) i (kept_entry (kept_at p t (object_number i) i) s) (kept_entry (kept_at q u (object_number i) i) s) s) k (range_with_len 0 slot_count)
      (or_right_false (key_eq k (Data org (object_number i) i)) _ own) s (in_range slot_count 0 s (omega arith) (omega (arith, lo)))

  unchanged_data : (i : List ℕ) → has ids i ≡ true → is_changed (touched_changes org p q t u ids) (Data org (object_number i) i) ≡ false → ⊥
  unfolding record_changes
  unchanged_data i h e =
      let own = at_one (changes_at org p q t u) (Data org (object_number i) i) ids i e h in
      clash (sym ((equal (Data org (object_number i) i) (Data org (object_number i) i)).1 refl) ∙ or_left_false (key_eq (Data org (object_number i) i) (Data org (object_number i) i)) _ own)

  -- the same in a slot below the last, and past it
  pub by_slot : (i : List ℕ) (n s : ℕ) (f : Option Entry → Bool) → (s < slot_count → f (kept_entry (kept_at p t n i) s) ≡ f (kept_entry (kept_at q u n i) s)) → f (kept_entry (kept_at p t n i) s) ≡ f (kept_entry (kept_at q u n i) s)
  by_slot i n s f some =
      pick (nat_le slot_count s) (λ b. f (kept_entry (kept_at p t n i) s) ≡ f (kept_entry (kept_at q u n i) s))
      (λ e. ap f (low_t n i s (above e)) ∙ sym (ap f (low_u n i s (above e))))
      (λ e. some (below e))
    where
      above : nat_le slot_count s ≡ true → slot_count ≤ s
      above e = grind (arith, nat_tests)

      below : nat_le slot_count s ≡ false → s < slot_count
      below e = grind (arith, nat_tests)

  indexed_same : (i : List ℕ) (s : ℕ) (key : List ℕ) → has ids i ≡ true → is_changed (touched_changes org p q t u ids) (Index org (object_number i) s key i) ≡ false
      → is_indexed key (kept_entry (kept_at p t (object_number i) i) s) ≡ is_indexed key (kept_entry (kept_at q u (object_number i) i) s)
  indexed_same i s key h e =
      by_slot i (object_number i) s (is_indexed key) (λ lo.
      let n = object_number i in
      let old = kept_entry (kept_at p t n i) s in
      let new = kept_entry (kept_at q u n i) s in
      indexed_at key old
      ∙ turned_rest equal (λ k. Index org n s k i) [] (index_key old) (index_key new) key
      (left_unchanged (row_turned (λ k. Index org n s k i) [] (index_key old) (index_key new)) _ (Index org n s key i) (unchanged_slot i (Index org n s key i) h e s lo))
      ∙ sym (indexed_at key new))

  reference_same : (i : List ℕ) (s : ℕ) (target : List ℕ) → has ids i ≡ true → is_changed (touched_changes org p q t u ids) (Relation org (object_number i) s target i) ≡ false
      → is_reference_to target (kept_entry (kept_at p t (object_number i) i) s) ≡ is_reference_to target (kept_entry (kept_at q u (object_number i) i) s)
  reference_same i s target h e =
      by_slot i (object_number i) s (is_reference_to target) (λ lo.
      let n = object_number i in
      let old = kept_entry (kept_at p t n i) s in
      let new = kept_entry (kept_at q u n i) s in
      let k = Relation org n s target i in
      let two = right_unchanged (row_turned (λ k. Index org n s k i) [] (index_key old) (index_key new)) _ k (unchanged_slot i k h e s lo) in
      let one = right_unchanged (row_turned (λ k. Unique org n s k) i (unique_key old) (unique_key new)) _ k two in
      reference_at target old
      ∙ turned_rest equal (λ x. Relation org n s x i) [] (reference_key old) (reference_key new) target one
      ∙ sym (reference_at target new))

  -- an empty row, touched or not
  row_same : (f : Option Entry → Bool) → f None ≡ false → (m s : ℕ) (i : List ℕ)
      → (has ids i ≡ true → object_number i ≡ m → f (kept_entry (kept_at p t m i) s) ≡ f (kept_entry (kept_at q u m i) s)) → row_where f s (kept_at q u m i) ≡ row_where f s (kept_at p t m i)
  row_same f none m s i same =
      pick (has ids i) (λ b. row_where f s (kept_at q u m i) ≡ row_where f s (kept_at p t m i))
      (λ h. pick (eqb (object_number i) m) (λ b. row_where f s (kept_at q u m i) ≡ row_where f s (kept_at p t m i))
      (λ g. where_is f none s (kept_at q u m i)
      ∙ ap (λ b. cond {A = Option (List ℕ)} b (Some []) None) (sym (same h (eqb-true (object_number i) m g)))
      ∙ sym (where_is f none s (kept_at p t m i)))
      (λ g. ap (row_where f s) (elsewhere q u m i g) ∙ sym (ap (row_where f s) (elsewhere p t m i g))))
      (λ h. where_same f s (kept_at q u m i) (kept_at p t m i) (is.others m i h))

  pub data_rest : (m : ℕ) (i : List ℕ) → is_changed (touched_changes org p q t u ids) (Data org m i) ≡ false → row_in q u (Data org m i) ≡ row_in p t (Data org m i)
  unfolding row_in
  data_rest m i e =
      pick (has ids i) (λ b. data_row org m (kept_at q u m i) ≡ data_row org m (kept_at p t m i))
      (λ h. pick (eqb (object_number i) m) (λ b. data_row org m (kept_at q u m i) ≡ data_row org m (kept_at p t m i))
      (λ g. absurd (unchanged_data i h (subst (λ (n : ℕ). is_changed (touched_changes org p q t u ids) (Data org n i) ≡ false) (sym (eqb-true (object_number i) m g)) e)))
      (λ g. ap (data_row org m) (elsewhere q u m i g) ∙ sym (ap (data_row org m) (elsewhere p t m i g))))
      (λ h. data_same org m (kept_at q u m i) (kept_at p t m i) (is.others m i h))

  pub index_rest : (m s : ℕ) (key i : List ℕ) → is_changed (touched_changes org p q t u ids) (Index org m s key i) ≡ false
      → row_in q u (Index org m s key i) ≡ row_in p t (Index org m s key i)
  unfolding row_in
  index_rest m s key i e =
      row_same (is_indexed key) refl m s i (λ h g.
      subst (λ (n : ℕ). is_indexed key (kept_entry (kept_at p t n i) s) ≡ is_indexed key (kept_entry (kept_at q u n i) s)) g
      (indexed_same i s key h (subst (λ (n : ℕ). is_changed (touched_changes org p q t u ids) (Index org n s key i) ≡ false) (sym g) e)))

  pub relation_rest : (m s : ℕ) (target i : List ℕ) → is_changed (touched_changes org p q t u ids) (Relation org m s target i) ≡ false
      → row_in q u (Relation org m s target i) ≡ row_in p t (Relation org m s target i)
  unfolding row_in
  relation_rest m s target i e =
      row_same (is_reference_to target) refl m s i (λ h g.
      subst (λ (n : ℕ). is_reference_to target (kept_entry (kept_at p t n i) s) ≡ is_reference_to target (kept_entry (kept_at q u n i) s)) g
      (reference_same i s target h (subst (λ (n : ℕ). is_changed (touched_changes org p q t u ids) (Relation org n s target i) ≡ false) (sym g) e)))
