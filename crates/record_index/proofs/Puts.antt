-- The changes of touched records are to what the organisation has afterwards.
use Rattle.std.proofs.Common.{◌≡◌, ◌⊎◌, inl, inr, ℕ, Bool, true, false, ◌||◌, cond, List, [], ◌∷◌, ◌++◌, Option, Some, None, refl, sym, ap, ◌∙◌, bytes_eq}
use Rattle.std.specs.Prelude.{slice_get}
use Rattle.std.specs.List.{AllByRecursion, find, flat_map, range_with_len}
use Rattle.std.specs.Option.{option_and_then, option_map}
use Rattle.base_lemmas.proofs.Lists.{each-append as all_append}
use Rattle.std.proofs.lemmas.Bool.{true≢false as clash}
use Rattle.base_lemmas.proofs.Texts.{bytes_eq-self as same_itself}
use Rattle.store_rows.specs.Forms.{row_bytes}
use Rattle.store_rows.specs.Keys.{FitsKey, Data, Index, Unique, Relation}
use Rattle.store_rows.specs.Rows.{unique_form}
use Rattle.model.specs.declared.record.Record.{Record}
use Rattle.model.specs.Objects.{is_of, object_number, object_numbered, records_of}
use Rattle.model.specs.Tenant as model
use Rattle.model.specs.Tenant.{Tenant}
use Rattle.record_index.specs.Changed.{data_row, index_key, is_at, kept_entry, record_changes, reference_key, slot_changes, row_turned, unique_key}
use Rattle.store_abstraction.specs.Changes.{Change, IsOf}
use Rattle.store_abstraction.specs.Entries.{is_indexed, is_reference_to, is_unique, slot_entry}
use Rattle.store_abstraction.specs.Plan.{OrgPlan, slot_count}
use Rattle.store_abstraction.specs.Stands.{kept_at, org_of_key, row_in, unique_of}
use Rattle.record_index.proofs.Records.{entry_of_kept, has_kept, is_found, kept_has, kept_is, no_kept, none_found}
use Rattle.record_index.proofs.Touching.{where_is}
use Rattle.record_index.proofs.DiffTurned.{all_flat, indexed_at, reference_at, turned_are, unique_is_at}
use Rattle.record_index.specs.diff.Touched.{HasSoundRows, IsAlike, NoneTakes, changes_at, has, touched_changes}

module _ (org : ℕ) (p q : OrgPlan) (t u : Tenant) (ids : List (List ℕ)) (is : IsAlike p q t u ids) (kept_t : HasSoundRows p t) (kept_u : HasSoundRows q u) (none_takes : NoneTakes p q t u ids) where
  abbrev P : Change → Type 0
  P c = (org_of_key c.0 ≡ Some org) × (row_in q u c.0 ≡ c.1)

  index_row : (n s : ℕ) (i k : List ℕ) → row_in q u (Index org n s k i) ≡ cond (is_at (index_key (kept_entry (kept_at q u n i) s)) k) (Some []) None
  unfolding row_in
  index_row n s i k = where_is (is_indexed k) refl s (kept_at q u n i) ∙ ap (λ b. cond {A = Option (List ℕ)} b (Some []) None) (indexed_at k (kept_entry (kept_at q u n i) s))

  reference_row : (n s : ℕ) (i k : List ℕ) → row_in q u (Relation org n s k i) ≡ cond (is_at (reference_key (kept_entry (kept_at q u n i) s)) k) (Some []) None
  unfolding row_in
  reference_row n s i k = where_is (is_reference_to k) refl s (kept_at q u n i) ∙ ap (λ b. cond {A = Option (List ℕ)} b (Some []) None) (reference_at k (kept_entry (kept_at q u n i) s))

  there : (n : ℕ) (x : Option model.Object) → object_numbered t n ≡ x → object_numbered u n ≡ x
  there n x here = ap (λ (os : List model.Object). slice_get os n) is.objects ∙ here

  -- the unique row of a key that a touched record had, or has
  holder_row : (n : ℕ) (o : model.Object) (s : ℕ) (i k : List ℕ) → has ids i ≡ true → object_numbered t n ≡ Some o
      → (is_unique k (kept_entry (kept_at p t n i) s) ≡ true) ⊎ (is_unique k (kept_entry (kept_at q u n i) s) ≡ true)
      → option_map (λ y. row_bytes unique_form (unique_of org n s k y)) (find (λ y. is_unique k (slot_entry q u.job n o y s)) (records_of u n))
      ≡ cond (is_unique k (kept_entry (kept_at q u n i) s)) (Some i) None
  holder_row n o s i k touched here h = by (find (λ y. is_unique k (slot_entry q u.job n o y s)) (records_of u n)) refl (is_unique k (kept_entry (kept_at q u n i) s)) refl
    where
      before : is_unique k (kept_entry (kept_at q u n i) s) ≡ false → is_unique k (kept_entry (kept_at p t n i) s) ≡ true
      before b = elim h [ inl e ↦ e | inr e ↦ absurd (clash (sym e ∙ b)) ]

      by : (z : Option Record) → find (λ y. is_unique k (slot_entry q u.job n o y s)) (records_of u n) ≡ z → (b : Bool) → is_unique k (kept_entry (kept_at q u n i) s) ≡ b
          → option_map (λ y. row_bytes unique_form (unique_of org n s k y)) z ≡ cond b (Some i) None
      by None a false b = refl
      by None a true b =
          let y = entry_of_kept q u n o i s k (there n (Some o) here) b in
          absurd (clash (sym y.4 ∙ none_found (λ y. is_unique k (slot_entry q u.job n o y s)) (records_of u n) a y.0 (has_kept (is_of n) u.records y.0 y.1 y.3)))
      by (Some z) a true b =
          let z_is = is_found (λ y. is_unique k (slot_entry q u.job n o y s)) (records_of u n) z a in
          let z_in = kept_has (is_of n) u.records z z_is.0 in
          let y = entry_of_kept q u n o i s k (there n (Some o) here) b in
          ap (λ (x : List ℕ). Some x) (kept_u.one n o s k z y.0 (there n (Some o) here) z_in.0 y.1 z_in.1 y.3 z_is.1 y.4 ∙ y.2)
      by (Some z) a false b =
          let z_is = is_found (λ y. is_unique k (slot_entry q u.job n o y s)) (records_of u n) z a in
          let z_in = kept_has (is_of n) u.records z z_is.0 in
          let z_kept = ap (λ x. is_unique k (kept_entry x s)) (kept_is q u n o z (there n (Some o) here) (kept_u.each z z_in.0) z_in.1) ∙ z_is.1 in
          absurd (clash (sym z_kept ∙ none_takes n s k i z.id touched (before b) b))

  unique_row : (n s : ℕ) (i k : List ℕ) → has ids i ≡ true → (is_at (unique_key (kept_entry (kept_at p t n i) s)) k ≡ true) ⊎ (is_at (unique_key (kept_entry (kept_at q u n i) s)) k ≡ true)
      → row_in q u (Unique org n s k) ≡ cond (is_at (unique_key (kept_entry (kept_at q u n i) s)) k) (Some i) None
  unfolding row_in
  unique_row n s i k touched h = by (object_numbered t n) refl
    where
      now : is_unique k (kept_entry (kept_at q u n i) s) ≡ is_at (unique_key (kept_entry (kept_at q u n i) s)) k
      now = unique_is_at k (kept_entry (kept_at q u n i) s)

      some : (is_unique k (kept_entry (kept_at p t n i) s) ≡ true) ⊎ (is_unique k (kept_entry (kept_at q u n i) s) ≡ true)
      some = elim h [ inl e ↦ inl (unique_is_at k (kept_entry (kept_at p t n i) s) ∙ e) | inr e ↦ inr (now ∙ e) ]

      by : (x : Option model.Object) → object_numbered t n ≡ x
          → option_map (λ y. row_bytes unique_form (unique_of org n s k y)) (option_and_then (λ o. find (λ y. is_unique k (slot_entry q u.job n o y s)) (records_of u n)) (object_numbered u n)) ≡ cond (is_at (unique_key (kept_entry (kept_at q u n i) s)) k) (Some i) None
      by None none = absurd (elim some [ inl e ↦ no_kept p t n s i k none e | inr e ↦ no_kept q u n s i k (there n None none) e ])
      by (Some o) here =
          ap (λ (x : Option model.Object). option_map (λ y. row_bytes unique_form (unique_of org n s k y)) (option_and_then (λ o. find (λ y. is_unique k (slot_entry q u.job n o y s)) (records_of u n)) x)) (there n (Some o) here)
          ∙ holder_row n o s i k touched here some
          ∙ ap (λ b. cond {A = Option (List ℕ)} b (Some i) None) now

  slot_puts : (n : ℕ) (i : List ℕ) → has ids i ≡ true → (s : ℕ) → AllByRecursion P (slot_changes org n i (kept_entry (kept_at p t n i) s) (kept_entry (kept_at q u n i) s) s)
  slot_puts n i touched s =
      let old = kept_entry (kept_at p t n i) s in
      let new = kept_entry (kept_at q u n i) s in
      all_append P (row_turned (λ k. Index org n s k i) [] (index_key old) (index_key new)) _
      (turned_are P (λ k. Index org n s k i) [] (index_key old) (index_key new) (λ k h. (refl, index_row n s i k)))
      (all_append P (row_turned (λ k. Unique org n s k) i (unique_key old) (unique_key new)) _
      (turned_are P (λ k. Unique org n s k) i (unique_key old) (unique_key new) (λ k h. (refl, unique_row n s i k touched h)))
      (turned_are P (λ k. Relation org n s k i) [] (reference_key old) (reference_key new) (λ k h. (refl, reference_row n s i k))))

  own_row : (n : ℕ) (i : List ℕ) → row_in q u (Data org n i) ≡ data_row org n (kept_at q u n i)
  unfolding row_in
  own_row n i = refl

  puts_at : (i : List ℕ) → has ids i ≡ true → AllByRecursion P (changes_at org p q t u i)
  unfolding record_changes
  puts_at i touched =
      let n = object_number i in
      ((refl, own_row n i), all_flat P (λ s. slot_changes org n i (kept_entry (kept_at p t n i) s) (kept_entry (kept_at q u n i) s) s) (range_with_len 0 slot_count) (slot_puts n i touched))

  or_true : (a b : Bool) → b ≡ true → (a || b) ≡ true
  or_true true b h = refl
  or_true false b h = h

  puts : (js : List (List ℕ)) → ((i : List ℕ) → has js i ≡ true → has ids i ≡ true) → AllByRecursion P (flat_map (changes_at org p q t u) js)
  puts [] among = tt
  puts (i ∷ js) among =
      all_append P (changes_at org p q t u i) (flat_map (changes_at org p q t u) js)
      (puts_at i (among i (ap (λ b. b || has js i) (same_itself i))))
      (puts js (λ j h. among j (or_true (bytes_eq i j) (has js j) h)))

  with_keys : (cs : List Change) → AllByRecursion (λ c. FitsKey c.0) cs → AllByRecursion P cs → AllByRecursion (IsOf org q u) cs
  with_keys [] a b = tt
  with_keys (c ∷ cs) a b = ((a.0, b.0.0, b.0.1), with_keys cs a.1 b.1)

  pub touched_puts : AllByRecursion (λ c. FitsKey c.0) (touched_changes org p q t u ids) → AllByRecursion (IsOf org q u) (touched_changes org p q t u ids)
  touched_puts keys = with_keys (touched_changes org p q t u ids) keys (puts ids (λ i h. h))

  pub all_puts : (counts : List Change) → AllByRecursion (IsOf org q u) counts → AllByRecursion (λ c. FitsKey c.0) (touched_changes org p q t u ids)
      → AllByRecursion (IsOf org q u) (counts ++ touched_changes org p q t u ids)
  all_puts counts of keys = all_append (IsOf org q u) counts (touched_changes org p q t u ids) of (touched_puts keys)
