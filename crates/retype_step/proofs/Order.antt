-- The records of a page: they are past the change's cursor and not past their last, and every other record of the object is past the one
-- exactly where it is past the other.
use Rattle.std.proofs.Common.{◌≡◌, zero, suc, ℕ, true, false, ◌||◌, List, [], ◌∷◌, map, filter, take, Option, Some, None, refl, sym, ap, ◌∙◌, subst, ◌⊎◌, inl, inr, T, Less, Equal, Greater, Ordering, bytes_eq}
use Rattle.std.specs.Ordering.{is_lt}
use Rattle.std.specs.FinMap.{is_sorted}
use Rattle.std.specs.FinMap.Entries.{below_all}
use Rattle.std.proofs.lemmas.Cmp.{nat_list_cmp_total}
use Rattle.std.proofs.lemmas.Slice.Eq.{bytes_eq-Decides}
use Rattle.std.proofs.lemmas.Bool.{false≢true as clash}
use Rattle.base_lemmas.proofs.Bools.{T-and_first as t_first, T-and_second as t_second, by_answer as pick}
use Rattle.std.proofs.lemmas.Option.{same_Some as some_is}
use Rattle.record_read.proofs.Rising.{below_has, filter_has, has_filter, has_take, not_less, rise_filter}
use Rattle.store_kv.specs.Tables.{bytes_cmp}
use Rattle.model.specs.declared.record.Record.{Record}
use Rattle.model.specs.Jobs.{is_past, last_id, next_hundred}
use Rattle.model.specs.Limits.{step_records}
use Rattle.model.specs.Membership.{Has}
use Rattle.model.specs.Objects.{is_of, records_of}
use Rattle.model.specs.Sound.{IsSound}
use Rattle.model.specs.SoundPeople.{ids_rise}
use Rattle.model.specs.SoundRecords.{record_id}
use Rattle.model.specs.Tenant.{Job, Tenant}
use Rattle.record_index.specs.diff.Touched.{has, record_ids}

-- ---- the last of some records

pub has_by_id : (rs : List Record) (r : Record) → Has rs r → has (record_ids rs) r.id ≡ true
has_by_id [] r h = absurd h
has_by_id (x ∷ rs) r (inl e) = subst (λ (y : Record). has (record_ids (x ∷ rs)) y.id ≡ true) (sym e) (rw ((bytes_eq-Decides x.id x.id).1 refl) refl)
has_by_id (x ∷ rs) r (inr h) = pick (bytes_eq x.id r.id) (λ b. (b || has (record_ids rs) r.id) ≡ true) (λ _. refl) (λ _. has_by_id rs r h)

last_has : (rs : List Record) (l : List ℕ) → last_id rs ≡ Some l → (r : Record) × Has rs r × (r.id ≡ l)
last_has [] l e = absurd cc
last_has (r ∷ []) l e = (r, inl refl, some_is r.id l e)
last_has (r ∷ x ∷ rs) l e = let (y, has, is) = last_has (x ∷ rs) l e in (y, inr has, is)

pub last_there : (rs : List Record) → (rs ≡ [] → ⊥) → (l : List ℕ) × (last_id rs ≡ Some l)
last_there [] some = absurd (some refl)
last_there (r ∷ []) some = (r.id, refl)
last_there (r ∷ x ∷ rs) some = last_there (x ∷ rs) (λ e. cc)

-- ---- the first of records that rise

module _ (x : Record) (xs : List Record) (rise : T (ids_rise record_id (x ∷ xs))) where
  rest : T (ids_rise record_id xs)
  rest = t_second (below_all bytes_cmp x.id (map (λ (r : Record). (record_id r, r)) xs)) (is_sorted bytes_cmp (map (λ (r : Record). (record_id r, r)) xs)) rise

  above : T (below_all bytes_cmp x.id (map (λ (r : Record). (record_id r, r)) xs))
  above = t_first (below_all bytes_cmp x.id (map (λ (r : Record). (record_id r, r)) xs)) (is_sorted bytes_cmp (map (λ (r : Record). (record_id r, r)) xs)) rise

-- each is among the first, or behind their last
behind : (n : ℕ) (xs : List Record) (l : List ℕ) → T (ids_rise record_id xs) → last_id (take n xs) ≡ Some l → (y : Record) → Has xs y → Has (take n xs) y ⊎ (is_lt (bytes_cmp l y.id) ≡ true)
behind zero xs l rise e y has = absurd cc
behind (suc n) [] l rise e y has = absurd has
behind (suc n) (x ∷ xs) l rise e y has = by (λ e has. behind n xs l (rest x xs rise) e y has) (take n xs) refl e has
  where
    by : (last_id (take n xs) ≡ Some l → Has xs y → Has (take n xs) y ⊎ (is_lt (bytes_cmp l y.id) ≡ true))
        → (ts : List Record) → take n xs ≡ ts → last_id (x ∷ ts) ≡ Some l → Has (x ∷ xs) y → Has (x ∷ ts) y ⊎ (is_lt (bytes_cmp l y.id) ≡ true)
    by again ts w e (inl same) = inl (inl same)
    by again [] w e (inr has) = inr (subst (λ (i : List ℕ). is_lt (bytes_cmp i y.id) ≡ true) (some_is x.id l e) (below_has x.id xs y (above x xs rise) has))
    by again (z ∷ ts) w e (inr has) =
        elim (again (ap last_id w ∙ e) has) [
          | inl here ↦ inl (inr (subst (λ (zs : List Record). Has zs y) w here))
          | inr less ↦ inr less
        ]

-- what isn't past a cursor isn't past what is
before_last : (c : Option (List ℕ)) (l y : List ℕ) → is_past c y ≡ false → is_past c l ≡ true → is_past (Some l) y ≡ false
before_last None l y e f = absurd cc
before_last (Some a) l y e f = by (bytes_cmp l y) refl
  where
    is_less : (o : Ordering) → is_lt o ≡ true → o ≡ Less
    is_less Less h = refl
    is_less Equal h = absurd cc
    is_less Greater h = absurd cc

    by : (o : Ordering) → bytes_cmp l y ≡ o → is_lt o ≡ false
    by Less w = absurd (clash (sym e ∙ ap is_lt (nat_list_cmp_total.trans a l y (is_less (bytes_cmp a l) f) w)))
    by Equal w = refl
    by Greater w = refl

-- the last of them isn't before any
not_behind : (n : ℕ) (xs : List Record) (l : List ℕ) → T (ids_rise record_id xs) → last_id (take n xs) ≡ Some l → (y : Record) → Has (take n xs) y → is_past (Some l) y.id ≡ false
not_behind zero xs l rise e y has = absurd has
not_behind (suc n) [] l rise e y has = absurd has
not_behind (suc n) (x ∷ xs) l rise e y has = by (λ e has. not_behind n xs l (rest x xs rise) e y has) (take n xs) refl e has
  where
    itself : is_past (Some x.id) x.id ≡ false
    itself = pick (is_past (Some x.id) x.id) (λ b. is_past (Some x.id) x.id ≡ b → b ≡ false) (λ _ less. absurd (not_less x.id less)) (λ _ _. refl) refl

    by : (last_id (take n xs) ≡ Some l → Has (take n xs) y → is_past (Some l) y.id ≡ false)
        → (ts : List Record) → take n xs ≡ ts → last_id (x ∷ ts) ≡ Some l → Has (x ∷ ts) y → is_past (Some l) y.id ≡ false
    by again [] w e (inl same) = subst (λ (z : Record). is_past (Some l) z.id ≡ false) (sym same) (subst (λ (i : List ℕ). is_past (Some i) x.id ≡ false) (some_is x.id l e) itself)
    by again [] w e (inr has) = absurd has
    by again (z ∷ ts) w e (inl same) =
        let (r, has, is) = last_has (z ∷ ts) l e in
        let higher = below_has x.id xs r (above x xs rise) (has_take n xs r (subst (λ (zs : List Record). Has zs r) (sym w) has)) in
        subst (λ (z : Record). is_past (Some l) z.id ≡ false) (sym same) (before_last (Some x.id) l x.id itself (subst (λ (i : List ℕ). is_past (Some x.id) i ≡ true) is higher))
    by again (z ∷ ts) w e (inr has) = again (ap last_id w ∙ e) (subst (λ (zs : List Record). Has zs y) (sym w) has)

-- ---- a page

module _ (t : Tenant) (j : Job) (l : List ℕ) (sound : IsSound t) (last : last_id (next_hundred t j) ≡ Some l) where
  abbrev all : List Record
  all = filter (λ r. is_past j.cursor r.id) (records_of t j.object)

  rise : T (ids_rise record_id all)
  rise = rise_filter (λ r. is_past j.cursor r.id) (records_of t j.object) (rise_filter (is_of j.object) t.records sound.records.rise)

  -- its records
  pub among : (r : Record) → Has (next_hundred t j) r → Has t.records r × (is_of j.object r ≡ true) × (is_past j.cursor r.id ≡ true)
  among r has =
      let (in_object, past) = has_filter (λ r. is_past j.cursor r.id) (records_of t j.object) r (has_take step_records all r has) in
      let (in_all, of) = has_filter (is_of j.object) t.records r in_object in
      (in_all, of, past)

  pub come : (r : Record) → Has (next_hundred t j) r → is_past (Some l) r.id ≡ false
  come r has = not_behind step_records all l rise last r has

  -- and the others of the object
  pub stays : (r : Record) → Has t.records r → is_of j.object r ≡ true → has (record_ids (next_hundred t j)) r.id ≡ false → is_past (Some l) r.id ≡ is_past j.cursor r.id
  stays r in_all of out =
      pick (is_past j.cursor r.id) (λ b. is_past j.cursor r.id ≡ b → is_past (Some l) r.id ≡ b)
      (λ _ past.
      elim (behind step_records all l rise last r (filter_has (λ r. is_past j.cursor r.id) (records_of t j.object) r (filter_has (is_of j.object) t.records r in_all of) past)) [
        | inl here ↦ absurd (clash (sym out ∙ has_by_id (next_hundred t j) r here))
        | inr less ↦ less
      ])
      (λ _ before.
      let (x, on_page, is) = last_has (next_hundred t j) l last in
      before_last j.cursor l r.id before (subst (λ (i : List ℕ). is_past j.cursor i ≡ true) is (among x on_page).2))
      refl
