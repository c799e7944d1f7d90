-- Rows whose keys begin alike and end with the ids of records: they are in the order of the ids, and their interval may begin
-- after an id.
use Rattle.std.proofs.Common.{◌≡◌, ℕ, true, T, IsTrue, List, [], ◌∷◌, map, Option, Some, None, refl, sym, ap, subst, ◌∙◌, inl, inr}
use Rattle.std.specs.Prelude.{IfSome}
use Rattle.std.specs.FinMap.{is_sorted}
use Rattle.std.specs.FinMap.Entries.{below_all}
use Rattle.std.specs.Option.{option_map}
use Rattle.std.specs.Ordering.{is_ge, is_lt}
use Rattle.std.proofs.lemmas.Bool.{and_from as and_both}
use Rattle.base_lemmas.proofs.Bools.{and_first as and_left, and_second as and_right, T-and_from as t_both, T-and_first as t_first, T-and_second as t_second}
use Rattle.base_value.specs.Id.{is_id}
use Rattle.store_kv.specs.Tables.{Has as HasRow, bytes_cmp, is_between}
use Rattle.store_kv.specs.Walks.{next_above}
use Rattle.store_rows.specs.Forms.{Form, key_bytes}
use Rattle.store_rows.specs.Listings.{start_of, with_key}
use Rattle.model.specs.declared.record.Record.{Record}
use Rattle.model.specs.Jobs.{is_past}
use Rattle.model.specs.Membership.{Has}
use Rattle.model.specs.SoundPeople.{ids_rise}
use Rattle.model.specs.SoundRecords.{record_id}
use Rattle.record_read.proofs.Listed.{AfterZero}
use Rattle.record_read.proofs.Rising.{still_above}

-- ---- the rows of some records

module _ {U : Type 0} (row : Record → U) where
  pub row_has : (rs : List Record) (u : U) → HasRow (map row rs) u → (r : Record) × Has rs r × (u ≡ row r)
  row_has [] u h = absurd h
  row_has (x ∷ rs) u (inl e) = (x, inl refl, e)
  row_has (x ∷ rs) u (inr h) = let (r, has, is) = row_has rs u h in (r, inr has, is)

  pub has_row : (rs : List Record) (r : Record) → Has rs r → HasRow (map row rs) (row r)
  has_row [] r h = absurd h
  has_row (x ∷ rs) r (inl e) = inl (ap row e)
  has_row (x ∷ rs) r (inr h) = inr (has_row rs r h)

-- two keys are in the order of their ids
abbrev pub ComparesIds : (List ℕ → List ℕ) → Type 0
ComparesIds key = (i j : List ℕ) → IsTrue (is_id i) → IsTrue (is_id j) → bytes_cmp (key i) (key j) ≡ bytes_cmp i j

module _ (key : List ℕ → List ℕ) (compare : ComparesIds key) where
  -- ---- in the order of their keys

  module _ {U : Type 0} (f : Form U) (row : Record → U) (keyed : (r : Record) → key_bytes f (row r) ≡ key r.id) where
    abbrev with_ids : List Record → List (List ℕ × Record)
    with_ids rs = map (λ (r : Record). (record_id r, r)) rs

    abbrev keys_of : List Record → List (List ℕ × U)
    keys_of rs = map (with_key f) (map row rs)

    below_keys : (r : Record) (rs : List Record) → IsTrue (is_id r.id) → ((x : Record) → Has rs x → IsTrue (is_id x.id)) → T (below_all bytes_cmp r.id (with_ids rs)) → T (below_all bytes_cmp (key_bytes f (row r)) (keys_of rs))
    below_keys r [] hi each h = tt
    below_keys r (x ∷ rs) hi each h =
        let same : bytes_cmp (key_bytes f (row r)) (key_bytes f (row x)) ≡ bytes_cmp r.id x.id = rw (keyed r, keyed x) (compare r.id x.id hi (each x (inl refl))) in
        t_both (is_lt (bytes_cmp (key_bytes f (row r)) (key_bytes f (row x)))) (below_all bytes_cmp (key_bytes f (row r)) (keys_of rs))
        (subst (λ o. T (is_lt o)) (sym same) (t_first (is_lt (bytes_cmp r.id x.id)) (below_all bytes_cmp r.id (with_ids rs)) h))
        (below_keys r rs hi (λ y has. each y (inr has)) (t_second (is_lt (bytes_cmp r.id x.id)) (below_all bytes_cmp r.id (with_ids rs)) h))

    pub keys_rise : (rs : List Record) → ((x : Record) → Has rs x → IsTrue (is_id x.id)) → T (ids_rise record_id rs) → T (is_sorted bytes_cmp (keys_of rs))
    keys_rise [] each h = tt
    keys_rise (r ∷ rs) each h =
        t_both (below_all bytes_cmp (key_bytes f (row r)) (keys_of rs)) (is_sorted bytes_cmp (keys_of rs))
        (below_keys r rs (each r (inl refl)) (λ x has. each x (inr has)) (t_first (below_all bytes_cmp r.id (with_ids rs)) (is_sorted bytes_cmp (with_ids rs)) h))
        (keys_rise rs (λ x has. each x (inr has)) (t_second (below_all bytes_cmp r.id (with_ids rs)) (is_sorted bytes_cmp (with_ids rs)) h))

  -- ---- the interval of their keys

  module _ (zero_after : AfterZero) (prefix above : List ℕ) (in_prefix : (i : List ℕ) → IsTrue (is_id i) → is_between prefix above (key i) ≡ true) where
    abbrev pub from : Option (List ℕ) → List ℕ
    from after = start_of prefix (option_map key after)

    pub inside : (after : Option (List ℕ)) (i : List ℕ) → IfSome after (λ j. IsTrue (is_id j)) → IsTrue (is_id i) → is_past after i ≡ true → is_between (from after) above (key i) ≡ true
    inside None i ha h past = in_prefix i h
    inside (Some j) i ha h past =
        let k = key i in
        and_both (is_ge (bytes_cmp k (next_above (key j)))) (is_lt (bytes_cmp k above))
        (zero_after (key j) k ∙ ap is_lt (compare j i ha h) ∙ past)
        (and_right (is_ge (bytes_cmp k prefix)) (is_lt (bytes_cmp k above)) (in_prefix i h))

    -- a key of the interval begins with the prefix
    pub begins_so : (after : Option (List ℕ)) (k : List ℕ) → IfSome after (λ j. IsTrue (is_id j)) → is_between (from after) above k ≡ true → is_between prefix above k ≡ true
    begins_so None k ha h = h
    begins_so (Some j) k ha h =
        let a = key j in
        let later : is_lt (bytes_cmp a k) ≡ true = sym (zero_after a k) ∙ and_left (is_ge (bytes_cmp k (next_above a))) (is_lt (bytes_cmp k above)) h in
        and_both (is_ge (bytes_cmp k prefix)) (is_lt (bytes_cmp k above))
        (still_above a k prefix later (and_left (is_ge (bytes_cmp a prefix)) (is_lt (bytes_cmp a above)) (in_prefix j ha)))
        (and_right (is_ge (bytes_cmp k (next_above a))) (is_lt (bytes_cmp k above)) h)

    pub past_so : (after : Option (List ℕ)) (i : List ℕ) → IfSome after (λ j. IsTrue (is_id j)) → IsTrue (is_id i) → is_between (from after) above (key i) ≡ true → is_past after i ≡ true
    past_so None i ha h inside = refl
    past_so (Some j) i ha h inside =
        ap is_lt (sym (compare j i ha h)) ∙ sym (zero_after (key j) (key i)) ∙ and_left (is_ge (bytes_cmp (key i) (next_above (key j)))) (is_lt (bytes_cmp (key i) above)) inside
