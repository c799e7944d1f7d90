-- The rows of an object's records among those of their organisation alone, in the order of their keys.
use Rattle.std.proofs.Common.{◌≡◌, ℕ, ◌<◌, ◌^◌, Bool, true, false, ◌&&◌, cond, T, IsTrue, List, [], ◌∷◌, ◌++◌, map, Option, Some, None, refl, sym, ap, subst, ◌∙◌, inl, inr, arith}
use Rattle.std.specs.Prelude.{IfSome}
use Rattle.std.specs.FinMap.{is_sorted}
use Rattle.std.specs.FinMap.Entries.{below_all}
use Rattle.std.specs.List.{filter}
use Rattle.std.specs.Option.{option_map}
use Rattle.std.specs.Ordering.{is_ge, is_lt, nat_cmp, ordering_then}
use Rattle.base_lemmas.proofs.Orders.{nat_cmp-self as tied}
use Rattle.base_lemmas.proofs.Bools.{T-and_from as t_both, T-and_first as t_first, T-and_second as t_second}
use Rattle.base_value.specs.Id.{is_id}
use Rattle.store_kv.specs.Prefixes.{raised}
use Rattle.store_kv.specs.Tables.{Has as HasRow, bytes_cmp, is_between}
use Rattle.store_kv.specs.Walks.{next_above}
use Rattle.store_rows.specs.declared.data.DataRow.{DataRow}
use Rattle.store_rows.specs.Forms.{FitsForm, key_bytes, row_bytes}
use Rattle.store_rows.specs.Keys.{Data, FitsKey, Key, record_key, spell}
use Rattle.store_rows.specs.Listings.{ListsBetween, start_of, with_key}
use Rattle.store_rows.specs.Rows.{data_form}
use Rattle.model.specs.declared.record.Record.{Record}
use Rattle.model.specs.Jobs.{is_past}
use Rattle.model.specs.Membership.{Has}
use Rattle.model.specs.Objects.{is_of, record_at, records_of}
use Rattle.model.specs.Sound.{IsSound}
use Rattle.model.specs.SoundPeople.{ids_rise}
use Rattle.model.specs.SoundRecords.{record_id}
use Rattle.model.specs.Tenant.{Tenant}
use Rattle.store_codec.specs.Plain.{number16, number32}
use Rattle.store_codec.specs.Shapes.{spelled}
use Rattle.store_abstraction.specs.declared.layout.Layout.{Layout}
use Rattle.store_abstraction.specs.Local.{rows_alone}
use Rattle.store_abstraction.specs.Plan.{FitsPlan, OrgPlan}
use Rattle.store_abstraction.proofs.MetadataLists.{BeginsSo, ComparesKeys, UnderPrefix}
use Rattle.record_read.proofs.Rising.{filter_has, found_itself, has_filter, rise_filter, still_above}
use Rattle.record_read.proofs.Standing.{IsOf, Laws, found_of, of_object, own_row, row_in_plan, row_kept}

-- ---- laws of keys, as `store_rows`, `store_codec` and `store_kv` say

abbrev pub AfterZero : Type 0
AfterZero = (key other : List ℕ) → is_ge (bytes_cmp other (next_above key)) ≡ is_lt (bytes_cmp key other)

pub record KeyLaws : Type 0 where
  pub under : UnderPrefix
  pub compares : ComparesKeys
  pub begins : BeginsSo
  pub after : AfterZero

abbrev pub prefix_of : (org n : ℕ) → List ℕ
prefix_of org n = number32 org ++ number16 n

abbrev pub key_at : (org n : ℕ) → List ℕ → List ℕ
key_at org n i = spelled record_key (org, (n, i))

-- the records of an object after an id
abbrev pub those : Tenant → ℕ → Option (List ℕ) → List Record
those t n after = filter (λ r. is_past after r.id) (records_of t n)

module _ (laws : Laws) (keys : KeyLaws) (q : OrgPlan) (t : Tenant) (l : Layout) (one : IsOf q t l) (sound : IsSound t) (plan : FitsPlan q t) (ids : (r : Record) → Has t.records r → IsTrue (is_id r.id)) (lo : l.org < 2 ^ 32) (small : l.object < 2 ^ 16) where
  abbrev rows : Key → Option (List ℕ)
  rows = rows_alone l.org q (Some t)

  abbrev pub row_of : Record → DataRow
  row_of = row_in_plan l.org q t l.object one.object

  compare : (i j : List ℕ) → IsTrue (is_id i) → IsTrue (is_id j) → bytes_cmp (key_at l.org l.object i) (key_at l.org l.object j) ≡ bytes_cmp i j
  compare i j hi hj =
      keys.compares record_key refl (l.org, (l.object, i)) (l.org, (l.object, j)) (lo, (small, hi)) (lo, (small, hj))
      ∙ ap (λ o. ordering_then o (ordering_then (nat_cmp l.object l.object) (bytes_cmp i j))) (tied l.org)
      ∙ ap (λ o. ordering_then o (bytes_cmp i j)) (tied l.object)

  -- ---- in the order of their keys

  below_keys : (i : List ℕ) (rs : List Record) → IsTrue (is_id i) → ((r : Record) → Has rs r → IsTrue (is_id r.id)) → T (below_all bytes_cmp i (map (λ (r : Record). (record_id r, r)) rs))
      → T (below_all bytes_cmp (key_at l.org l.object i) (map (with_key data_form) (map row_of rs)))
  below_keys i [] hi each h = tt
  below_keys i (r ∷ rs) hi each h =
      let less = t_first (is_lt (bytes_cmp i r.id)) (below_all bytes_cmp i (map (λ (r : Record). (record_id r, r)) rs)) h in
      t_both (is_lt (bytes_cmp (key_at l.org l.object i) (key_at l.org l.object r.id))) (below_all bytes_cmp (key_at l.org l.object i) (map (with_key data_form) (map row_of rs)))
      (subst (λ o. T (is_lt o)) (sym (compare i r.id hi (each r (inl refl)))) less)
      (below_keys i rs hi (λ x has. each x (inr has)) (t_second (is_lt (bytes_cmp i r.id)) (below_all bytes_cmp i (map (λ (r : Record). (record_id r, r)) rs)) h))

  keys_rise : (rs : List Record) → ((r : Record) → Has rs r → IsTrue (is_id r.id)) → T (ids_rise record_id rs) → T (is_sorted bytes_cmp (map (with_key data_form) (map row_of rs)))
  keys_rise [] each h = tt
  keys_rise (r ∷ rs) each h =
      let above = t_first (below_all bytes_cmp r.id (map (λ (r : Record). (record_id r, r)) rs)) (is_sorted bytes_cmp (map (λ (r : Record). (record_id r, r)) rs)) h in
      t_both (below_all bytes_cmp (key_at l.org l.object r.id) (map (with_key data_form) (map row_of rs))) (is_sorted bytes_cmp (map (with_key data_form) (map row_of rs)))
      (below_keys r.id rs (each r (inl refl)) (λ x has. each x (inr has)) above)
      (keys_rise rs (λ x has. each x (inr has)) (t_second (below_all bytes_cmp r.id (map (λ (r : Record). (record_id r, r)) rs)) (is_sorted bytes_cmp (map (λ (r : Record). (record_id r, r)) rs)) h))

  -- ---- their members

  pub member : (after : Option (List ℕ)) (r : Record) → Has (those t l.object after) r → Has t.records r × IsTrue (is_of l.object r) × IsTrue (is_past after r.id)
  member after r has =
      let (among, past) = has_filter (λ r. is_past after r.id) (records_of t l.object) r has in
      let (here, of) = has_filter (is_of l.object) t.records r among in
      (here, of, past)

  pub row_has : (rs : List Record) (u : DataRow) → HasRow (map row_of rs) u → (r : Record) × Has rs r × (u ≡ row_of r)
  row_has [] u h = absurd h
  row_has (x ∷ rs) u (inl e) = (x, inl refl, e)
  row_has (x ∷ rs) u (inr h) = let (r, has, is) = row_has rs u h in (r, inr has, is)

  has_row : (rs : List Record) (r : Record) → Has rs r → HasRow (map row_of rs) (row_of r)
  has_row [] r h = absurd h
  has_row (x ∷ rs) r (inl e) = inl (ap row_of e)
  has_row (x ∷ rs) r (inr h) = inr (has_row rs r h)

  row_there : (i : List ℕ) → rows (Data l.org l.object i) ≡ option_map (row_bytes data_form) (option_map row_of (of_object l.object (record_at t i)))
  row_there i = own_row l.org l.object q t i ∙ row_kept l.org l.object q t one.object i one.there

  row_of_record : (r : Record) → Has t.records r → IsTrue (is_of l.object r) → rows (Data l.org l.object r.id) ≡ Some (row_bytes data_form (row_of r))
  row_of_record r has of =
      row_there r.id ∙ ap (λ x. option_map (row_bytes data_form) (option_map row_of (of_object l.object x))) (found_itself t.records r sound.records.rise has)
      ∙ ap (λ (b : Bool). option_map (row_bytes data_form) (option_map row_of (cond b (Some r) None))) of

  some_found : (x : Option Record) (bytes : List ℕ) → option_map (row_bytes data_form) (option_map row_of x) ≡ Some bytes → (r : Record) × (x ≡ Some r)
  some_found None bytes e = absurd cc
  some_found (Some r) bytes e = (r, refl)

  -- ---- the interval of their keys

  module _ (above : List ℕ) (rises : raised (prefix_of l.org l.object) ≡ Some above) where
    in_prefix : (i : List ℕ) → IsTrue (is_id i) → is_between (prefix_of l.org l.object) above (key_at l.org l.object i) ≡ true
    in_prefix i h =
        (keys.under (Data l.org l.object i) (prefix_of l.org l.object) above (lo, (small, h)) rises).1
        ((keys.begins 2 record_key (l.org, (l.object, i)) (l.org, l.object) (lo, (small, h)) (lo, small)).1 refl)

    and_first : (a b : Bool) → (a && b) ≡ true → a ≡ true
    and_first true b h = refl
    and_first false b h = absurd cc

    and_second : (a b : Bool) → (a && b) ≡ true → b ≡ true
    and_second true b h = h
    and_second false b h = absurd cc

    and_both : (a b : Bool) → a ≡ true → b ≡ true → (a && b) ≡ true
    and_both true b h g = g
    and_both false b h g = absurd cc

    abbrev from : Option (List ℕ) → List ℕ
    from after = start_of (prefix_of l.org l.object) (option_map (key_at l.org l.object) after)

    inside : (after : Option (List ℕ)) (i : List ℕ) → IfSome after (λ j. IsTrue (is_id j)) → IsTrue (is_id i) → is_past after i ≡ true → is_between (from after) above (key_at l.org l.object i) ≡ true
    inside None i ha h past = in_prefix i h
    inside (Some j) i ha h past =
        let k = key_at l.org l.object i in
        let whole = in_prefix i h in
        and_both (is_ge (bytes_cmp k (next_above (key_at l.org l.object j)))) (is_lt (bytes_cmp k above))
        (keys.after (key_at l.org l.object j) k ∙ ap is_lt (compare j i ha h) ∙ past)
        (and_second (is_ge (bytes_cmp k (prefix_of l.org l.object))) (is_lt (bytes_cmp k above)) whole)

    -- a key of the interval begins with the prefix
    pub begins_so : (after : Option (List ℕ)) (k : List ℕ) → IfSome after (λ j. IsTrue (is_id j)) → is_between (from after) above k ≡ true → is_between (prefix_of l.org l.object) above k ≡ true
    begins_so None k ha h = h
    begins_so (Some j) k ha h =
        let a = key_at l.org l.object j in
        let later : is_lt (bytes_cmp a k) ≡ true = sym (keys.after a k) ∙ and_first (is_ge (bytes_cmp k (next_above a))) (is_lt (bytes_cmp k above)) h in
        and_both (is_ge (bytes_cmp k (prefix_of l.org l.object))) (is_lt (bytes_cmp k above))
        (still_above a k (prefix_of l.org l.object) later (and_first (is_ge (bytes_cmp a (prefix_of l.org l.object))) (is_lt (bytes_cmp a above)) (in_prefix j ha)))
        (and_second (is_ge (bytes_cmp k (next_above a))) (is_lt (bytes_cmp k above)) h)

    past_so : (after : Option (List ℕ)) (i : List ℕ) → IfSome after (λ j. IsTrue (is_id j)) → IsTrue (is_id i) → is_between (from after) above (key_at l.org l.object i) ≡ true → is_past after i ≡ true
    past_so None i ha h inside = refl
    past_so (Some j) i ha h inside =
        let a = key_at l.org l.object j in
        let k = key_at l.org l.object i in
        ap is_lt (sym (compare j i ha h)) ∙ sym (keys.after a k) ∙ and_first (is_ge (bytes_cmp k (next_above a))) (is_lt (bytes_cmp k above)) inside

    complete : (after : Option (List ℕ)) → IfSome after (λ j. IsTrue (is_id j)) → (k : Key) (bytes : List ℕ) → FitsKey k → (spell k).0 ≡ 7 → IsTrue (is_between (from after) above (spell k).1) → rows k ≡ Some bytes
        → (u : DataRow) × HasRow (map row_of (those t l.object after)) u × (Data u.org u.object u.id ≡ k)
    complete after ha (Data o n i) bytes fits table within here =
        let starts = (keys.under (Data o n i) (prefix_of l.org l.object) above fits rises).0 (begins_so after (key_at o n i) ha within) in
        let same : (o, n) ≡ (l.org, l.object) = (keys.begins 2 record_key (o, (n, i)) (l.org, l.object) fits (lo, small)).0 starts in
        let is : Data o n i ≡ Data l.org l.object i = ap (λ (q : ℕ × ℕ). Data q.0 q.1 i) same in
        let (r, found) = some_found (of_object l.object (record_at t i)) bytes (sym (row_there i) ∙ ap rows (sym is) ∙ here) in
        let f = found_of t l.object i r (record_at t i) refl found in
        let past : is_past after i ≡ true = past_so after i ha fits.1.1 (subst (λ (q : ℕ × ℕ). is_between (from after) above (key_at q.0 q.1 i) ≡ true) same within) in
        let member : Has (those t l.object after) r =
        filter_has (λ r. is_past after r.id) (records_of t l.object) r (filter_has (is_of l.object) t.records r f.has f.of) (subst (λ (j : List ℕ). is_past after j ≡ true) (sym f.same) past)
        in
        (row_of r, has_row (those t l.object after) r member, ap (λ (j : List ℕ). Data l.org l.object j) f.same ∙ sym is)
    complete after ha k bytes fits table within here = absurd (omega (arith, table))

    pub rows_listed : (after : Option (List ℕ)) → IfSome after (λ j. IsTrue (is_id j)) → ListsBetween data_form rows (from after) above (map row_of (those t l.object after))
    rows_listed after ha = record {
      rises = keys_rise (those t l.object after) (λ r has. ids r (member after r has).0)
          (rise_filter (λ r. is_past after r.id) (records_of t l.object) (rise_filter (is_of l.object) t.records sound.records.rise));
      sound = λ u has.
          let (r, among, is) = row_has (those t l.object after) u has in
          let (here, of, past) = member after r among in
          subst (λ (v : DataRow). FitsForm data_form v × IsTrue (is_between (from after) above (key_bytes data_form v)) × (rows (Data v.org v.object v.id) ≡ Some (row_bytes data_form v))) (sym is) (
            laws.fits l.org l.object q t one.object r lo sound plan one.there here of,
            inside after r.id ha (ids r here) past,
            row_of_record r here of,
          );
      complete = complete after ha;
    }
