-- The rows of the references to a record in a field's slot, in the order of their keys.
use Rattle.std.proofs.Common.{◌≡◌, ℕ, true, cond, IsTrue, List, [], map, Option, Some, None, refl, sym, ap, subst, ◌∙◌, arith, Bool}
use Rattle.std.specs.Prelude.{IfSome, slice_get}
use Rattle.std.specs.List.{filter}
use Rattle.std.specs.Option.{option_and_then, option_map}
use Rattle.std.specs.Ordering.{nat_cmp, ordering_then}
use Rattle.std.proofs.lemmas.Cmp.{nat_list_cmp_total, tied_itself}
use Rattle.base_lemmas.proofs.Orders.{nat_cmp-self as tied}
use Rattle.base_lemmas.proofs.Bools.{by_answer as pick}
use Rattle.base_value.specs.Id.{is_id}
use Rattle.store_kv.specs.Prefixes.{raised}
use Rattle.store_kv.specs.Tables.{Has as HasRow, bytes_cmp, is_between}
use Rattle.store_rows.specs.declared.relation.RelationRow.{RelationRow}
use Rattle.store_rows.specs.Forms.{FitsForm, key_bytes, row_bytes}
use Rattle.store_rows.specs.Keys.{FitsKey, Key, Relation, slot_key, spell}
use Rattle.store_rows.specs.Listings.{ListsBetween, start_of}
use Rattle.store_rows.specs.Rows.{relation_form}
use Rattle.model.specs.declared.record.Record.{Record}
use Rattle.model.specs.Jobs.{is_past}
use Rattle.model.specs.Membership.{Has}
use Rattle.model.specs.Objects.{is_of, record_at, records_of}
use Rattle.model.specs.Sound.{IsSound}
use Rattle.model.specs.Tenant.{Tenant}
use Rattle.store_codec.specs.Shapes.{Both, FitsIn, Identity}
use Rattle.store_abstraction.specs.declared.layout.FieldPlace.{FieldPlace}
use Rattle.store_abstraction.specs.declared.layout.Layout.{Layout}
use Rattle.store_abstraction.specs.Local.{rows_alone}
use Rattle.store_abstraction.specs.Plan.{FitsPlan, OrgPlan}
use Rattle.record_read.proofs.Listed.{KeyLaws}
use Rattle.record_read.proofs.Rising.{filter_has, found_itself, has_filter, rise_filter}
use Rattle.record_read.proofs.Standing.{IsOf, found_of, of_object}
use Rattle.record_references.specs.Referring.{refers_by}
use Rattle.record_references.specs.inner.Rows.{FitsFront, Front, front_bytes, key_at, parts_at}
use Rattle.record_references.proofs.Ordered.{begins_so as begins_under, has_row, inside, keys_rise, past_so, row_has}
use Rattle.record_references.proofs.Rows.{row_for, row_there}

-- the records of an object that refer to a record, after an id
abbrev pub those : Tenant → (n number : ℕ) → (target : List ℕ) → Option (List ℕ) → List Record
those t n number target after = filter (λ r. is_past after r.id) (filter (refers_by number target) (records_of t n))

-- a record's row
abbrev pub row_of : Front → Record → RelationRow
row_of p r = record { org = p.0; object = p.1.0; slot = p.1.1.0; target = p.1.1.1; id = r.id }

-- its key
abbrev named : Front → List ℕ → Key
named p i = Relation p.0 p.1.0 p.1.1.0 p.1.1.1 i

module _ (keys : KeyLaws) (p : Front) (fits : FitsFront p) where
  fits_key : (i : List ℕ) → IsTrue (is_id i) → FitsIn (slot_key (Both Identity Identity)) (parts_at p i)
  fits_key i h = (fits.0, (fits.1.0, (fits.1.1.0, (fits.1.1.1, h))))

  compare : (i j : List ℕ) → IsTrue (is_id i) → IsTrue (is_id j) → bytes_cmp (key_at p i) (key_at p j) ≡ bytes_cmp i j
  compare i j hi hj =
      let last = ordering_then (bytes_cmp p.1.1.1 p.1.1.1) (bytes_cmp i j) in
      let slots = ordering_then (nat_cmp p.1.1.0 p.1.1.0) last in
      keys.compares (slot_key (Both Identity Identity)) refl (parts_at p i) (parts_at p j) (fits_key i hi) (fits_key j hj)
      ∙ ap (λ o. ordering_then o (ordering_then (nat_cmp p.1.0 p.1.0) slots)) (tied p.0)
      ∙ ap (λ o. ordering_then o slots) (tied p.1.0)
      ∙ ap (λ o. ordering_then o last) (tied p.1.1.0)
      ∙ ap (λ o. ordering_then o (bytes_cmp i j)) (tied_itself nat_list_cmp_total p.1.1.1)

  module _ (above : List ℕ) (rises : raised (front_bytes p) ≡ Some above) where
    abbrev pub from : Option (List ℕ) → List ℕ
    from after = start_of (front_bytes p) (option_map (key_at p) after)

    in_prefix : (i : List ℕ) → IsTrue (is_id i) → is_between (front_bytes p) above (key_at p i) ≡ true
    in_prefix i h =
        (keys.under (named p i) (front_bytes p) above (fits_key i h) rises).1
        ((keys.begins 4 (slot_key (Both Identity Identity)) (parts_at p i) p (fits_key i h) fits).1 refl)

    pub begins_so : (after : Option (List ℕ)) (k : List ℕ) → IfSome after (λ j. IsTrue (is_id j)) → is_between (from after) above k ≡ true → is_between (front_bytes p) above k ≡ true
    begins_so after k ha h = begins_under (key_at p) compare keys.after (front_bytes p) above in_prefix after k ha h

    -- a key of the interval is that of a record after the id
    record IsAt (after : Option (List ℕ)) (k : Key) : Type 0 where
      id : List ℕ
      is : k ≡ named p id
      past : is_past after id ≡ true

    key_is : (after : Option (List ℕ)) → IfSome after (λ j. IsTrue (is_id j)) → (k : Key) → FitsKey k → (spell k).0 ≡ 10 → IsTrue (is_between (from after) above (spell k).1) → IsAt after k
    key_is after ha (Relation o n s to i) fit table within =
        let starts = (keys.under (Relation o n s to i) (front_bytes p) above fit rises).0 (begins_so after (key_at (o, (n, (s, to))) i) ha within) in
        let same : (o, (n, (s, to))) ≡ p = (keys.begins 4 (slot_key (Both Identity Identity)) (o, (n, (s, (to, i)))) p fit fits).0 starts in
        record {
          id = i;
          is = ap (λ (q : Front). named q i) same;
          past = past_so (key_at p) compare keys.after (front_bytes p) above in_prefix after i ha fit.1.1.1.1 (subst (λ (q : Front). is_between (from after) above (key_at q i) ≡ true) same within);
        }
    key_is after ha k fit table within = absurd (omega (arith, table))

module _ (keys : KeyLaws) (q : OrgPlan) (t : Tenant) (l : Layout) (one : IsOf q t l) (sound : IsSound t) (plan : FitsPlan q t) (ids : (r : Record) → Has t.records r → IsTrue (is_id r.id))
    (number : ℕ) (f : FieldPlace) (at : slice_get l.fields number ≡ Some f) (target : List ℕ) (fits : FitsFront (l.org, (l.object, (f.slot, target)))) where
  abbrev rows : Key → Option (List ℕ)
  rows = rows_alone l.org q (Some t)

  abbrev p : Front
  p = (l.org, (l.object, (f.slot, target)))

  -- ---- their members

  record IsMember (after : Option (List ℕ)) (r : Record) : Type 0 where
    here : Has t.records r
    of : IsTrue (is_of l.object r)
    refers : refers_by number target r ≡ true
    past : is_past after r.id ≡ true

  member : (after : Option (List ℕ)) (r : Record) → Has (those t l.object number target after) r → IsMember after r
  member after r has =
      let (among, past) = has_filter (λ r. is_past after r.id) (filter (refers_by number target) (records_of t l.object)) r has in
      let (its, refers) = has_filter (refers_by number target) (records_of t l.object) r among in
      let (here, of) = has_filter (is_of l.object) t.records r its in
      record { here = here; of = of; refers = refers; past = past }

  is_member : (after : Option (List ℕ)) (r : Record) → IsMember after r → Has (those t l.object number target after) r
  is_member after r m =
      filter_has (λ r. is_past after r.id) (filter (refers_by number target) (records_of t l.object)) r
      (filter_has (refers_by number target) (records_of t l.object) r (filter_has (is_of l.object) t.records r m.here m.of) m.refers) m.past

  its_row : (i : List ℕ) → rows (named p i) ≡ option_and_then (row_for number target) (of_object l.object (record_at t i))
  its_row i = row_there q t l one plan number f at target i

  row_of_record : (after : Option (List ℕ)) (r : Record) → IsMember after r → rows (named p r.id) ≡ Some []
  row_of_record after r m =
      its_row r.id ∙ ap (λ x. option_and_then (row_for number target) (of_object l.object x)) (found_itself t.records r sound.records.rise m.here)
      ∙ ap (λ (b : Bool). option_and_then (row_for number target) (cond b (Some r) None)) m.of
      ∙ ap (λ (b : Bool). cond {A = Option (List ℕ)} b (Some []) None) m.refers

  some_found : (x : Option Record) (bytes : List ℕ) → option_and_then (row_for number target) x ≡ Some bytes → (r : Record) × (x ≡ Some r) × (refers_by number target r ≡ true)
  some_found None bytes e = absurd cc
  some_found (Some r) bytes e =
      pick (refers_by number target r) (λ b. refers_by number target r ≡ b → cond {A = Option (List ℕ)} b (Some []) None ≡ Some bytes → (x : Record) × (◌≡◌ {A = Option Record} (Some r) (Some x)) × (refers_by number target x ≡ true))
      (λ _ is _. (r, refl, is))
      (λ _ _ none. absurd cc)
      refl e

  -- ---- the list

  module _ (above : List ℕ) (rises : raised (front_bytes p) ≡ Some above) (after : Option (List ℕ)) (ha : IfSome after (λ j. IsTrue (is_id j))) where
    abbrev all : List Record
    all = those t l.object number target after

    complete : (k : Key) (bytes : List ℕ) → FitsKey k → (spell k).0 ≡ 10 → IsTrue (is_between (from keys p fits above rises after) above (spell k).1) → rows k ≡ Some bytes
        → (u : RelationRow) × HasRow (map (row_of p) all) u × (Relation u.org u.object u.slot u.target u.id ≡ k)
    complete k bytes fit table within here =
        let it = key_is keys p fits above rises after ha k fit table within in
        let (r, found, refers) = some_found (of_object l.object (record_at t it.id)) bytes (sym (its_row it.id) ∙ ap rows (sym it.is) ∙ here) in
        let g = found_of t l.object it.id r (record_at t it.id) refl found in
        let past = subst (λ (j : List ℕ). is_past after j ≡ true) (sym g.same) it.past in
        let has = is_member after r (record { here = g.has; of = g.of; refers = refers; past = past }) in
        (row_of p r, has_row (row_of p) all r has, ap (named p) g.same ∙ sym it.is)

    pub rows_listed : ListsBetween relation_form rows (from keys p fits above rises after) above (map (row_of p) all)
    rows_listed = record {
      rises = keys_rise (key_at p) (compare keys p fits) relation_form (row_of p) (λ r. refl) all (λ r has. ids r (member after r has).here)
          (rise_filter (λ r. is_past after r.id) (filter (refers_by number target) (records_of t l.object))
          (rise_filter (refers_by number target) (records_of t l.object) (rise_filter (is_of l.object) t.records sound.records.rise)));
      sound = λ u has.
          let (r, among, is) = row_has (row_of p) all u has in
          let m = member after r among in
          subst (λ (v : RelationRow). FitsForm relation_form v × IsTrue (is_between (from keys p fits above rises after) above (key_bytes relation_form v)) × (rows (Relation v.org v.object v.slot v.target v.id) ≡ Some (row_bytes relation_form v))) (sym is) (
            (fits_key keys p fits r.id (ids r m.here), tt),
            inside (key_at p) (compare keys p fits) keys.after (front_bytes p) above (in_prefix keys p fits above rises) after r.id ha (ids r m.here) m.past,
            row_of_record after r m,
          );
      complete = complete;
    }
