-- Which rows count records that go.
use Rattle.std.proofs.Common.{◌≡◌, ◌∙◌, ℕ, ◌+◌, ◌-◌, ◌<◌, ◌^◌, Bool, true, false, not, cond, eqb, List, [], ◌∷◌, length, map, Option, Some, None, refl, sym, ap, subst, arith, ℤ}
use Rattle.std.specs.Prelude.{◌==◌, filter}
use Rattle.std.specs.List.{AllByRecursion, flat_map}
use Rattle.std.specs.Option.{option_map}
use Rattle.std.proofs.lemmas.Bool.{eqb-true, true≢false as clash}
use Rattle.std.proofs.lemmas.Option.{slice_get_within}
use Rattle.base_lemmas.proofs.Numbers.{eqb-self as eqb_same}
use Rattle.base_lemmas.proofs.Bools.{or_first_false as or_left_false, by_answer as pick}
use Rattle.record_cascade.specs.Deletion.{gone_ids}
use Rattle.record_delete.specs.Deleting.{count_among, counts_less, object_less}
use Rattle.record_delete.proofs.Lists.{all_flat, has_there, one_unchanged, there_of}
use Rattle.store_edit.specs.Rows.{change_to}
use Rattle.store_rows.specs.Forms.{row_bytes}
use Rattle.store_rows.specs.declared.object.ObjectRow.{ObjectRow}
use Rattle.store_rows.specs.declared.org.OrgRow.{OrgRow}
use Rattle.store_rows.specs.Keys as key
use Rattle.store_rows.specs.Keys.{key_eq}
use Rattle.store_rows.specs.Rows.{object_form, org_form}
use Rattle.model.specs.declared.record.Record.{Record}
use Rattle.model.specs.Deletes.{cleared, has_id, loses_lookup, without}
use Rattle.model.specs.Membership.{Has}
use Rattle.model.specs.Objects.{Numbered, numbered, object_number, object_numbered, records_of}
use Rattle.model.specs.Sound.{IsSound}
use Rattle.model.specs.Tenant.{Object, Tenant}
use Rattle.store_abstraction.specs.Changes.{IsOf, is_changed}
use Rattle.store_abstraction.specs.Metadata.{org_of, row_of_object}
use Rattle.store_abstraction.specs.Plan.{OrgPlan}
use Rattle.store_abstraction.specs.Stands.{row_in}

-- ---- those that go and those that stay

module _ (go : List ℕ → Bool) (change : Record → Record) (same : (r : Record) → (change r).id ≡ r.id) where
  abbrev going : List Record → List (List ℕ)
  going rs = map (λ r. r.id) (filter (λ r. go r.id) rs)

  abbrev staying : List Record → List Record
  staying rs = map change (filter (λ r. not (go r.id)) rs)

  -- together they are all
  all_counted : (rs : List Record) → length (staying rs) + length (going rs) ≡ length rs
  all_counted [] = refl
  all_counted (r ∷ rs) =
      let rest : length (staying rs) + length (going rs) ≡ length rs = all_counted rs in
      pick (go r.id)
      (λ b. length (map change (cond (not b) (r ∷ filter (λ r. not (go r.id)) rs) (filter (λ r. not (go r.id)) rs)))
      + length (map (λ (r : Record). r.id) (cond b (r ∷ filter (λ r. go r.id) rs) (filter (λ r. go r.id) rs))) ≡ length (r ∷ rs))
      (λ _. omega (arith, rest))
      (λ _. omega (arith, rest))

  -- so are they of those whose ids pass a test
  module _ (is : List ℕ → Bool) where
    abbrev of : List Record → List Record
    of rs = filter (λ r. is r.id) rs

    goes : (b : Bool) (r : Record) (rest : List Record) (ids : List (List ℕ)) (all : List Record) → length rest + length ids ≡ length all
        → length rest + length (cond b (r.id ∷ ids) ids) ≡ length (cond b (r ∷ all) all)
    goes true r rest ids all e = omega (arith, e)
    goes false r rest ids all e = e

    stays : (b : Bool) (r s : Record) (rest : List Record) (ids : List (List ℕ)) (all : List Record) → length rest + length ids ≡ length all
        → length (cond b (s ∷ rest) rest) + length ids ≡ length (cond b (r ∷ all) all)
    stays true r s rest ids all e = omega (arith, e)
    stays false r s rest ids all e = e

    those_counted : (rs : List Record) → length (of (staying rs)) + length (filter is (going rs)) ≡ length (of rs)
    those_counted [] = refl
    those_counted (r ∷ rs) =
        pick (go r.id)
        (λ b. length (of (map change (cond (not b) (r ∷ filter (λ r. not (go r.id)) rs) (filter (λ r. not (go r.id)) rs))))
        + length (filter is (map (λ (r : Record). r.id) (cond b (r ∷ filter (λ r. go r.id) rs) (filter (λ r. go r.id) rs)))) ≡ length (of (r ∷ rs)))
        (λ _. goes (is r.id) r (of (staying rs)) (filter is (going rs)) (of rs) (those_counted rs))
        (λ _. subst (λ (i : List ℕ). length (cond (is i) (change r ∷ of (staying rs)) (of (staying rs))) + length (filter is (going rs)) ≡ length (of (r ∷ rs))) (sym (same r))
        (stays (is r.id) r (change r) (of (staying rs)) (filter is (going rs)) (of rs) (those_counted rs)))

-- ---- the rows that count

module _ (org : ℕ) (q : OrgPlan) (now : ℤ) (t : Tenant) (gone : List Record) where
  abbrev u : Tenant
  u = without now gone t

  abbrev ids : List (List ℕ)
  ids = gone_ids t gone

  same_id : (r : Record) → (cleared now t gone r).id ≡ r.id
  same_id r = pick (loses_lookup t gone r) (λ b. (cleared now t gone r).id ≡ r.id) (λ e. rw e refl) (λ e. rw e refl)

  all_less : length t.records - length ids ≡ length u.records
  all_less =
      let all : length u.records + length ids ≡ length t.records = all_counted (has_id gone) (cleared now t gone) same_id t.records in
      omega (arith, all)

  counted_of : (n : ℕ) → length (records_of u n) + count_among n ids ≡ length (records_of t n)
  counted_of n = those_counted (has_id gone) (cleared now t gone) same_id (λ i. object_number i == n) t.records

  of_less : (n : ℕ) → length (records_of t n) - count_among n ids ≡ length (records_of u n)
  of_less n = let all : length (records_of u n) + count_among n ids ≡ length (records_of t n) = counted_of n in omega (arith, all)

  none_less : (n : ℕ) → count_among n ids ≡ 0 → length (records_of u n) ≡ length (records_of t n)
  none_less n none = let all : length (records_of u n) + count_among n ids ≡ length (records_of t n) = counted_of n in omega (arith, all, none)

  abbrev org_row : ℕ → OrgRow
  org_row n = record (org_of org t) { records = n }

  abbrev object_row : ℕ → Object → ℕ → ObjectRow
  object_row n o count = record (row_of_object org t n o) { records = count }

  module _ (lo : org < 2 ^ 32) (sound : IsSound t) where
    -- that of an object is to what there is then
    object_is : (o : Numbered) → Has (numbered t.objects) o → AllByRecursion (IsOf org q u) (object_less org t ids o)
    unfolding row_in
    object_is o h =
        pick (count_among o.number ids == 0)
        (λ b. AllByRecursion (IsOf org q u) (cond b [] (change_to object_form (object_row o.number o.object (length (records_of t o.number) - count_among o.number ids)) ∷ [])))
        (λ _. tt)
        (λ _.
        let at = there_of 0 t.objects o h in
        let place : at.0 ≡ o.number = omega (arith, at.1) in
        let there : object_numbered t o.number ≡ Some o.object = subst (λ (n : ℕ). object_numbered t n ≡ Some o.object) place at.2 in
        let few : o.number < length t.objects = slice_get_within t.objects o.number o.object there in (
          (
            (lo, omega (arith, few, sound.metadata.few)),
            refl,
            ap (option_map (λ (x : Object). row_bytes object_form (row_of_object org u o.number x))) there
                ∙ ap (λ (n : ℕ). Some (row_bytes object_form (object_row o.number o.object n))) (sym (of_less o.number)),
          ),
          tt,
        ))

    pub counts_are : AllByRecursion (IsOf org q u) (counts_less org t ids)
    unfolding row_in
    counts_are = (
      (lo, refl, ap (λ (n : ℕ). Some (row_bytes org_form (org_row n))) (sym all_less)),
      all_flat (IsOf org q u) (object_less org t ids) (numbered t.objects) object_is,
    )

  -- the row of an object that isn't changed is as it was
  unchanged : (n : ℕ) (o : Object) → object_numbered t n ≡ Some o → is_changed (counts_less org t ids) (key.Object org n) ≡ false → count_among n ids ≡ 0
  unchanged n o there e =
      let one : Numbered = record { number = n; object = o } in
      let own = one_unchanged (object_less org t ids) (key.Object org n) (numbered t.objects) e one (has_there 0 t.objects n n o (omega arith) there) in
      pick (count_among n ids == 0)
      (λ b. (count_among n ids == 0) ≡ b
      → is_changed (cond b [] (change_to object_form (object_row n o (length (records_of t n) - count_among n ids)) ∷ [])) (key.Object org n) ≡ false → count_among n ids ≡ 0)
      (λ _ is _. eqb-true (count_among n ids) 0 is)
      (λ _ _ never. absurd (clash (sym (same_key n) ∙ or_left_false (key_eq (key.Object org n) (key.Object org n)) false never)))
      refl own
    where
      same_key : (n : ℕ) → key_eq (key.Object org n) (key.Object org n) ≡ true
      same_key n = rw (eqb_same org, eqb_same n) refl

  pub object_rest : (n : ℕ) → is_changed (counts_less org t ids) (key.Object org n) ≡ false → row_in q u (key.Object org n) ≡ row_in q t (key.Object org n)
  unfolding row_in
  object_rest n e = by (object_numbered t n) refl
    where
      by : (o : Option Object) → object_numbered t n ≡ o
          → option_map (λ (x : Object). row_bytes object_form (row_of_object org u n x)) o ≡ option_map (λ (x : Object). row_bytes object_form (row_of_object org t n x)) o
      by None at = refl
      by (Some o) at = ap (λ (m : ℕ). Some (row_bytes object_form (object_row n o m))) (none_less n (unchanged n o at e))

  -- the row of the organisation is changed
  pub org_changed : is_changed (counts_less org t ids) (key.Org org) ≡ false → ⊥
  org_changed e =
      clash (sym (eqb_same org) ∙ or_left_false (eqb org org) (is_changed (flat_map (object_less org t ids) (numbered t.objects)) (key.Org org)) e)
