-- Some record that stays refers to one that goes exactly if something is found by the references to each that goes.
use Rattle.std.proofs.Common.{◌≡◌, ℕ, ◌+◌, true, false, not, List, Option, Some, None, refl, sym, ap, subst, ◌∙◌, bytes_eq}
use Rattle.std.specs.Prelude.{Bool, Result, Ok, Err}
use Rattle.std.specs.List.{filter, flat_map, list_any}
use Rattle.std.proofs.lemmas.Slice.Eq.{bytes_eq-Decides}
use Rattle.base_lemmas.proofs.Bools.{and_first as and_left, and_second as and_right, same_both_ways as same_bool}
use Rattle.std.proofs.lemmas.Bool.{and_from as both}
use Rattle.formula.specs.Meaning.{value_at}
use Rattle.store_kv.specs.Tables.{Tables}
use Rattle.store_rows.specs.declared.fail.StoreFail.{StoreFail}
use Rattle.store_rows.specs.declared.fail.StoreFail.TheVariants.{Keeper, Memory, Damaged}
use Rattle.model.specs.declared.record.Record.{Record}
use Rattle.model.specs.Cases.{in_case}
use Rattle.model.specs.Fields.{ref_of}
use Rattle.model.specs.Membership.{Has}
use Rattle.model.specs.Objects.{records_of}
use Rattle.model.specs.Tenant.{Tenant}
use Rattle.store_abstraction.specs.declared.layout.Layout.{Layout}
use Rattle.store_abstraction.specs.Layouts.{FindsOf}
use Rattle.record_read.proofs.Rising.{filter_has, has_filter}
use Rattle.record_references.specs.Referring.{all_referring, any_referring, refers_by, refers_to_one}
use Rattle.record_cascade.specs.inner.Holding.{is_any, staying}
use Rattle.record_cascade.specs.inner.Masters.{is_among}
use Rattle.record_cascade.proofs.Among.{any_has, among_has, flat_has, has_among, has_any, has_flat, has_id_of, id_of_has, record_ids}
use Rattle.record_cascade.proofs.Holders.{any_from, one_of}

module _ (n k : ℕ) (gone targets these : List (List ℕ)) (same : (i : List ℕ) → is_among targets i ≡ is_among these i) where
  module _ (t : Tenant) where
    abbrev referring : List ℕ → List (List ℕ)
    referring i = all_referring n k i t

    abbrev found : List (List ℕ)
    found = staying gone (flat_map referring these)

    abbrev holds : Record → Bool
    holds = refers_to_one k targets gone

    all_of : (j : List ℕ) → referring j ≡ record_ids (filter (refers_by k j) (records_of t n))
    unfolding all_referring
    all_of j = refl

    -- a record that holds one is found
    is_found : (x : Record) → Has (records_of t n) x → not (is_among gone x.id) ≡ true → (m : Option (List ℕ)) → ref_of (value_at x.values (k + 1)) ≡ m → in_case m false (is_among targets) ≡ true → Has found x.id
    is_found x has stays None is among = absurd cc
    is_found x has stays (Some i) is among =
        let refers : refers_by k i x ≡ true = ap (λ (m : Option (List ℕ)). in_case m false (bytes_eq i)) is ∙ (bytes_eq-Decides i i).1 refl in
        let its = has_id_of (filter (refers_by k i) (records_of t n)) x (filter_has (refers_by k i) (records_of t n) x has refers) in
        let all = has_flat referring these i x.id (among_has these i (sym (same i) ∙ among)) (subst (λ (ids : List (List ℕ)). Has ids x.id) (sym (all_of i)) its) in
        filter_has (λ (j : List ℕ). not (is_among gone j)) (flat_map referring these) x.id all stays

    any_found : list_any holds (records_of t n) ≡ true → is_any found ≡ true
    any_found any =
        let (x, has, so) = any_has holds (records_of t n) any in
        let names = in_case (ref_of (value_at x.values (k + 1))) false (is_among targets) in
        any_from found x.id (is_found x has (and_left (not (is_among gone x.id)) names so) (ref_of (value_at x.values (k + 1))) refl (and_right (not (is_among gone x.id)) names so))

    -- each that is found is of a record that holds one
    found_any : is_any found ≡ true → list_any holds (records_of t n) ≡ true
    found_any any =
        let (i, has) = one_of found any in
        let (all, stays) = has_filter (λ (j : List ℕ). not (is_among gone j)) (flat_map referring these) i has in
        let (j, hj, hi) = flat_has referring these i all in
        let (x, hx, is) = id_of_has (filter (refers_by k j) (records_of t n)) i (subst (λ (ids : List (List ℕ)). Has ids i) (all_of j) hi) in
        let (its, refers) = has_filter (refers_by k j) (records_of t n) x hx in
        has_any holds (records_of t n) x its
        (both (not (is_among gone x.id)) (in_case (ref_of (value_at x.values (k + 1))) false (is_among targets)) (ap (λ (z : List ℕ). not (is_among gone z)) (sym is) ∙ stays)
        (by j (same j ∙ has_among these j hj) (ref_of (value_at x.values (k + 1))) refers))
      where
        by : (j : List ℕ) → is_among targets j ≡ true → (m : Option (List ℕ)) → in_case m false (bytes_eq j) ≡ true → in_case m false (is_among targets) ≡ true
        by j among None refers = absurd cc
        by j among (Some i) refers = ap (is_among targets) (sym ((bytes_eq-Decides j i).0 refers)) ∙ among

    held_same : any_referring n k targets gone t ≡ is_any found
    unfolding any_referring
    held_same = same_bool (list_any holds (records_of t n)) (is_any found) any_found found_any

  pub held_finds : (l : Layout) (m : Tables) (result : Result Bool StoreFail) → FindsOf l (any_referring n k targets gone) m result → FindsOf l (λ t. is_any (staying gone (flat_map (λ id. all_referring n k id t) these))) m result
  held_finds l m (Ok x) finds = λ q t s h. finds q t s h ∙ held_same t
  held_finds l m (Err Damaged) finds = finds
  held_finds l m (Err Keeper) finds = tt
  held_finds l m (Err Memory) finds = tt
