-- The ids in a page of the rows of references are those of the records that refer to the target, from an id on.
use Rattle.std.proofs.Common.{◌≡◌, ℕ, IsTrue, List, [], ◌∷◌, ◌++◌, map, take, Option, Some, refl, sym, ap, subst, ◌∙◌, inl, inr}
use Rattle.std.specs.Prelude.{IfSome, Result, Ok, Err, Vec, slice_get}
use Rattle.std.specs.Option.{option_map}
use Rattle.std.proofs.lemmas.List.{take-map}
use Rattle.base_lemmas.proofs.Options.{some_from_IsSome as some_of}
use Rattle.base_value.specs.Causes.{GivesOr}
use Rattle.base_value.specs.Id.{is_id}
use Rattle.store_kv.specs.declared.keeper.KeptRow.{KeptRow}
use Rattle.store_kv.specs.Prefixes.{raised}
use Rattle.store_kv.specs.Tables.{Tables, rows_between}
use Rattle.store_rows.specs.declared.fail.StoreFail.{StoreFail}
use Rattle.store_rows.specs.declared.fail.StoreFail.TheVariants.{Keeper, Memory, Damaged}
use Rattle.store_rows.specs.declared.relation.RelationRow.{RelationRow}
use Rattle.store_rows.specs.Listings.{rows_to, start_of}
use Rattle.store_rows.specs.Reads.{ListsAs}
use Rattle.store_rows.specs.Rows.{relation_form}
use Rattle.model.specs.declared.record.Record.{Record}
use Rattle.model.specs.Membership.{Has}
use Rattle.model.specs.Tenant.{Tenant}
use Rattle.store_codec.specs.Plain.{number16, number8}
use Rattle.store_abstraction.specs.declared.layout.FieldPlace.{FieldPlace}
use Rattle.store_abstraction.specs.declared.layout.Layout.{Layout}
use Rattle.store_abstraction.specs.Layouts.{FindsOf, IsLayout}
use Rattle.store_abstraction.specs.Local.{StandsIn, part_of, rows_alone}
use Rattle.store_abstraction.specs.Plan.{OrgPlan}
use Rattle.store_abstraction.proofs.LayoutReads.{ListedIn}
use Rattle.store_abstraction.proofs.MetadataLists.{PrefixEnds}
use Rattle.store_abstraction.proofs.Pages.{GivesRows, PageLaws, page_gives}
use Rattle.record_read.proofs.Ended.{IsMadeOf}
use Rattle.record_read.proofs.Listed.{KeyLaws}
use Rattle.record_read.proofs.RecordFits.{MakesIds, record_is_id}
use Rattle.record_read.proofs.Standing.{layout_is}
use Rattle.record_read.proofs.Walking.{UnderNumber}
use Rattle.record_references.specs.Referring.{referring_after}
use Rattle.record_references.specs.inner.Rows.{FitsFront, Front, front_bytes, ids_from, ids_in, key_at}
use Rattle.record_references.proofs.Listed.{begins_so, row_of, rows_listed, those}

pub record ReferLaws : Type 0 where
  pub keys : KeyLaws
  pub pages : PageLaws relation_form
  pub makes : MakesIds
  pub ends : PrefixEnds
  pub under : UnderNumber
  pub listed : ListedIn

ids_of_rows : (p : Front) (rs : List Record) → ids_in (map (row_of p) rs) ≡ map (λ r. r.id) rs
ids_of_rows p [] = refl
ids_of_rows p (r ∷ rs) = ap (λ (ids : List (List ℕ)). r.id ∷ ids) (ids_of_rows p rs)

after_is : (n number : ℕ) (target : List ℕ) (after : Option (List ℕ)) (limit : ℕ) (t : Tenant) → referring_after n number target after limit t ≡ map (λ r. r.id) (take limit (those t n number target after))
unfolding referring_after
after_is n number target after limit t = refl

-- what is made of what was read isn't the keeper's failure
pub ids_are_made : {A : Type 0} (rows : Result (Vec RelationRow A) StoreFail) → IsMadeOf rows (ids_from rows)
ids_are_made (Ok rows) = λ e. absurd cc
ids_are_made (Err e) = tt

module _ {A : Type 0} (laws : ReferLaws) (m : Tables) (l : Layout) (number : ℕ) (f : FieldPlace) (at : slice_get l.fields number ≡ Some f) (target : List ℕ) (fits : FitsFront (l.org, (l.object, (f.slot, target))))
    (after : Option (List ℕ)) (ha : IfSome after (λ j. IsTrue (is_id j))) (limit : ℕ) (rows : Result (Vec RelationRow A) StoreFail)
    (e : ListsAs relation_form (take limit (rows_to m 10 (start_of (front_bytes (l.org, (l.object, (f.slot, target)))) (option_map (key_at (l.org, (l.object, (f.slot, target)))) after)) (raised (front_bytes (l.org, (l.object, (f.slot, target))))))) rows) where
  abbrev p : Front
  p = (l.org, (l.object, (f.slot, target)))

  -- what follows the organisation's number in the keys
  abbrev rest : List ℕ
  rest = number16 l.object ++ (number8 f.slot ++ target)

  abbrev from : List ℕ
  from = start_of (front_bytes p) (option_map (key_at p) after)

  abbrev Given : Tenant → Result (Vec RelationRow A) StoreFail → Type 0
  Given t r = GivesRows (map (row_of p) (take limit (those t l.object number target after))) r

  given : (q : OrgPlan) (t : Tenant) → StandsIn l.org q m (Some t) → IsLayout q t l → Given t rows
  given q t s h =
      let ids : (r : Record) → Has t.records r → IsTrue (is_id r.id) = λ r has. record_is_id laws.makes t r s.sound has in
      let (above, rises) = some_of (raised (front_bytes p)) (laws.ends l.org rest s.number) in
      let all = those t l.object number target after in
      let lists = rows_listed laws.keys q t l (layout_is q t l h) s.sound s.plan ids number f at target fits above rises after ha in
      let part : rows_between m 10 from above ≡ rows_between (part_of l.org m) 10 from above =
      laws.listed m l.org 10 from above (λ key inside. laws.under l.org rest above key rises (begins_so laws.keys p fits above rises after key ha inside)) in
      let found = subst (λ (o : Option (List ℕ)). ListsAs relation_form (take limit (rows_to m 10 from o)) rows) rises e in
      let page = subst (λ (kept : List KeptRow). ListsAs relation_form (take limit kept) rows) part found in
      subst (λ (us : List RelationRow). GivesRows us rows) (take-map (row_of p) limit all) (page_gives relation_form laws.pages (part_of l.org m) (rows_alone l.org q (Some t)) s.rows from (Some above) (map (row_of p) all) limit lists rows page)

  ids_given : (t : Tenant) (v : Vec RelationRow A) → Given t (Ok v) → ids_in v.items ≡ referring_after l.object number target after limit t
  ids_given t v is =
      ap ids_in is ∙ ids_of_rows p (take limit (those t l.object number target after)) ∙ sym (after_is l.object number target after limit t)

  ok_is : (x y : List (List ℕ)) → ◌≡◌ {A = Result (List (List ℕ)) StoreFail} (Ok x) (Ok y) → x ≡ y
  ok_is x y h = cc

  found_ok : (t : Tenant) (x : List (List ℕ)) (r : Result (Vec RelationRow A) StoreFail) → Given t r → ids_from r ≡ Ok x → x ≡ referring_after l.object number target after limit t
  found_ok t x (Ok v) g h = sym (ok_is (ids_in v.items) x h) ∙ ids_given t v g
  found_ok t x (Err fail) g h = absurd cc

  found_damaged : (t : Tenant) (r : Result (Vec RelationRow A) StoreFail) → Given t r → ids_from r ≡ Err Damaged → ⊥
  found_damaged t (Ok v) g h = absurd cc
  found_damaged t (Err Damaged) g h = g
  found_damaged t (Err Keeper) g h = absurd cc
  found_damaged t (Err Memory) g h = absurd cc

  pub ids_find : (result : Result (List (List ℕ)) StoreFail) → GivesOr Memory (ids_from rows) result → FindsOf l (referring_after l.object number target after limit) m result
  ids_find (Ok x) g = λ q t s h. found_ok t x rows (given q t s h) g
  ids_find (Err Keeper) g = tt
  ids_find (Err Memory) g = tt
  ids_find (Err Damaged) (inl e) = absurd cc
  ids_find (Err Damaged) (inr g) = λ q t s h. found_damaged t rows (given q t s h) g
