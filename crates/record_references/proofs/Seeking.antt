-- Some row in a field's slot is sought exactly if some record refers to one of the targets by the field.
use Rattle.std.proofs.Common.{◌≡◌, ℕ, ◌+◌, Bool, true, false, not, cond, IsTrue, List, [], ◌∷◌, ◌++◌, add-one, Option, Some, None, refl, sym, ap, subst, ◌∙◌, inl, inr, arith, bytes_eq}
use Rattle.std.specs.Prelude.{◌⊎◌, Result, Ok, Err, map as plain_map, slice_get}
use Rattle.std.specs.FinMap as map
use Rattle.std.specs.List.{list_any}
use Rattle.std.specs.Option.{option_and_then}
use Rattle.std.proofs.lemmas.Slice.Eq.{bytes_eq-Decides}
use Rattle.std.proofs.lemmas.Bool.{and_from as both, or_left, or_right, or_cases as or_either}
use Rattle.base_lemmas.proofs.Options.{some_from_IsSome as some_of}
use Rattle.base_lemmas.proofs.Bools.{and_first as and_left, and_second as and_right, by_answer as pick}
use Rattle.std.proofs.lemmas.Option.{same_Some as some_is}
use Rattle.base_value.specs.Id.{is_id}
use Rattle.base_value.specs.Values.{valid}
use Rattle.base_value.specs.declared.value.FieldType.{FieldType}
use Rattle.base_value.specs.declared.value.FieldType.TheVariants as type
use Rattle.base_value.specs.declared.value.Value.{Value}
use Rattle.base_value.specs.declared.value.Value.TheVariants as value
use Rattle.formula.specs.Meaning.{value_at}
use Rattle.store_kv.specs.declared.keeper.KeptRow.{KeptRow}
use Rattle.store_kv.specs.Prefixes.{raised}
use Rattle.store_kv.specs.Tables.{Has as HasRow, IsListing, Place, Tables, is_between, rows_between}
use Rattle.store_rows.specs.declared.fail.StoreFail.{StoreFail}
use Rattle.store_rows.specs.declared.fail.StoreFail.TheVariants.{Keeper, Memory, Damaged}
use Rattle.store_rows.specs.declared.relation.RelationRow.{RelationRow}
use Rattle.store_rows.specs.Forms.{FitsForm, kept_as}
use Rattle.store_rows.specs.Keys.{FitsKey, Key, Relation, slot_key, spell}
use Rattle.store_rows.specs.Listings.{rows_to}
use Rattle.store_rows.specs.Rows.{relation_form}
use Rattle.model.specs.declared.record.Record.{Record}
use Rattle.model.specs.Cases.{in_case}
use Rattle.model.specs.Fields.{ref_of}
use Rattle.model.specs.Membership.{Has}
use Rattle.model.specs.Objects.{is_of, record_at, records_of}
use Rattle.model.specs.SoundRecords.{all_valid, kinds_of}
use Rattle.model.specs.Tenant.{Field, Object, Tenant}
use Rattle.store_codec.specs.Plain.{number16, number8}
use Rattle.store_codec.specs.Shapes.{Both, Identity}
use Rattle.store_abstraction.specs.declared.layout.FieldPlace.{FieldPlace}
use Rattle.store_abstraction.specs.declared.layout.Layout.{Layout}
use Rattle.store_abstraction.specs.Layouts.{FindsOf}
use Rattle.store_abstraction.specs.Local.{StandsIn, part_of, rows_alone}
use Rattle.store_abstraction.specs.Plan.{OrgPlan}
use Rattle.store_abstraction.proofs.LayoutReads.{ListedIn}
use Rattle.store_abstraction.proofs.MetadataLists.{BeginsSo, PrefixEnds, UnderPrefix}
use Rattle.record_read.proofs.RecordFits.{MakesIds, record_is_id}
use Rattle.record_read.proofs.Rising.{filter_has, found_itself, has_filter}
use Rattle.record_read.proofs.RowFits.{valid_at}
use Rattle.record_read.proofs.Sound.{values_valid}
use Rattle.record_read.proofs.Standing.{Found, IsOf, found_of, layout_is, of_object}
use Rattle.record_read.proofs.Walking.{UnderNumber}
use Rattle.record_references.specs.Referring.{any_referring, is_among, refers_by, refers_to_one}
use Rattle.record_references.specs.inner.Many.{FitsPlace, IsRelation, Scans, is_sought, kept_after, place_bytes}
use Rattle.record_references.proofs.Rows.{its, row_for, row_there}

-- ---- laws, as lower crates say

abbrev pub ListsRows : Type 0
ListsRows = (m : Tables) (table : ℕ) (from below : List ℕ) → IsListing m table from below (rows_between m table from below)

pub record ManyLaws : Type 0 where
  pub begins : BeginsSo
  pub prefix : UnderPrefix
  pub ends : PrefixEnds
  pub lists : ListsRows
  pub makes : MakesIds
  pub under : UnderNumber
  pub listed : ListedIn

-- ---- tests

any_among : (p : Record → Bool) (r : Record) (rs : List Record) → Has rs r → p r ≡ true → list_any p rs ≡ true
any_among p r [] h so = absurd h
any_among p r (x ∷ rs) (inl e) so = or_left (p x) (list_any p rs) (subst (λ (z : Record). p z ≡ true) e so)
any_among p r (x ∷ rs) (inr h) so = or_right (p x) (list_any p rs) (any_among p r rs h so)

among_any : (p : Record → Bool) (rs : List Record) → list_any p rs ≡ true → (r : Record) × Has rs r × (p r ≡ true)
among_any p [] e = absurd cc
among_any p (x ∷ rs) e = by (or_either (p x) (list_any p rs) e) (among_any p rs)
  where
    by : (p x ≡ true) ⊎ (list_any p rs ≡ true) → (list_any p rs ≡ true → (r : Record) × Has rs r × (p r ≡ true)) → (r : Record) × Has (x ∷ rs) r × (p r ≡ true)
    by (inl so) rest = (x, inl refl, so)
    by (inr more) rest = let (r, h, so) = rest more in (r, inr h, so)

-- ---- what a record refers to is an id

ref_valid : (k : FieldType) (id : List ℕ) → valid k (value.Ref id) ≡ true → is_id id ≡ true
ref_valid (type.Lookup object on_delete) id h = h
ref_valid (type.Master object) id h = h
ref_valid k id h = absurd cc

ref_is_id : (k : FieldType) (v : Value) (i : List ℕ) → valid k v ≡ true → ref_of v ≡ Some i → is_id i ≡ true
ref_is_id k (value.Ref id) i h e = ap is_id (sym (some_is id i e)) ∙ ref_valid k id h
ref_is_id k v i h e = absurd cc

names_id : (o : Object) (vs : List Value) (number : ℕ) (g : Field) (i : List ℕ) → all_valid (kinds_of o) vs ≡ true → slice_get o.fields number ≡ Some g → ref_of (value_at vs (number + 1)) ≡ Some i → is_id i ≡ true
names_id o [] number g i h at e = absurd cc
names_id o (v ∷ vs) number g i h at e =
    let same : value_at (v ∷ vs) (number + 1) ≡ value_at vs number = ap (value_at (v ∷ vs)) (add-one number) in
    ref_is_id g.kind (value_at vs number) i
    (valid_at (λ (f : Field). f.kind) o.fields vs number g (and_right (valid (type.Text 80) v) (all_valid (plain_map (λ f. f.kind) o.fields) vs) h) at)
    (ap ref_of (sym same) ∙ e)

-- ---- the rows in a field's slot

module _ (laws : ManyLaws) (m : Tables) (l : Layout) (number : ℕ) (f : FieldPlace) (at : slice_get l.fields number ≡ Some f) (fits : FitsPlace (l.org, (l.object, f.slot))) (targets without : List (List ℕ)) where
  abbrev p : ℕ × (ℕ × ℕ)
  p = (l.org, (l.object, f.slot))

  abbrev kept : List KeptRow
  kept = kept_after m p None

  -- what follows the organisation's number in the keys
  abbrev rest : List ℕ
  rest = number16 l.object ++ number8 f.slot

  module _ (q : OrgPlan) (t : Tenant) (s : StandsIn l.org q m (Some t)) (one : IsOf q t l) (above : List ℕ) (rises : raised (place_bytes p) ≡ Some above) where
    abbrev own : Tables
    own = part_of l.org m

    listing : IsListing own 10 (place_bytes p) above (rows_between own 10 (place_bytes p) above)
    listing = laws.lists own 10 (place_bytes p) above

    kept_is : kept ≡ rows_between own 10 (place_bytes p) above
    kept_is = ap (rows_to m 10 (place_bytes p)) rises ∙ laws.listed m l.org 10 (place_bytes p) above (λ key inside. laws.under l.org rest above key rises inside)

    -- the record whose row it is
    record IsFound (target id bytes : List ℕ) : Type 0 where
      item : Record
      found : Found t l.object id item
      refers : refers_by number target item ≡ true
      empty : bytes ≡ []

    row_is : (target id bytes : List ℕ) → rows_alone l.org q (Some t) (Relation l.org l.object f.slot target id) ≡ Some bytes → IsFound target id bytes
    row_is target id bytes e = by (of_object l.object (record_at t id)) refl (sym (row_there q t l one s.plan number f at target id) ∙ e)
      where
        by : (x : Option Record) → of_object l.object (record_at t id) ≡ x → option_and_then (row_for number target) x ≡ Some bytes → IsFound target id bytes
        by None is e = absurd cc
        by (Some r) is e =
            pick (refers_by number target r) (λ b. refers_by number target r ≡ b → cond {A = Option (List ℕ)} b (Some []) None ≡ Some bytes → IsFound target id bytes)
            (λ _ yes_it_does here. record { item = r; found = found_of t l.object id r (record_at t id) refl is; refers = yes_it_does; empty = sym (some_is [] bytes here) })
            (λ _ _ none. absurd cc)
            refl e

    key_found : (o n slot : ℕ) (target id bytes : List ℕ) → FitsKey (Relation o n slot target id) → is_between (place_bytes p) above (spell (Relation o n slot target id)).1 ≡ true
        → map.get own (spell (Relation o n slot target id)) ≡ Some bytes → IsFound target id bytes
    key_found o n slot target id bytes fit within here =
        let starts = (laws.prefix (Relation o n slot target id) (place_bytes p) above fit rises).0 within in
        let same : (o, (n, slot)) ≡ p = (laws.begins 3 (slot_key (Both Identity Identity)) (o, (n, (slot, (target, id)))) p fit fits).0 starts in
        let alone = sym (s.rows.at (Relation o n slot target id) fit) ∙ here in
        row_is target id bytes (subst (λ (x : ℕ × (ℕ × ℕ)). rows_alone l.org q (Some t) (Relation x.0 x.1.0 x.1.1 target id) ≡ Some bytes) same alone)

    row_found : (u : RelationRow) → FitsForm relation_form u → HasRow kept (kept_as relation_form u) → IsFound u.target u.id []
    row_found u fit has =
        let (within, here) = listing.sound (kept_as relation_form u) (subst (λ (rows : List KeptRow). HasRow rows (kept_as relation_form u)) kept_is has) in
        key_found u.org u.object u.slot u.target u.id [] fit.0 within here

    -- what is kept there are rows
    is_row : (x : KeptRow) → HasRow kept x → IsRelation x
    is_row x has =
        let (within, here) = listing.sound x (subst (λ (rows : List KeptRow). HasRow rows x) kept_is has) in
        let (k, fit, place) = s.rows.only (10, x.key) x.row refl here in
        by k fit place (ap (λ (y : Place). y.0) (sym place)) within here
      where
        by : (k : Key) → FitsKey k → (10, x.key) ≡ spell k → (spell k).0 ≡ 10 → is_between (place_bytes p) above x.key ≡ true → map.get own (10, x.key) ≡ Some x.row → IsRelation x
        by (Relation o n slot target id) fit place table within here =
            let bytes : x.key ≡ (spell (Relation o n slot target id)).1 = ap (λ (y : Place). y.1) place in
            let found = key_found o n slot target id x.row fit (ap (is_between (place_bytes p) above) (sym bytes) ∙ within) (ap (map.get own) (sym place) ∙ here) in
            (record { org = o; object = n; slot = slot; target = target; id = id }, (fit, tt), λ i. record { key = sym bytes i; row = sym found.empty i })
        by k fit place table within here = absurd (omega (arith, table))

    -- the row of a record that refers to a target
    abbrev row_of : (target id : List ℕ) → RelationRow
    row_of target id = record { org = l.org; object = l.object; slot = f.slot; target = target; id = id }

    row_fits : (r : Record) → Has t.records r → (target : List ℕ) → IsTrue (is_id target) → FitsForm relation_form (row_of target r.id)
    row_fits r has target target_is = ((fits.0, (fits.1.0, (fits.1.1, (target_is, record_is_id laws.makes t r s.sound has)))), tt)

    has_row : (r : Record) → Has t.records r → is_of l.object r ≡ true → (target : List ℕ) → IsTrue (is_id target) → refers_by number target r ≡ true → HasRow kept (kept_as relation_form (row_of target r.id))
    has_row r has of target target_is refers =
        let fit = (row_fits r has target target_is).0 in
        let k : Key = Relation l.org l.object f.slot target r.id in
        let within = (laws.prefix k (place_bytes p) above fit rises).1 ((laws.begins 3 (slot_key (Both Identity Identity)) (l.org, (l.object, (f.slot, (target, r.id)))) p fit fits).1 refl) in
        let here : map.get own (spell k) ≡ Some [] =
        s.rows.at k fit ∙ row_there q t l one s.plan number f at target r.id ∙ ap (λ x. option_and_then (row_for number target) (of_object l.object x)) (found_itself t.records r s.sound.records.rise has)
        ∙ ap (λ (b : Bool). option_and_then (row_for number target) (cond b (Some r) None)) of ∙ ap (λ (b : Bool). cond {A = Option (List ℕ)} b (Some []) None) refers in
        subst (λ (rows : List KeptRow). HasRow rows (kept_as relation_form (row_of target r.id))) (sym kept_is) (listing.complete (spell k).1 [] within here)

    -- ---- some row is sought

    any_so : (u : RelationRow) → FitsForm relation_form u → HasRow kept (kept_as relation_form u) → is_sought targets without u ≡ true → any_referring l.object number targets without t ≡ true
    unfolding any_referring
    any_so u fit has so =
        let it = row_found u fit has in
        let r = it.item in
        let stays = ap (λ (i : List ℕ). not (is_among without i)) it.found.same ∙ and_right (is_among targets u.target) (not (is_among without u.id)) so in
        any_among (refers_to_one number targets without) r (records_of t l.object) (filter_has (is_of l.object) t.records r it.found.has it.found.of)
        (both (not (is_among without r.id)) (in_case (ref_of (value_at r.values (number + 1))) false (is_among targets)) stays
        (by (ref_of (value_at r.values (number + 1))) it.refers (and_left (is_among targets u.target) (not (is_among without u.id)) so)))
      where
        by : (x : Option (List ℕ)) → in_case x false (bytes_eq u.target) ≡ true → is_among targets u.target ≡ true → in_case x false (is_among targets) ≡ true
        by None refers among = absurd cc
        by (Some i) refers among = ap (is_among targets) (sym ((bytes_eq-Decides u.target i).0 refers)) ∙ among

    -- ---- no row is sought

    none_so : ((u : RelationRow) → FitsForm relation_form u → HasRow kept (kept_as relation_form u) → is_sought targets without u ≡ false) → any_referring l.object number targets without t ≡ false
    unfolding any_referring
    none_so none = pick (list_any (refers_to_one number targets without) (records_of t l.object)) (λ b. list_any (refers_to_one number targets without) (records_of t l.object) ≡ b → b ≡ false) (λ _ any. absurd (against any)) (λ _ _. refl) refl
      where
        one_against : (r : Record) → Has t.records r → is_of l.object r ≡ true → not (is_among without r.id) ≡ true → (x : Option (List ℕ)) → ref_of (value_at r.values (number + 1)) ≡ x → in_case x false (is_among targets) ≡ true → ⊥
        one_against r has of stays None is among = absurd cc
        one_against r has of stays (Some i) is among =
            let field = its q t l one s.plan number f at i in
            let target_is = names_id one.object r.values number field.0 i (values_valid t l.object one.object r s.sound one.there has of) field.1 is in
            let refers : refers_by number i r ≡ true = ap (λ (x : Option (List ℕ)). in_case x false (bytes_eq i)) is ∙ (bytes_eq-Decides i i).1 refl in
            let passed = none (row_of i r.id) (row_fits r has i target_is) (has_row r has of i target_is refers) in
            differ (sym (both (is_among targets i) (not (is_among without r.id)) among stays) ∙ passed)
          where
            differ : true ≡ false → ⊥
            differ e = cc

        against : list_any (refers_to_one number targets without) (records_of t l.object) ≡ true → ⊥
        against any =
            let (r, among, so) = among_any (refers_to_one number targets without) (records_of t l.object) any in
            let (has, of) = has_filter (is_of l.object) t.records r among in
            one_against r has of (and_left (not (is_among without r.id)) (in_case (ref_of (value_at r.values (number + 1))) false (is_among targets)) so)
            (ref_of (value_at r.values (number + 1))) refl (and_right (not (is_among without r.id)) (in_case (ref_of (value_at r.values (number + 1))) false (is_among targets)) so)

  -- ---- what is found

  ends : (q : OrgPlan) (t : Tenant) → StandsIn l.org q m (Some t) → (above : List ℕ) × (raised (place_bytes p) ≡ Some above)
  ends q t s = some_of (raised (place_bytes p)) (laws.ends l.org rest s.number)

  pub any_finds : (result : Result Bool StoreFail) → Scans kept targets without result → FindsOf l (any_referring l.object number targets without) m result
  any_finds (Ok true) (u, fit, has, so) = λ q t s h. let (above, rises) = ends q t s in sym (any_so q t s (layout_is q t l h) above rises u fit has so)
  any_finds (Ok false) none = λ q t s h. let (above, rises) = ends q t s in sym (none_so q t s (layout_is q t l h) above rises none)
  any_finds (Err Damaged) not_all = λ q t s h. let (above, rises) = ends q t s in not_all (λ x has. is_row q t s (layout_is q t l h) above rises x has)
  any_finds (Err Keeper) scans = tt
  any_finds (Err Memory) scans = tt
