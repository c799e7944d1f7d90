-- Of branches, one after another, the records.
use Rattle.std.proofs.Common.{◌≡◌, ℕ, suc, ◌+◌, ◌<◌, ◌≤◌, true, false, List, [], ◌∷◌, ◌++◌, length, drop, get_or, Option, Some, None, refl, sym, ap, subst, ◌∙◌, arith, add-one, drop-cons}
use Rattle.std.specs.Prelude.{Result, Ok, Err}
use Rattle.std.specs.Option.{option_and_then}
use Rattle.std.proofs.lemmas.List.{length-map, drop_all as none_left}
use Rattle.base_lemmas.proofs.Bools.{and_second as and_right}
use Rattle.query_plan.specs.Given.{GivesJust}
use Rattle.record_read.proofs.Lists.{of_each}
use Rattle.record_read.proofs.Standing.{found_of}
use Rattle.formula.specs.Meaning.{value_at}
use Rattle.store_kv.specs.Tables.{Tables}
use Rattle.store_rows.specs.Fails.{of_codec}
use Rattle.store_rows.specs.declared.fail.StoreFail.{StoreFail}
use Rattle.store_rows.specs.declared.fail.StoreFail.TheVariants.{Damaged, Keeper, Memory}
use Rattle.model.specs.declared.record.Record.{Record}
use Rattle.model.specs.Known.{known}
use Rattle.model.specs.Membership.{Has}
use Rattle.model.specs.Objects.{object_number, object_numbered, record_at}
use Rattle.model.specs.Paths.{Asked, if_readable}
use Rattle.model.specs.Rights.{record_of_object}
use Rattle.model.specs.Sound.{IsSound}
use Rattle.model.specs.SoundRecords.{IsSoundRecord, all_valid, kinds_of}
use Rattle.model.specs.Tenant.{Field, Tenant}
use Rattle.store_codec.specs.declared.fail.CodecFail.{CodecFail}
use Rattle.store_codec.specs.declared.fail.CodecFail.TheVariants as codec
use Rattle.access_traits.specs.Rights.{Whose}
use Rattle.store_abstraction.specs.declared.layout.Layout.{Layout}
use Rattle.store_abstraction.specs.Layouts.{IsLayout, own_layouts}
use Rattle.store_abstraction.specs.Local.{StandsIn}
use Rattle.store_abstraction.specs.Plan.{OrgPlan}
use Rattle.store_abstraction.proofs.MetadataRows.{sound_object}
use Rattle.store_abstraction.proofs.Placed.{no_records}
use Rattle.base_value.specs.Values.{ref_of, valid}
use Rattle.base_value.specs.declared.value.FieldType.{FieldType}
use Rattle.base_value.specs.declared.value.Value.{Value}
use Rattle.query_plan.specs.declared.paths.branches.Branch.{Branch}
use Rattle.query_plan.specs.paths.Branches.{branch_record, branch_records, record_above}
use Rattle.query_plan.specs.paths.Ways.{record_to}
use Rattle.query_related.specs.parents.Branches.{FindsOfRow}
use Rattle.query_related.specs.parents.Parents.{FindsReadable}
use Rattle.query_related.specs.parents.inner.Branching.{id_above}

-- ---- what a sound tenant's records are

as_many : (ks : List FieldType) (vs : List Value) → all_valid ks vs ≡ true → length vs ≡ length ks
as_many [] [] e = refl
as_many [] (v ∷ vs) e = absurd cc
as_many (k ∷ ks) [] e = absurd cc
as_many (k ∷ ks) (v ∷ vs) e = ap suc (as_many ks vs (and_right (valid k v) (all_valid ks vs) e))

few_values : (t : Tenant) → IsSound t → (r : Record) → Has t.records r → length r.values ≤ 256
few_values t sound r has =
    let it = of_each (IsSoundRecord (known t) t.objects) t.records r sound.records.each has in
    let few : length it.object.fields ≤ 40 = (sound_object t (object_number r.id) it.object sound it.there).few_fields in
    let many : length r.values ≡ suc (length it.object.fields) = as_many (kinds_of it.object) r.values it.values ∙ ap suc (length-map it.object.fields (λ (f : Field). f.kind)) in
    omega (arith, few, many)

-- of no object there is no record
no_record : (t : Tenant) → IsSound t → (n : ℕ) → object_numbered t n ≡ None → (id : List ℕ) → record_of_object t n id ≡ None
no_record t sound n gone id = by (record_of_object t n id) refl
  where
    clash : true ≡ false → ⊥
    clash e = cc

    by : (x : Option Record) → record_of_object t n id ≡ x → x ≡ None
    by None e = refl
    by (Some r) e = let it = found_of t n id r (record_at t id) refl e in absurd (clash (sym it.of ∙ no_records t n sound gone r it.has))

-- ---- one branch

module _ (before : List (Option Record)) (b : Branch) where
  leads : (a : Asked) (r : Record) (id : Option (List ℕ)) → id ≡ id_above r before b
      → option_and_then (if_readable a) (option_and_then (record_of_object a.tenant b.step.target) id) ≡ branch_record a r before b
  leads a r id e = by (record_above r before b.above) e
    where
      by : (p : Option Record) → id ≡ option_and_then (λ (p : Record). ref_of (value_at p.values b.step.position)) p
          → option_and_then (if_readable a) (option_and_then (record_of_object a.tenant b.step.target) id) ≡ option_and_then (λ (p : Record). option_and_then (if_readable a) (record_to a.tenant b.step p)) p
      by None e = ap (λ (i : Option (List ℕ)). option_and_then (if_readable a) (option_and_then (record_of_object a.tenant b.step.target) i)) e
      by (Some p) e = ap (λ (i : Option (List ℕ)). option_and_then (if_readable a) (option_and_then (record_of_object a.tenant b.step.target) i)) e

module _ (layouts : List Layout) (whose : Whose) (item : Option Record) (m : Tables) (before : List (Option Record)) (b : Branch) where
  abbrev Found : Result (Option Record) StoreFail → Type 0
  Found = FindsOfRow layouts whose item (λ a r. branch_record a r before b) m

  -- what is known of the id to which it leads
  abbrev pub IsId : Result (Option (List ℕ)) CodecFail → Type 0
  IsId x = (r : Record) → item ≡ Some r → length r.values ≤ 256 → GivesJust (id_above r before b) x

  pub by_layout : (id : List ℕ) → IsId (Ok (Some id)) → (l : Layout)
      → ((org : ℕ) (q : OrgPlan) (t : Tenant) → layouts ≡ own_layouts org q (Some t) → (l.org ≡ org) × (l.object ≡ b.step.target) × IsLayout q t l)
      → (x : Result (Option Record) StoreFail) → FindsReadable l whose (λ t. record_of_object t l.object id) m x → Found x
  by_layout id is l own (Ok y) h = λ org q a r s all who has its.
      let it = own org q a.tenant all in
      h q a.tenant a.user (subst (λ (n : ℕ). StandsIn n q m (Some a.tenant)) (sym it.0) s) it.2 who
      ∙ ap (λ (n : ℕ). option_and_then (if_readable a) (record_of_object a.tenant n id)) it.1
      ∙ leads before b a r (Some id) (is r its (few_values a.tenant s.sound r has))
  by_layout id is l own (Err Damaged) h = λ org q a r s all who has its.
      let it = own org q a.tenant all in
      h q a.tenant a.user (subst (λ (n : ℕ). StandsIn n q m (Some a.tenant)) (sym it.0) s) it.2 who
  by_layout id is l own (Err Keeper) h = tt
  by_layout id is l own (Err Memory) h = tt

  -- there is no such object
  pub by_none : (id : List ℕ) → IsId (Ok (Some id)) → ((org : ℕ) (q : OrgPlan) (t : Tenant) → layouts ≡ own_layouts org q (Some t) → object_numbered t b.step.target ≡ None) → Found (Ok None)
  by_none id is gone = λ org q a r s all who has its.
      ap (option_and_then (if_readable a)) (sym (no_record a.tenant s.sound b.step.target (gone org q a.tenant all) id))
      ∙ leads before b a r (Some id) (is r its (few_values a.tenant s.sound r has))

  -- it leads nowhere
  pub by_nothing : IsId (Ok None) → Found (Ok None)
  by_nothing is = λ org q a r s all who has its. leads before b a r None (is r its (few_values a.tenant s.sound r has))

  pub by_failure : (fail : CodecFail) → IsId (Err fail) → (e : StoreFail) → e ≡ of_codec fail → Found (Err e)
  by_failure fail is e from = subst (λ (x : StoreFail). Found (Err x)) (sym from) (by fail is)
    where
      by : (fail : CodecFail) → IsId (Err fail) → Found (Err (of_codec fail))
      by codec.Damaged is = λ org q a r s all who has its. is r its (few_values a.tenant s.sound r has)
      by codec.Memory is = tt

-- ---- one after another

module _ (a : Asked) (r : Record) (branches : List Branch) where
  pub all_done : (i : ℕ) → length branches ≤ i → (records : List (Option Record)) → branch_records a r records (drop i branches) ≡ branch_records a r [] branches
      → records ≡ branch_records a r [] branches
  all_done i h records so = ap (branch_records a r records) (sym (none_left i branches h)) ∙ so

  -- after one more, behind those that were seen
  pub one_done : (i : ℕ) (none : Branch) → i < length branches → (records : List (Option Record)) → branch_records a r records (drop i branches) ≡ branch_records a r [] branches
      → (seen : List (Option Record)) → seen ≡ records → (found : Option Record) → found ≡ branch_record a r seen (get_or branches i none)
      → (after : List (Option Record)) → after ≡ records ++ found ∷ []
      → branch_records a r after (drop (i + 1) branches) ≡ branch_records a r [] branches
  one_done i none h records so seen same found is after are =
      let b = get_or branches i none in
      let next : drop i branches ≡ b ∷ drop (i + 1) branches = rw (add-one, drop-cons branches i none) refl in
      let here : found ≡ branch_record a r records b = is ∙ ap (λ (xs : List (Option Record)). branch_record a r xs b) same in
      ap (λ (xs : List (Option Record)). branch_records a r xs (drop (i + 1) branches)) are
      ∙ ap (λ (o : Option Record). branch_records a r (records ++ o ∷ []) (drop (i + 1) branches)) here
      ∙ sym (ap (branch_records a r records) next)
      ∙ so
