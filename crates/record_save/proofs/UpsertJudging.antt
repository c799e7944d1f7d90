-- What an upsert comes to, by its object, its unique field and the value.
use Rattle.std.proofs.Common.{◌≡◌, ◌∙◌, inl, inr, ℕ, ◌&&◌, List, [], ◌∷◌, ◌++◌, map, Option, None, Some, refl, sym, ap, subst}
use Rattle.std.specs.Prelude.{Result, Err}
use Rattle.std.specs.List.{enumerate_from}
use Rattle.store_edit.specs.Edits.{ChangesIn, Decides, DecidesTo, FailsBy}
use Rattle.store_edit.specs.Naming.{NamesLayout}
use Rattle.store_edit.specs.declared.decided.Decided.{Decided}
use Rattle.record_input.specs.Given.{Finds}
use Rattle.record_input.specs.declared.found.Found.{Found}
use Rattle.store_kv.specs.Tables.{Tables}
use Rattle.model.specs.Cases.{in_case}
use Rattle.model.specs.Fields.{column, custom_columns, of_type, owner_columns, same_name, value_site}
use Rattle.model.specs.Given.{ReadOr}
use Rattle.model.specs.Keys.{with_key}
use Rattle.model.specs.Membership.{Has}
use Rattle.model.specs.Objects.{Numbered, object_numbered}
use Rattle.model.specs.Paths.{Asked}
use Rattle.model.specs.Sound.{IsSound}
use Rattle.model.specs.Tenant.{Field, Object, Tenant}
use Rattle.model.specs.Upserts.{declared_name, key_value, on_value, unique_named, upsert, upsert_by}
use Rattle.model.specs.Verdict.{Verdict, refuse}
use Rattle.model.specs.declared.record_bodies.Assignment.{Assignment}
use Rattle.model.specs.declared.refusal.Refusal.TheVariants.{InvalidField, InvalidType}
use Rattle.record_target.proofs.Objects.{IsOn, Named}
use Rattle.record_constraints.proofs.Searching.{find_has}
use Rattle.record_save.specs.Creating.{IsGiving, IsObject}
use Rattle.access_traits.specs.Rights.{Whose}
use Rattle.schema_rules.specs.Objects.{object_of_layout}
use Rattle.model_invariant.specs.Fit.{IsCaller, OfObjects, ReadsWell, ReadsWellByKey, key_of}
use Rattle.store_abstraction.specs.Layouts.{layout_of}
use Rattle.store_abstraction.specs.Local.{StandsIn}
use Rattle.store_abstraction.specs.Plan.{OrgPlan}
use Rattle.store_abstraction.specs.declared.fail.EditFail.{EditFail}
use Rattle.store_abstraction.specs.declared.fail.EditFail.TheVariants.{Refused, Store}
use Rattle.store_abstraction.specs.declared.layout.Layout.{Layout}
use Rattle.record_save.specs.upsert.Upserting.{PlansEither, ReadsFoundByKey}
use Rattle.record_save.specs.declared.upsert.finding.FoundKey.{FoundKey}
use Rattle.record_save.specs.declared.upsert.upsert.Upsert.{Upsert}
use Rattle.record_save.specs.declared.upsert.upsert.Upserted.{Upserted}
use Rattle.record_save.specs.upsert.inner.Deciding.{DecidesByKey, answered_upsert}
use Rattle.record_save.specs.upsert.Finding.{FindsKey, IsKey, numbered_field, on_key}

-- ---- what other crates say

-- of an object and the one that its layout spells
pub record KeyLaws : Type 0 where
  pub unique : (org : ℕ) (p : OrgPlan) (t : Tenant) (o : Numbered) (name : List ℕ) → unique_named o.object name ≡ unique_named (object_of_layout (layout_of org p t o)) name
  pub declared : (org : ℕ) (p : OrgPlan) (t : Tenant) (o : Numbered) (name : List ℕ) → declared_name o.object name ≡ declared_name (object_of_layout (layout_of org p t o)) name

abbrev pub UpsertSound : Type 0
UpsertSound = (a : Asked) (object key : List ℕ) (text : Option (List ℕ)) (given : List Assignment) → IsCaller a
    → OfObjects a (λ o. ReadsWellByKey a key text o given) → IsSound a.tenant → IsSound (upsert a object key text given).tenant

has_map : {X Y : Type 0} (f : X → Y) (xs : List X) (x : X) → Has xs x → Has (map f xs) (f x)
has_map f [] x has = absurd has
has_map f (y ∷ xs) x (inl same) = inl (ap f same)
has_map f (y ∷ xs) x (inr has) = inr (has_map f xs x has)

has_behind : {X : Type 0} (xs ys : List X) (x : X) → Has ys x → Has (xs ++ ys) x
has_behind [] ys x has = has
has_behind (y ∷ xs) ys x has = inr (has_behind xs ys x has)

-- ---- the verdict

module _ (org : ℕ) (q : OrgPlan) (a : Asked) (name key : List ℕ) (text : Option (List ℕ)) (body : List Assignment) where
  abbrev verdict : Verdict
  verdict = upsert a name key text body

  -- by the object that is found
  abbrev on_found : Option Numbered → Verdict
  on_found x = in_case x (refuse a.tenant (InvalidType name)) (λ o. on_key a.tenant o.object key text (upsert_by a o body))

  -- there is no such object
  pub no_object : (r : Result Layout EditFail) (e : EditFail) → NamesLayout org q a.tenant name r → r ≡ Err e → FailsBy verdict e
  no_object r e h was = by e (subst (NamesLayout org q a.tenant name) was h)
    where
      by : (e : EditFail) → NamesLayout org q a.tenant name (Err e) → FailsBy verdict e
      by (Refused x) h = ap (λ (found : Option Numbered). (on_found found).answer) h.0 ∙ ap Err (sym h.1)
      by (Store f) h = h

  module _ (laws : KeyLaws) (l : Layout) (on : IsOn org q a.tenant name l) where
    abbrev o : Numbered
    o = on.0

    named_is : unique_named o.object key ≡ unique_named (object_of_layout l) key
    named_is = laws.unique org q a.tenant o key ∙ ap (λ (x : Layout). unique_named (object_of_layout x) key) (sym on.2)

    declared_is : declared_name o.object key ≡ declared_name (object_of_layout l) key
    declared_is = laws.declared org q a.tenant o key ∙ ap (λ (x : Layout). declared_name (object_of_layout x) key) (sym on.2)

    -- by the object that the layout spells
    verdict_is : verdict ≡ on_key a.tenant (object_of_layout l) key text (upsert_by a o body)
    verdict_is =
        ap on_found on.1
        ∙ ap (λ (x : Option (ℕ × Field)). in_case x (refuse a.tenant (InvalidField (declared_name o.object key))) (λ f. on_value a.tenant (key_value f.1 text) (upsert_by a o body f))) named_is
        ∙ ap (λ (x : List ℕ). in_case (unique_named (object_of_layout l) key) (refuse a.tenant (InvalidField x)) (λ f. on_value a.tenant (key_value f.1 text) (upsert_by a o body f))) declared_is

    -- there is no such field, or the text gives it no value
    pub no_key : (r : Result FoundKey EditFail) (e : EditFail) → FindsKey l key text r → r ≡ Err e → FailsBy verdict e
    no_key r e h was = subst (λ (z : Verdict). FailsBy z e) (sym verdict_is) (subst (FindsKey l key text) was h a.tenant (upsert_by a o body))

    module _ (k : FoundKey) (is : IsKey l key text k) where
      abbrev its : ℕ × Field
      its = numbered_field k is.field

      comes_to : verdict ≡ upsert_by a o body its k.value
      comes_to =
          verdict_is
          ∙ ap (λ (x : Option (ℕ × Field)). in_case x (refuse a.tenant (InvalidField (declared_name (object_of_layout l) key))) (λ f. on_value a.tenant (key_value f.1 text) (upsert_by a o body f))) is.named
          ∙ ap (λ (x : ReadOr). on_value a.tenant x (upsert_by a o body its)) is.value

      -- the key's field is one that edits may give, so what the body gives it finds nothing else
      key_there : Has (custom_columns o.object) (key_of its k.value).column
      key_there =
          has_map (λ (f : ℕ × Field). column f.1.name (of_type f.1.kind) (value_site f.0)) (enumerate_from 1 o.object.fields) its
          (find_has (λ (f : ℕ × Field). f.1.unique && same_name f.1.name key) (enumerate_from 1 o.object.fields) its (named_is ∙ is.named)).0

      finds_by_key : (found : List Found) → Finds a.tenant o.object None found body → Finds a.tenant o.object (Some (key_of its k.value)) found body
      finds_by_key found finds c (inr has) = finds c has
      finds_by_key found finds c (inl same) =
          finds c (inr (has_behind (owner_columns o.object) (custom_columns o.object) c (subst (Has (custom_columns o.object)) (sym same) key_there)))

      reads_well : object_numbered a.tenant o.number ≡ Some o.object → OfObjects a (λ x. ReadsWellByKey a key text x body) → ReadsWell a o.object (with_key (Some (key_of its k.value)) body)
      reads_well there reads = reads o.number o.object there its k.value (named_is ∙ is.named) is.value

-- ---- judged

module _ {R : Type 0} (laws : KeyLaws) (sound : UpsertSound) (named : Named) (whose : Whose) (org : ℕ) (e : Upsert R) (m after : Tables) (l : Layout) (k : FoundKey) (own : l.org ≡ org) (stays : after ≡ m) where
  abbrev verdict_of : Asked → Verdict
  verdict_of a = upsert a e.object.now e.key.now e.text e.given.now

  pub upserts : ((q : OrgPlan) (t : Tenant) → StandsIn org q m (Some t) → IsOn org q t e.object.now l) → IsKey l e.key.now e.text k
      → (result : Result (Decided Upserted) EditFail) → DecidesByKey l whose e.user e.now e.given.now e.found.now k after result
      → Decides org verdict_of answered_upsert PlansEither (IsGiving whose e.user e.now (ReadsFoundByKey e.object.now e.key.now e.text e.found.now e.given.now)) m result
  upserts names is result decides = record {
    own = subst (λ (n : ℕ). ChangesIn n result) own decides.own;
    decided = λ q a s f.
        let on = names q a.tenant s in
        let there = named a.tenant e.object.now on.0 on.1 in
        let object : IsObject l.org q a.tenant on.0 l = record { there = there; layout = on.2 ∙ ap (λ (n : ℕ). layout_of n q a.tenant on.0) (sym own) } in
        let reads = λ (n : ℕ) (x : Object) (numbered : object_numbered a.tenant n ≡ Some x). (f.reads n x numbered).reads in
        let to = comes_to org q a e.object.now e.key.now e.text e.given.now laws l on k is in
        let stands = subst (λ (n : ℕ). StandsIn n q after (Some a.tenant)) (sym own) (subst (λ (x : Tables). StandsIn org q x (Some a.tenant)) (sym stays) s) in
        subst (λ (n : ℕ). DecidesTo n q a.tenant (verdict_of a) answered_upsert PlansEither result) own
        (subst (λ (v : Verdict). DecidesTo l.org q a.tenant v answered_upsert PlansEither result) (sym to)
        (decides.decided q a on.0 is.field stands object f.asker is.at
        (reads_well org q a e.object.now e.key.now e.text e.given.now laws l on k is there reads)
        (finds_by_key org q a e.object.now e.key.now e.text e.given.now laws l on k is e.found.now ((f.reads on.0.number on.0.object there).finds on.0 on.1 refl))
        (subst (λ (v : Verdict). IsSound v.tenant) to (sound a e.object.now e.key.now e.text e.given.now f.caller reads s.sound))));
  }
