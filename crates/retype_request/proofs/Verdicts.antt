-- The verdict on a change that begins, by the rules on the layout of the field's object.
use Rattle.std.proofs.Common.{◌≡◌, ◌∙◌, ℕ, zero, suc, ◌≤◌, if◌then◌else◌, cond, List, [], ◌∷◌, length, map, Option, None, Some, refl, sym, ap, subst, arith}
use Rattle.std.specs.Prelude.{Err, IsErrAnd, Ok, Result, slice_get}
use Rattle.std.specs.List.{find}
use Rattle.std.specs.Option.{option_and_then, option_map}
use Rattle.std.proofs.lemmas.List.{length-map}
use Rattle.std.proofs.lemmas.Option.{same_Some as some_is}
use Rattle.store_edit.specs.Edits.{FailsBy}
use Rattle.store_edit.specs.Naming.{NamesLayout}
use Rattle.store_kv.specs.Tables.{Tables}
use Rattle.model.specs.Cases.{in_case}
use Rattle.model.specs.declared.refusal.Refusal.{Refusal}
use Rattle.model.specs.declared.refusal.Refusal.TheVariants.{InvalidField, InvalidType, RetypeUnsupported}
use Rattle.model.specs.Fields.{Column, column_named, columns, same_name}
use Rattle.model.specs.Objects.{Numbered, object_named, object_numbered}
use Rattle.model.specs.Retyping.{begin_on, can_become, custom_place, in_use, new_job, place_to_change, under_way, with_job}
use Rattle.model.specs.Rules.{Rule, first_refusal}
use Rattle.model.specs.Sound.{IsSound}
use Rattle.model.specs.Tenant.{Field, Object, Tenant}
use Rattle.model.specs.Verdict.{Verdict, accept, done, refuse, unless}
use Rattle.schema_edit.proofs.Editing.{named_at}
use Rattle.retype_request.specs.declared.columns.NamedField.{NamedField}
use Rattle.retype_request.specs.declared.judging.Chosen.{Chosen}
use Rattle.retype_request.specs.inner.Beginning.{Begins, BeginsBy, IsPlace, begin_by, column_rule, field_rule, named_in, place_in}
use Rattle.retype_request.specs.inner.Columns.{named_by}
use Rattle.store_edit.specs.Judging.{FailsRule}
use Rattle.retype_request.specs.inner.Rules.{use_rule}
use Rattle.retype_request.proofs.Uses.{use_is}
use Rattle.schema_rules.proofs.Objects.{fields_back}
use Rattle.schema_rules.specs.Objects.{field_of_place, object_of_layout}
use Rattle.store_abstraction.specs.declared.fail.EditFail.{EditFail}
use Rattle.store_abstraction.specs.declared.fail.EditFail.TheVariants.{Refused, Store}
use Rattle.store_abstraction.specs.declared.layout.FieldPlace.{FieldPlace}
use Rattle.store_abstraction.specs.declared.layout.Layout.{Layout}
use Rattle.store_abstraction.specs.Layouts.{IsLayout, layout_of, own_layout}
use Rattle.store_abstraction.specs.Local.{StandsIn}
use Rattle.store_abstraction.specs.Plan.{OrgPlan}
use Rattle.store_abstraction.proofs.MetadataRows.{sound_object}
use Rattle.base_value.specs.declared.value.FieldType.{FieldType}

-- ---- one rule after the other

module _ (t : Tenant) (n : ℕ) (to : FieldType) (name : List ℕ) where
  abbrev begun : ℕ → Verdict
  begun place = accept done (with_job (new_job n place to) t)

  abbrev begins : Rule → Option ℕ → (ℕ → Rule) → Verdict
  begins idle place used =
      unless (first_refusal (idle ∷ [])) t (in_case place (refuse t (RetypeUnsupported name)) (λ place. unless (first_refusal (used place ∷ [])) t (begun place)))

  abbrev rules : Rule → Option ℕ → (ℕ → Rule) → Rule
  rules idle place used = first_refusal (idle ∷ in_case place (Some (RetypeUnsupported name)) used ∷ [])

  refused_so : (idle : Rule) (place : Option ℕ) (used : ℕ → Rule) (r : Refusal) → rules idle place used ≡ Some r → (begins idle place used).answer ≡ Err r
  refused_so (Some x) place used r e = ap Err (some_is x r e)
  refused_so None None used r e = ap Err (some_is (RetypeUnsupported name) r e)
  refused_so None (Some place) used r e = by (used place) e
    where
      by : (x : Rule) → first_refusal (x ∷ []) ≡ Some r → (unless (first_refusal (x ∷ [])) t (begun place)).answer ≡ Err r
      by None e = absurd cc
      by (Some x) e = ap Err (some_is x r e)

  accepted_so : (idle : Rule) (place : Option ℕ) (used : ℕ → Rule) (i : ℕ) → rules idle place used ≡ None → place ≡ Some i → (idle ≡ None) × (begins idle place used ≡ begun i)
  accepted_so (Some x) place used i e is = absurd cc
  accepted_so None None used i e is = absurd cc
  accepted_so None (Some place) used i e is = (refl, by (used place) e ∙ ap begun (some_is place i is))
    where
      by : (x : Rule) → first_refusal (x ∷ []) ≡ None → unless (first_refusal (x ∷ [])) t (begun place) ≡ begun place
      by None e = refl
      by (Some x) e = absurd cc

-- ---- fields of a layout

column_same : (o p : Object) (name : List ℕ) → o.fields ≡ p.fields → column_named o name ≡ column_named p name
unfolding column_named
column_same o p name e = ap (λ (fs : List Field). find (λ c. same_name c.name name) (columns (record o { fields = fs }))) e

got : (fields : List FieldPlace) (i : ℕ) → slice_get (map field_of_place fields) i ≡ option_map field_of_place (slice_get fields i)
got [] zero = refl
got [] (suc i) = refl
got (f ∷ fields) zero = refl
got (f ∷ fields) (suc i) = got fields i

place_same : (fields : List FieldPlace) (o : Object) (to : FieldType) (custom : Option ℕ) → map field_of_place fields ≡ o.fields
    → place_in fields to custom ≡ option_and_then (λ place. option_and_then (λ (f : Field). if can_become to f then Some place else None) (slice_get o.fields place)) custom
place_same fields o to None e = refl
place_same fields o to (Some place) e =
    by (slice_get fields place)
    ∙ ap (option_and_then (λ (f : Field). cond (can_become to f) (Some place) None)) (sym (got fields place) ∙ ap (λ (fs : List Field). slice_get fs place) e)
  where
    by : (f : Option FieldPlace) → option_and_then (λ (f : FieldPlace). cond (can_become to (field_of_place f)) (Some place) None) f ≡ option_and_then (λ (f : Field). cond (can_become to f) (Some place) None) (option_map field_of_place f)
    by None = refl
    by (Some f) = refl

in_turn : (place : Option ℕ) (x : Rule) (f g : ℕ → Rule) → ((i : ℕ) → f i ≡ g i) → in_case place x f ≡ in_case place x g
in_turn None x f g same = refl
in_turn (Some i) x f g same = same i

-- ---- an object and its layout

pub its_layout : (org : ℕ) (q : OrgPlan) (t : Tenant) (o : Numbered) → object_numbered t o.number ≡ Some o.object → IsLayout q t (layout_of org q t o)
unfolding own_layout
its_layout org q t o there = ap (λ (x : Option Object). option_map (layout_of org q t) (option_map (λ (y : Object). as_numbered o.number y) x)) there
  where
    as_numbered : ℕ → Object → Numbered
    as_numbered n y = record { number = n; object = y }

pub few_fields : (org : ℕ) (q : OrgPlan) (t : Tenant) (name : List ℕ) (o : Numbered) → IsSound t → object_named t name ≡ Some o → length (layout_of org q t o).fields ≤ 40
few_fields org q t name o s there =
    let few = (sound_object t o.number o.object s (named_at t name o there)).few_fields in
    let l = layout_of org q t o in
    omega (arith, few, length-map l.fields field_of_place, ap length (fields_back q o.number 0 o.object.fields))

module _ (org : ℕ) (q : OrgPlan) (t : Tenant) (object field : List ℕ) (o : Numbered) (there : object_named t object ≡ Some o) (to : FieldType) where
  abbrev l : Layout
  l = layout_of org q t o

  back : map field_of_place l.fields ≡ o.object.fields
  back = fields_back q o.number 0 o.object.fields

  place_is : (c : Column) → place_in l.fields to (named_by c).custom ≡ place_to_change o.object to c.at
  place_is c = place_same l.fields o.object to (custom_place c.at) back

  rule_is : (c : Column) → column_rule l t to (named_by c) ≡ rules t o.number to c.name (under_way t) (place_to_change o.object to c.at) (λ place. in_use t o place c.name)
  rule_is c =
      ap (λ (x : Rule). first_refusal (under_way t ∷ x ∷ []))
      (ap (λ (p : Option ℕ). in_case p (Some (RetypeUnsupported c.name)) (λ place. use_rule l t place c.name)) (place_is c)
      ∙ in_turn (place_to_change o.object to c.at) (Some (RetypeUnsupported c.name)) (λ place. use_rule l t place c.name) (λ place. in_use t o place c.name)
      (λ place. use_is org q t o place c.name (named_at t object o there)))

  begin_is : begin_by t object field to ≡ in_case (column_named o.object field) (refuse t (InvalidField field)) (λ c. begin_on t o to c.name c.at)
  begin_is = rw there refl

  named_is : named_in l field ≡ option_map named_by (column_named o.object field)
  named_is = ap (option_map named_by) (column_same (object_of_layout l) o.object field back)

  abbrev by_column : Option NamedField → Rule
  by_column f = in_case f (Some (InvalidField field)) (column_rule l t to)

  pub rules_fail : (e : EditFail) → FailsRule (field_rule l t to field) e → FailsBy (begin_by t object field to) e
  rules_fail (Store s) h = h
  rules_fail (Refused r) h = ap (λ (v : Verdict). v.answer) begin_is ∙ by (column_named o.object field) (ap by_column (sym named_is) ∙ h)
    where
      by : (c : Option Column) → by_column (option_map named_by c) ≡ Some r → (in_case c (refuse t (InvalidField field)) (λ c. begin_on t o to c.name c.at)).answer ≡ Err r
      by None e = ap Err (some_is (InvalidField field) r e)
      by (Some c) e = refused_so t o.number to c.name (under_way t) (place_to_change o.object to c.at) (λ place. in_use t o place c.name) r (sym (rule_is c) ∙ e)

  pub rules_pass : (place : ℕ) → field_rule l t to field ≡ None → IsPlace l to field place → (under_way t ≡ None) × (begin_by t object field to ≡ accept done (with_job (new_job o.number place to) t))
  rules_pass place free (f, named, is) =
      let both = by (column_named o.object field) (ap by_column (sym named_is) ∙ free) (sym named_is ∙ named) in
      (both.0, begin_is ∙ both.1)
    where
      by : (c : Option Column) → by_column (option_map named_by c) ≡ None → option_map named_by c ≡ Some f
          → (under_way t ≡ None) × (in_case c (refuse t (InvalidField field)) (λ c. begin_on t o to c.name c.at) ≡ accept done (with_job (new_job o.number place to) t))
      by None e same = absurd cc
      by (Some c) e same =
          let its : named_by c ≡ f = some_is (named_by c) f same in
          accepted_so t o.number to c.name (under_way t) (place_to_change o.object to c.at) (λ place. in_use t o place c.name) place (sym (rule_is c) ∙ e)
          (sym (place_is c) ∙ ap (λ (f : NamedField). place_in l.fields to f.custom) its ∙ is)

-- a failure is passed on
pub begins_not : (org : ℕ) (q : OrgPlan) (t : Tenant) (object field : List ℕ) (to : FieldType) (e : EditFail) (r : Result Chosen EditFail) → IsErrAnd r (λ y. y ≡ e) → FailsBy (begin_by t object field to) e → BeginsBy org q t object field to r
begins_not org q t object field to e (Ok x) passed h = absurd passed
begins_not org q t object field to e (Err y) passed h = subst (FailsBy (begin_by t object field to)) (sym passed) h

-- ---- what was chosen, by the layout that was read

names_not : (org : ℕ) (q : OrgPlan) (t : Tenant) (object field : List ℕ) (to : FieldType) (e : EditFail) → NamesLayout org q t object (Err e) → FailsBy (begin_by t object field to) e
names_not org q t object field to (Refused r) h = ap (λ (o : Option Numbered). (in_case o (refuse t (InvalidType object)) (λ o. in_case (column_named o.object field) (refuse t (InvalidField field)) (λ c. begin_on t o to c.name c.at))).answer) h.0 ∙ ap Err (sym h.1)
names_not org q t object field to (Store s) h = h

pub unnamed : (org : ℕ) (q : OrgPlan) (t : Tenant) (object field : List ℕ) (to : FieldType) (r : Result Layout EditFail) (e : EditFail) → NamesLayout org q t object r → r ≡ Err e → FailsBy (begin_by t object field to) e
unnamed org q t object field to r e h was = names_not org q t object field to e (subst (NamesLayout org q t object) was h)

pub record Named (org : ℕ) (q : OrgPlan) (m : Tables) (t : Tenant) (object : List ℕ) (l : Layout) : Type 0 where
  pub numbered : Numbered
  pub there : object_named t object ≡ Some numbered
  pub is : l ≡ layout_of org q t numbered
  pub stands : StandsIn l.org q m (Some t)
  pub layout : IsLayout q t l
  pub few : length l.fields ≤ 40

pub named_so : (org : ℕ) (q : OrgPlan) (m : Tables) (t : Tenant) (object : List ℕ) (r : Result Layout EditFail) (l : Layout) → NamesLayout org q t object r → r ≡ Ok l → StandsIn org q m (Some t) → Named org q m t object l
named_so org q m t object r l h was s =
    let (o, there, is) = subst (NamesLayout org q t object) was h in
    record {
      numbered = o;
      there = there;
      is = is;
      stands = subst (λ (k : Layout). StandsIn k.org q m (Some t)) (sym is) s;
      layout = subst (IsLayout q t) (sym is) (its_layout org q t o (named_at t object o there));
      few = subst (λ (k : Layout). length k.fields ≤ 40) (sym is) (few_fields org q t object o s.sound there);
    }

module _ (org : ℕ) (q : OrgPlan) (m : Tables) (t : Tenant) (object field : List ℕ) (to : FieldType) (l : Layout) (named : Named org q m t object l) where
  pub chosen_not : (e : EditFail) → FailsRule (field_rule l t to field) e → FailsBy (begin_by t object field to) e
  chosen_not e h = rules_fail org q t object field named.numbered named.there to e (subst (λ (k : Layout). FailsRule (field_rule k t to field) e) named.is h)

  pub chosen_so : (place : ℕ) → field_rule l t to field ≡ None → IsPlace l to field place → Begins org q t object field to (record { layout = l; field = place })
  chosen_so place free its =
      let both = rules_pass org q t object field named.numbered named.there to place (subst (λ (k : Layout). field_rule k t to field ≡ None) named.is free) (subst (λ (k : Layout). IsPlace k to field place) named.is its) in
      record { numbered = named.numbered; there = named.there; layout = named.is; idle = both.0; accepted = both.1 }
