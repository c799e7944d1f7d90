-- The fields of an object are those that its layout shows, with the names of objects that the layouts of all objects show.
use Rattle.std.proofs.Common.{◌≡◌, ◌∙◌, ℕ, zero, suc, ◌+◌, ◌==◌, Bool, true, false, not, ◌||◌, cond, eqb, List, [], ◌∷◌, ◌++◌, map, Option, Some, None, arith, refl, sym, ap, ap₂, Bor, ne_eqb as apart}
use Rattle.std.specs.Prelude.{IfOk, Result, codes, slice_get}
use Rattle.std.specs.declared.alloc.AllocError.{AllocError}
use Rattle.std.specs.List.{enumerate_from, find, list_any}
use Rattle.std.specs.Option.{option_copied}
use Rattle.std.proofs.lemmas.List.{map-append}
use Rattle.base_lemmas.proofs.Lists.{list_any-map}
use Rattle.base_lemmas.proofs.Results.{IfOk-same}
use Rattle.base_lemmas.proofs.Numbers.{eqb-self as eqb_same}
use Rattle.base_json.specs.declared.tree.Json.{Json}
use Rattle.base_json.specs.declared.tree.Json.TheVariants as json
use Rattle.base_json_tree.specs.Words.{list, or_null, text, texts}
use Rattle.model.specs.Cases.{in_case}
use Rattle.model.specs.Fields.{is_detail, is_master}
use Rattle.model.specs.Objects.{Numbered}
use Rattle.model.specs.Relationships.{parent_name, target_of}
use Rattle.model.specs.Tenant.{Field, Object, Tenant}
use Rattle.model_reads.specs.DescribeJson.{Described, characters_of, custom_described, decimals_of, digits_of, field_json, fields_described, is_truth, owner_described, standard, standard_described, type_word, values_of}
use Rattle.model_reads.specs.SettingsJson.{object_name_at}
use Rattle.schema_rules.specs.Objects.{field_of_place, object_of_layout}
use Rattle.schema_rules.proofs.Objects.{fields_back}
use Rattle.store_abstraction.specs.declared.layout.FieldPlace.{FieldPlace}
use Rattle.store_abstraction.specs.declared.layout.Layout.{Layout}
use Rattle.store_abstraction.specs.Layouts.{layout_of, own_layouts, place_of}
use Rattle.store_abstraction.specs.Plan.{OrgPlan}
use Rattle.api_read.specs.inner.DescribedLayouts.{custom_by, field_by, fields_by, later_described, name_in}

-- ---- names of objects

module _ (org : ℕ) (q : OrgPlan) (t : Tenant) where
  abbrev from : ℕ → List Object → List Numbered
  from k os = map (λ (o : ℕ × Object). record { number = o.0; object = o.1 }) (enumerate_from k os)

  abbrev named : Option Layout → List ℕ
  named found = in_case found [] (λ l. l.name)

  in_all : (n k i : ℕ) (os : List Object) → k + i ≡ n → named (find (λ l. l.object == n) (map (layout_of org q t) (from k os))) ≡ in_case (slice_get os i) [] (λ o. o.name)
  in_all n k i [] e = refl
  in_all n k zero (o ∷ os) e =
      let same : k ≡ n = omega (arith, e) in
      let first = layout_of org q t (record { number = k; object = o }) in
      let rest = find (λ (l : Layout). l.object == n) (map (layout_of org q t) (from (k + 1) os)) in
      ap (λ (m : ℕ). named (cond (eqb m n) (Some first) rest)) same
      ∙ ap (λ (b : Bool). named (cond b (Some first) rest)) (eqb_same n)
  in_all n k (suc i) (o ∷ os) e =
      let first = layout_of org q t (record { number = k; object = o }) in
      let rest = find (λ (l : Layout). l.object == n) (map (layout_of org q t) (from (k + 1) os)) in
      ap (λ (b : Bool). named (cond b (Some first) rest)) (apart k n (λ s. omega (arith, s, e)))
      ∙ in_all n (k + 1) i os (omega (arith, e))

  pub names_are : (layouts : List Layout) → layouts ≡ own_layouts org q (Some t) → (n : ℕ) → name_in layouts n ≡ object_name_at t n
  unfolding own_layouts
  names_are layouts is n = ap (λ (ls : List Layout). name_in ls n) is ∙ in_all n 0 n t.objects (omega arith)

-- ---- custom fields

refers_same : (names others : ℕ → List ℕ) → ((n : ℕ) → names n ≡ others n) → (target : Option ℕ) → in_case target [] (λ n. names n ∷ []) ≡ in_case target [] (λ n. others n ∷ [])
refers_same names others same None = refl
refers_same names others same (Some n) = ap (λ (name : List ℕ). name ∷ []) (same n)

custom_same : (names others : ℕ → List ℕ) → ((n : ℕ) → names n ≡ others n) → (f : Field) → custom_by names f ≡ custom_by others f
custom_same names others same f =
    ap
    (λ (refers : List (List ℕ)).
    record {
      name = f.name;
      kind = type_word f.kind;
      characters = characters_of f.kind;
      digits = digits_of f.kind;
      decimals = decimals_of f.kind;
      nillable = not (f.required || (is_master f.kind || is_truth f.kind));
      unique = f.unique;
      custom = true;
      is_name = false;
      createable = true;
      updateable = not (is_master f.kind);
      refers = refers;
      relationship = in_case (target_of f.kind) None (λ n. Some (parent_name f.name));
      values = values_of f.kind;
    })
    (refers_same names others same (target_of f.kind))

customs_same : (t : Tenant) (layouts : List Layout) → ((n : ℕ) → name_in layouts n ≡ object_name_at t n) → (q : OrgPlan) (m k : ℕ) (fs : List Field)
    → map (field_by layouts) (map (place_of q m) (enumerate_from k fs)) ≡ map field_json (map (custom_described t) fs)
customs_same t layouts same q m k [] = refl
customs_same t layouts same q m k (f ∷ fs) =
    ap₂ (λ (x : Json) (xs : List Json). x ∷ xs) (ap field_json (custom_same (name_in layouts) (object_name_at t) same f)) (customs_same t layouts same q m (k + 1) fs)

-- ---- all of them

pub fields_are : (org : ℕ) (q : OrgPlan) (t : Tenant) (layouts : List Layout) (o : Numbered) → layouts ≡ own_layouts org q (Some t)
    → fields_by layouts (layout_of org q t o) ≡ map field_json (fields_described t o.object)
fields_are org q t layouts o is =
    let back = fields_back q o.number 0 o.object.fields in
    let standard = ap (λ (fs : List Field). map field_json (standard_described (record { name = o.object.name; access = o.object.access; hierarchy = o.object.hierarchy; fields = fs; validation_rules = [] }))) back in
    let custom = customs_same t layouts (names_are org q t layouts is) q o.number 0 o.object.fields in
    ap₂ (λ (xs ys : List Json). xs ++ ys) standard custom
    ∙ sym (map-append field_json (standard_described o.object) (map (custom_described t) o.object.fields))

-- ---- standard fields

no_owner : (o : Object) → is_detail o ≡ true → owner_described o ≡ []
no_owner o e = rw e refl

has_owner : (o : Object) → is_detail o ≡ false → owner_described o ≡ standard (codes "OwnerId") (codes "reference") 18 false false true ∷ []
has_owner o e = rw e refl

-- a layout shows whether its object is a detail
detail_of : (l : Layout) (fields : List FieldPlace) (b answer : Bool) → fields ≡ l.fields → b ≡ list_any (λ f. is_master f.kind) fields → b ≡ answer → is_detail (object_of_layout l) ≡ answer
detail_of l fields b answer same is e =
    list_any-map (λ (f : Field). is_master f.kind) field_of_place l.fields
    ∙ ap (list_any (λ (f : FieldPlace). is_master f.kind)) (sym same) ∙ sym is ∙ e

pub owner_none : (l : Layout) (fields : List FieldPlace) (b : Bool) (all : List Json) → fields ≡ l.fields → b ≡ list_any (λ f. is_master f.kind) fields → b ≡ true → all ≡ []
    → all ≡ map field_json (owner_described (object_of_layout l))
owner_none l fields b all same is e none =
    none ∙ sym (ap (map field_json) (no_owner (object_of_layout l) (detail_of l fields b true same is e)))

pub owner_one : (l : Layout) (fields : List FieldPlace) (b : Bool) (all none : List Json) (x : Json) → fields ≡ l.fields → b ≡ list_any (λ f. is_master f.kind) fields → b ≡ false
    → none ≡ [] → x ≡ field_json (standard (codes "OwnerId") (codes "reference") 18 false false true) → all ≡ none ++ x ∷ []
    → all ≡ map field_json (owner_described (object_of_layout l))
owner_one l fields b all none x same is e empty one pushed =
    pushed ∙ ap (λ (xs : List Json). xs ++ x ∷ []) empty ∙ ap (λ (y : Json). y ∷ []) one
    ∙ sym (ap (map field_json) (has_owner (object_of_layout l) (detail_of l fields b false same is e)))

pub standard_are : (o : Object) (id all : List Json) → id ≡ field_json (standard (codes "Id") (codes "id") 18 false false false) ∷ []
    → all ≡ (id ++ map field_json (owner_described o)) ++ map field_json later_described → all ≡ map field_json (standard_described o)
standard_are o id all one is =
    is
    ∙ ap (λ (xs : List Json). (xs ++ map field_json (owner_described o)) ++ map field_json later_described) one
    ∙ ap (λ (xs : List Json). field_json (standard (codes "Id") (codes "id") 18 false false false) ∷ xs) (sym (map-append field_json (owner_described o) later_described))

-- ---- names and references, by what was found

pub name_found : (layouts : List Layout) (n : ℕ) (found : Option (Bor Layout)) (l : Bor Layout) → option_copied found ≡ find (λ l. l.object == n) layouts → found ≡ Some l → l.now.name ≡ name_in layouts n
name_found layouts n found l e is = sym (ap (λ (x : Option Layout). in_case x [] (λ l. l.name)) (sym e ∙ ap option_copied is))

pub name_missing : (layouts : List Layout) (n : ℕ) (found : Option (Bor Layout)) → option_copied found ≡ find (λ l. l.object == n) layouts → found ≡ None → [] ≡ name_in layouts n
name_missing layouts n found e is = sym (ap (λ (x : Option Layout). in_case x [] (λ l. l.name)) (sym e ∙ ap option_copied is))

pub refers_some : (r : Result Json AllocError) (layouts : List Layout) (target : Option ℕ) (n : ℕ) (name : List ℕ) → target ≡ Some n → name ≡ name_in layouts n
    → IfOk r (λ v. v ≡ texts (name ∷ [])) → IfOk r (λ v. v ≡ texts (in_case target [] (λ n. name_in layouts n ∷ [])))
refers_some r layouts target n name is named h =
    IfOk-same r (texts (name ∷ [])) (texts (in_case target [] (λ n. name_in layouts n ∷ [])))
    (ap (λ (x : List ℕ). texts (x ∷ [])) named ∙ sym (ap (λ (t : Option ℕ). texts (in_case t [] (λ n. name_in layouts n ∷ []))) is))
    h

pub refers_none : (layouts : List Layout) (target : Option ℕ) (all : List Json) → target ≡ None → all ≡ [] → list all ≡ texts (in_case target [] (λ n. name_in layouts n ∷ []))
refers_none layouts target all is none =
    ap (λ (xs : List Json). list xs) none ∙ sym (ap (λ (t : Option ℕ). texts (in_case t [] (λ n. name_in layouts n ∷ []))) is)

pub relates_some : (r : Result Json AllocError) (target : Option ℕ) (n : ℕ) (name field : List ℕ) → target ≡ Some n → name ≡ field
    → IfOk r (λ v. v ≡ text (parent_name name)) → IfOk r (λ v. v ≡ or_null text (in_case target None (λ n. Some (parent_name field))))
relates_some r target n name field is named h =
    IfOk-same r (text (parent_name name)) (or_null text (in_case target None (λ n. Some (parent_name field))))
    (ap (λ (x : List ℕ). text (parent_name x)) named ∙ sym (ap (λ (t : Option ℕ). or_null text (in_case t None (λ n. Some (parent_name field)))) is))
    h

pub relates_none : (target : Option ℕ) (field : List ℕ) → target ≡ None → json.Null ≡ or_null text (in_case target None (λ n. Some (parent_name field)))
relates_none target field is = sym (ap (λ (t : Option ℕ). or_null text (in_case t None (λ n. Some (parent_name field)))) is)
