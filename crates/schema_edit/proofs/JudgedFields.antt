-- Refusals of new fields by what layouts tell.
use Rattle.std.proofs.Common.{◌≡◌, ◌∙◌, ℕ, ◌+◌, Bool, ◌||◌, List, [], ◌∷◌, ◌++◌, length, map, Option, Some, None, suc, refl, sym, ap}
use Rattle.std.specs.Prelude.{Result, Ok, Err}
use Rattle.std.specs.List.{enumerate_from, list_any}
use Rattle.std.proofs.lemmas.List.Folds.{list_any-append}
use Rattle.model.specs.declared.metadata_bodies.NewField.{NewField}
use Rattle.model.specs.declared.metadata_bodies.SpelledType.{SpelledType}
use Rattle.model.specs.declared.metadata_bodies.SpelledType.TheVariants.{Plain, LookupTo}
use Rattle.model.specs.declared.refusal.Refusal.TheVariants.{InvalidType, NameTaken}
use Rattle.model.specs.Cases.{in_case}
use Rattle.model.specs.Fields.{same_name}
use Rattle.model.specs.NewFields.{add_field, child_of, child_taken, field_rules, new_field, on_target, own_child, own_parent, parent_taken, with_field}
use Rattle.model.specs.Objects.{Numbered}
use Rattle.model.specs.Relationships.{parent_name, relationship_names}
use Rattle.model.specs.Rules.{first_refusal, refuse_if}
use Rattle.model.specs.Tenant.{Field, Tenant}
use Rattle.model.specs.Verdict.{Verdict, accept, done, judged}
use Rattle.store_abstraction.specs.Layouts.{place_of}
use Rattle.store_abstraction.specs.Plan.{OrgPlan}
use Rattle.store_abstraction.specs.declared.layout.FieldPlace.{FieldPlace}
use Rattle.store_abstraction.specs.declared.layout.Layout.{Layout}
use Rattle.schema_edit.specs.Judging.{AreLayouts, verdict_refusal}
use Rattle.schema_edit.specs.inner.Fields.{Places}
use Rattle.schema_edit.specs.inner.Relations.{layout_by_name, layout_gives, target_in}
use Rattle.schema_edit.proofs.Judged.{absent, present, rules_refuse}
use Rattle.schema_edit.proofs.Layouts.{relationships_are}

-- ---- the object's fields

names_back : (p : OrgPlan) (n k : ℕ) (fs : List Field) → map (λ (f : FieldPlace). f.name) (map (place_of p n) (enumerate_from k fs)) ≡ map (λ (f : Field). f.name) fs
names_back p n k [] = refl
names_back p n k (f ∷ fs) = ap (λ (x : List (List ℕ)). f.name ∷ x) (names_back p n (k + 1) fs)

pub field_names : (t : Tenant) (o : Numbered) (ls : List Layout) (l : Layout) → Places t o ls l → map (λ (f : FieldPlace). f.name) l.fields ≡ map (λ (f : Field). f.name) o.object.fields
field_names t o ls l h = ap (λ (l : Layout). map (λ (f : FieldPlace). f.name) l.fields) h.one ∙ names_back h.plan o.number 0 o.object.fields

length_back : (p : OrgPlan) (n k : ℕ) (fs : List Field) → length (map (place_of p n) (enumerate_from k fs)) ≡ length fs
length_back p n k [] = refl
length_back p n k (f ∷ fs) = ap suc (length_back p n (k + 1) fs)

pub field_count : (t : Tenant) (o : Numbered) (ls : List Layout) (l : Layout) → Places t o ls l → length l.fields ≡ length o.object.fields
field_count t o ls l h = ap (λ (l : Layout). length l.fields) h.one ∙ length_back h.plan o.number 0 o.object.fields

pub number_is : (t : Tenant) (o : Numbered) (ls : List Layout) (l : Layout) → Places t o ls l → l.object ≡ o.number
number_is t o ls l h = ap (λ (l : Layout). l.object) h.one

pub all_layouts : (t : Tenant) (o : Numbered) (ls : List Layout) (l : Layout) → Places t o ls l → AreLayouts t ls
all_layouts t o ls l h = (h.org, h.plan, h.all)

-- ---- relationships

taken_with : (t : Tenant) (ls : List Layout) → AreLayouts t ls → (n : ℕ) (name : List ℕ) (own : List (List ℕ))
    → list_any (same_name name) (relationship_names t.objects n ++ own) ≡ (list_any (layout_gives n name) ls || list_any (same_name name) own)
taken_with t ls h n name own =
    list_any-append (same_name name) (relationship_names t.objects n) own
    ∙ ap (λ (b : Bool). b || list_any (same_name name) own) (sym (relationships_are n name t ls h))

pub parent_taken_is : (t : Tenant) (ls : List Layout) → AreLayouts t ls → (n target : ℕ) (b : NewField)
    → parent_taken t n b target ≡ refuse_if (list_any (layout_gives n (parent_name b.name)) ls || list_any (same_name (parent_name b.name)) (own_child n target b)) (NameTaken (parent_name b.name))
parent_taken_is t ls h n target b =
    ap (λ (x : Bool). refuse_if x (NameTaken (parent_name b.name))) (taken_with t ls h n (parent_name b.name) (own_child n target b))

pub child_taken_is : (t : Tenant) (ls : List Layout) → AreLayouts t ls → (n target : ℕ) (b : NewField) (child : List ℕ) → child_of b.kind ≡ Some child
    → child_taken t n b target ≡ refuse_if (list_any (layout_gives target child) ls || list_any (same_name child) (own_parent n target b)) (NameTaken child)
child_taken_is t ls h n target b child e =
    rw e (ap (λ (x : Bool). refuse_if x (NameTaken child)) (taken_with t ls h target child (own_parent n target b)))

pub no_child_taken : (t : Tenant) (n target : ℕ) (b : NewField) → child_of b.kind ≡ None → child_taken t n b target ≡ None
no_child_taken t n target b e = rw e refl

-- ---- the verdict

pub no_object : (t : Tenant) (ls : List Layout) → AreLayouts t ls → (b : NewField) → layout_by_name ls b.object ≡ None → verdict_refusal (add_field t b) ≡ Some (InvalidType b.object)
no_object t ls h b e = rw (absent t ls h b.object e) refl

-- the verdict on a field of this object, whose type refers to this one
abbrev pub field_verdict : Tenant → Numbered → NewField → Option ℕ → Verdict
field_verdict t o b target = judged t (field_rules t o target b) (accept done (with_field o.number (new_field target b) t))

-- there is no object with this name
abbrev pub unnamed : List ℕ → Result (Option ℕ) (List ℕ)
unnamed name = Err name

module _ (t : Tenant) (ls : List Layout) (h : AreLayouts t ls) (b : NewField) (o : Numbered) where
  named_err : (x : Option Layout) (object name : List ℕ) → in_case x (unnamed object) (λ (l : Layout). Ok (Some l.object)) ≡ Err name → (x ≡ None) × (object ≡ name)
  named_err None object name e = (refl, cc)
  named_err (Some l) object name e = absurd cc

  unknown_target : (name : List ℕ) (kind : SpelledType) → target_in ls kind ≡ Err name → verdict_refusal (on_target t kind (field_verdict t o b)) ≡ Some (InvalidType name)
  unknown_target name (Plain kind) e = absurd cc
  unknown_target name (LookupTo object on_delete child) e =
      let n = named_err (layout_by_name ls object) object name e in
      rw (absent t ls h object n.0) (ap (λ (x : List ℕ). Some (InvalidType x)) n.1)

  judged_on : (target : Option ℕ) → verdict_refusal (field_verdict t o b target) ≡ first_refusal (field_rules t o target b)
  judged_on target = rules_refuse t (first_refusal (field_rules t o target b)) done (with_field o.number (new_field target b) t)

  named_ok : (x : Option Layout) (object : List ℕ) (target : Option ℕ) → in_case x (unnamed object) (λ (l : Layout). Ok (Some l.object)) ≡ Ok target → (l : Layout) × (x ≡ Some l) × (Some l.object ≡ target)
  named_ok None object target e = absurd cc
  named_ok (Some l) object target e = (l, refl, cc)

  known_target : (target : Option ℕ) (kind : SpelledType) → target_in ls kind ≡ Ok target → verdict_refusal (on_target t kind (field_verdict t o b)) ≡ first_refusal (field_rules t o target b)
  known_target target (Plain kind) e =
      let is : None ≡ target = cc in
      judged_on None ∙ ap (λ (x : Option ℕ). first_refusal (field_rules t o x b)) is
  known_target target (LookupTo object on_delete child) e =
      let (l, some, is) = named_ok (layout_by_name ls object) object target e in
      let f = present t ls h object l some in
      rw f.there
      (judged_on (Some f.numbered.number) ∙ ap (λ (x : Option ℕ). first_refusal (field_rules t o x b)) (ap Some (sym f.number) ∙ is))

pub no_target : (t : Tenant) (ls : List Layout) → (h : AreLayouts t ls) → (b : NewField) (l : Layout) → layout_by_name ls b.object ≡ Some l → (name : List ℕ) → target_in ls b.kind ≡ Err name
    → verdict_refusal (add_field t b) ≡ Some (InvalidType name)
no_target t ls h b l e name bad = let f = present t ls h b.object l e in rw f.there (unknown_target t ls h b f.numbered name b.kind bad)

pub placed : (t : Tenant) (ls : List Layout) (h : AreLayouts t ls) (b : NewField) (l : Layout) → layout_by_name ls b.object ≡ Some l → (target : Option ℕ) → target_in ls b.kind ≡ Ok target
    → (o : Numbered) × Places t o ls l × (verdict_refusal (add_field t b) ≡ first_refusal (field_rules t o target b))
placed t ls h b l e target good =
    let f = present t ls h b.object l e in
    (f.numbered, f.places, rw f.there (known_target t ls h b f.numbered target b.kind good))
