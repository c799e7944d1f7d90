-- What layouts tell of a tenant's objects is what the objects tell.
use Rattle.std.proofs.Common.{◌≡◌, ◌∙◌, ℕ, ◌+◌, Bool, true, false, ◌&&◌, ◌||◌, ◌==◌, cond, List, [], ◌∷◌, ◌++◌, length, map, Option, Some, None, zero, suc, append_assoc, refl, sym, ap, subst}
use Rattle.std.specs.Prelude.{filter, filter_map}
use Rattle.std.specs.List.{enumerate_from, find, flat_map, list_any}
use Rattle.std.specs.Option.{option_map}
use Rattle.std.proofs.lemmas.List.Folds.{list_any-append, flat_map-map as joined_mapped}
use Rattle.base_lemmas.proofs.Lists.{list_any-same as any_same}
use Rattle.base_lemmas.proofs.Bools.{or-false as or_none, by_answer as pick}
use Rattle.model.specs.Cases.{in_case}
use Rattle.model.specs.Fields.{same_name}
use Rattle.model.specs.Metadata.{masters_above}
use Rattle.model.specs.Objects.{Numbered, numbered, object_named}
use Rattle.model.specs.Relationships.{Reference, master_of_object, parent_name, reference_at, references, references_of, relationship_names, target_of}
use Rattle.model.specs.Tenant.{Field, Object, Tenant}
use Rattle.base_value.specs.declared.value.FieldType.{FieldType}
use Rattle.base_value.specs.declared.value.FieldType.TheVariants as type
use Rattle.store_abstraction.specs.Layouts.{layout_of}
use Rattle.store_abstraction.specs.Plan.{OrgPlan}
use Rattle.store_abstraction.specs.declared.layout.FieldPlace.{FieldPlace}
use Rattle.store_abstraction.specs.declared.layout.Layout.{Layout}
use Rattle.schema_edit.specs.Judging.{AreLayouts, layouts_in}
use Rattle.schema_rules.specs.Objects.{field_of_place, numbered_in}
use Rattle.schema_rules.proofs.Objects.{fields_back}
use Rattle.schema_edit.specs.inner.Relations.{gives, has_child, is_master_of, layout_by_name, layout_gives, master_among, master_object, names_among, references_in}
use Rattle.schema_edit.proofs.Lists.{any_joined, any_of_passed, any_of_some, found_mapped, joined_same, or_pairs}

-- ---- objects

abbrev pair : ℕ × Object → Numbered
pair o = record { number = o.0; object = o.1 }

names_from : (org : ℕ) (p : OrgPlan) (t : Tenant) (k : ℕ) (os : List Object)
    → map (λ (l : Layout). l.name) (map (layout_of org p t) (map pair (enumerate_from k os))) ≡ map (λ (o : Object). o.name) os
names_from org p t k [] = refl
names_from org p t k (o ∷ os) = ap (λ (x : List (List ℕ)). o.name ∷ x) (names_from org p t (k + 1) os)

pub names_are : (t : Tenant) (ls : List Layout) → AreLayouts t ls → map (λ (l : Layout). l.name) ls ≡ map (λ (o : Object). o.name) t.objects
names_are t ls (org, p, e) = ap (map (λ (l : Layout). l.name)) e ∙ names_from org p t 0 t.objects

length_from : (org : ℕ) (p : OrgPlan) (t : Tenant) (k : ℕ) (os : List Object)
    → length (map (layout_of org p t) (map pair (enumerate_from k os))) ≡ length os
length_from org p t k [] = refl
length_from org p t k (o ∷ os) = ap suc (length_from org p t (k + 1) os)

pub length_is : (t : Tenant) (ls : List Layout) → AreLayouts t ls → length ls ≡ length t.objects
length_is t ls (org, p, e) = ap length e ∙ length_from org p t 0 t.objects

-- the layout with a name is that of the object with it
pub named_is : (org : ℕ) (p : OrgPlan) (t : Tenant) (ls : List Layout) → ls ≡ layouts_in org p t → (name : List ℕ)
    → layout_by_name ls name ≡ option_map (layout_of org p t) (object_named t name)
unfolding object_named
named_is org p t ls e name =
    ap (λ (l : List Layout). layout_by_name l name) e
    ∙ found_mapped (λ (l : Layout). same_name l.name name) (layout_of org p t) (numbered t.objects)

-- ---- references

references_back : (org : ℕ) (p : OrgPlan) (t : Tenant) (o : Numbered) → references_of (numbered_in (layout_of org p t o)) ≡ references_of o
references_back org p t o =
    ap (λ (fs : List Field). flat_map (reference_at o.number) (enumerate_from 1 fs)) (fields_back p o.number 0 o.object.fields)

pub references_are : (t : Tenant) (ls : List Layout) → AreLayouts t ls → references_in ls ≡ references t.objects
references_are t ls (org, p, e) =
    ap references_in e
    ∙ joined_mapped (λ (l : Layout). references_of (numbered_in l)) (layout_of org p t) (numbered t.objects)
    ∙ joined_same (λ (o : Numbered). references_of (numbered_in (layout_of org p t o))) references_of (references_back org p t) (numbered t.objects)

-- ---- relationships

module _ (n : ℕ) (name : List ℕ) where
  -- a reference gives the object a relationship with the name
  abbrev ref_gives : Reference → Bool
  ref_gives f = ((f.object == n) && same_name name (parent_name f.field.name)) || ((f.target == n) && has_child name f.field.child)

  of_references : (fs : List Reference) → list_any (same_name name) (names_among fs n) ≡ list_any ref_gives fs
  of_references [] = refl
  of_references (f ∷ fs) =
      let q = same_name name in
      let parent = λ (f : Reference). parent_name f.field.name in
      let child = λ (f : Reference). f.field.child in
      let here = λ (f : Reference). f.object == n in
      let there = λ (f : Reference). f.target == n in
      let more : (list_any q (map parent (filter here fs)) || list_any q (filter_map child (filter there fs))) ≡ list_any ref_gives fs =
      sym (list_any-append q (map parent (filter here fs)) (filter_map child (filter there fs))) ∙ of_references fs in
      list_any-append q (map parent (filter here (f ∷ fs))) (filter_map child (filter there (f ∷ fs)))
      ∙ ap (λ (b : Bool). b || list_any q (filter_map child (filter there (f ∷ fs)))) (any_of_passed q parent here f fs)
      ∙ ap (λ (b : Bool). ((here f && q (parent f)) || list_any q (map parent (filter here fs))) || b) (any_of_some q child there f fs)
      ∙ or_pairs (here f && q (parent f)) (there f && has_child name f.field.child) (list_any q (map parent (filter here fs))) (list_any q (filter_map child (filter there fs)))
      ∙ ap (λ (b : Bool). ref_gives f || b) more

  of_field : (object k : ℕ) (f : Field) → list_any ref_gives (reference_at object (k, f)) ≡ gives n name object f
  of_field object k f = by_target (target_of f.kind) refl
    where
      by_target : (o : Option ℕ) → target_of f.kind ≡ o → list_any ref_gives (reference_at object (k, f)) ≡ gives n name object f
      by_target None e = rw e refl
      by_target (Some target) e = rw e (or_none _)

  of_fields : (object k : ℕ) (fs : List FieldPlace)
      → list_any (λ (f : ℕ × Field). list_any ref_gives (reference_at object f)) (enumerate_from k (map field_of_place fs)) ≡ list_any (λ (f : FieldPlace). gives n name object (field_of_place f)) fs
  of_fields object k [] = refl
  of_fields object k (f ∷ fs) =
      ap (λ (b : Bool). b || list_any (λ (f : ℕ × Field). list_any ref_gives (reference_at object f)) (enumerate_from (k + 1) (map field_of_place fs))) (of_field object k (field_of_place f))
      ∙ ap (λ (b : Bool). gives n name object (field_of_place f) || b) (of_fields object (k + 1) fs)

  of_layout : (l : Layout) → list_any ref_gives (references_of (numbered_in l)) ≡ layout_gives n name l
  of_layout l =
      any_joined ref_gives (reference_at l.object) (enumerate_from 1 (map field_of_place l.fields))
      ∙ of_fields l.object 1 l.fields

  pub relationships_are : (t : Tenant) (ls : List Layout) → AreLayouts t ls → list_any (layout_gives n name) ls ≡ list_any (same_name name) (relationship_names t.objects n)
  relationships_are t ls h =
      any_same (layout_gives n name) (λ (l : Layout). list_any ref_gives (references_of (numbered_in l))) (λ l. sym (of_layout l)) ls
      ∙ sym (any_joined ref_gives (λ (l : Layout). references_of (numbered_in l)) ls)
      ∙ sym (of_references (references_in ls))
      ∙ ap (λ (fs : List Reference). list_any (same_name name) (names_among fs n)) (references_are t ls h)

-- ---- masters

module _ (object n : ℕ) where
  abbrev master_in_all : List Reference → Option ℕ
  master_in_all fs = option_map (λ (f : Reference). f.target) (find (is_master_of n) fs)

  abbrev with_kind : FieldPlace → FieldType → FieldPlace
  with_kind f kind = record f { kind = kind }

  abbrev ref_at : ℕ → FieldPlace → FieldType → ℕ → Reference
  ref_at k f kind target = record { object = object; position = k; field = field_of_place (with_kind f kind); target = target }

  -- the masters among the fields, or else these
  abbrev pub or_else : Bool → Option ℕ → Option ℕ → Option ℕ
  or_else here first other = cond here (in_case first other Some) other

  of_kind : (k : ℕ) (f : FieldPlace) (kind : FieldType) (fs : List FieldPlace) (rest : List Reference) (other : Option ℕ)
      → master_in_all rest ≡ or_else (object == n) (master_among fs) other
      → master_in_all (reference_at object (k, field_of_place (with_kind f kind)) ++ rest) ≡ or_else (object == n) (master_among (with_kind f kind ∷ fs)) other
  of_kind k f (type.Text m) fs rest other h = h
  of_kind k f (type.Number d m) fs rest other h = h
  of_kind k f type.Checkbox fs rest other h = h
  of_kind k f type.Day fs rest other h = h
  of_kind k f type.Moment fs rest other h = h
  of_kind k f (type.Picklist vs) fs rest other h = h
  of_kind k f (type.Lookup o d) fs rest other h =
      pick (object == n) (λ b. option_map (λ (f : Reference). f.target) (cond (b && false) (Some (ref_at k f (type.Lookup o d) o)) (find (is_master_of n) rest)) ≡ or_else b (master_among fs) other) (λ e. h ∙ ap (λ (b : Bool). or_else b (master_among fs) other) e) (λ e. h ∙ ap (λ (b : Bool). or_else b (master_among fs) other) e)
  of_kind k f (type.Master o) fs rest other h =
      pick (object == n) (λ b. option_map (λ (f : Reference). f.target) (cond (b && true) (Some (ref_at k f (type.Master o) o)) (find (is_master_of n) rest)) ≡ or_else b (Some o) other) (λ e. refl) (λ e. h ∙ ap (λ (b : Bool). or_else b (master_among fs) other) e)

  of_places : (k : ℕ) (fs : List FieldPlace) (rest : List Reference)
      → master_in_all (flat_map (reference_at object) (enumerate_from k (map field_of_place fs)) ++ rest) ≡ or_else (object == n) (master_among fs) (master_in_all rest)
  of_places k [] rest = pick (object == n) (λ b. master_in_all rest ≡ or_else b None (master_in_all rest)) (λ e. refl) (λ e. refl)
  of_places k (f ∷ fs) rest =
      subst (λ (gs : List Reference). master_in_all gs ≡ or_else (object == n) (master_among (f ∷ fs)) (master_in_all rest))
      (sym (append_assoc (reference_at object (k, field_of_place f)) (flat_map (reference_at object) (enumerate_from (k + 1) (map field_of_place fs))) rest))
      (of_kind k f f.kind fs (flat_map (reference_at object) (enumerate_from (k + 1) (map field_of_place fs)) ++ rest) (master_in_all rest) (of_places (k + 1) fs rest))

-- a layout's masters, or else those of the others
pub master_first : (l : Layout) (ls : List Layout) (n : ℕ) → master_object (l ∷ ls) n ≡ or_else l.object n (l.object == n) (master_among l.fields) (master_object ls n)
master_first l ls n = of_places l.object n 1 l.fields (references_in ls)

pub master_is : (t : Tenant) (ls : List Layout) → AreLayouts t ls → (n : ℕ) → master_object ls n ≡ option_map (λ (f : Reference). f.target) (master_of_object t.objects n)
master_is t ls h n = ap (λ (fs : List Reference). option_map (λ (f : Reference). f.target) (find (is_master_of n) fs)) (references_are t ls h)

-- ---- levels

by_target : (g : ℕ → ℕ) (o : Option Reference) (x : Option ℕ) → option_map (λ (f : Reference). f.target) o ≡ x
    → in_case o 0 (λ f. suc (g f.target)) ≡ in_case x 0 (λ n. suc (g n))
by_target g None x e = subst (λ (y : Option ℕ). 0 ≡ in_case y 0 (λ n. suc (g n))) e refl
by_target g (Some f) x e = subst (λ (y : Option ℕ). suc (g f.target) ≡ in_case y 0 (λ n. suc (g n))) e refl

-- a level, by the object of the masters
level_is : (t : Tenant) (ls : List Layout) → AreLayouts t ls → (most n : ℕ)
    → masters_above (suc most) t.objects n ≡ in_case (master_object ls n) 0 (λ target. suc (masters_above most t.objects target))
level_is t ls h most n = by_target (masters_above most t.objects) (master_of_object t.objects n) (master_object ls n) (sym (master_is t ls h n))

pub level_none : (t : Tenant) (ls : List Layout) → AreLayouts t ls → (most n : ℕ) → master_object ls n ≡ None → 0 ≡ masters_above most t.objects n
level_none t ls h zero n e = refl
level_none t ls h (suc most) n e = sym (level_is t ls h most n ∙ ap (λ (x : Option ℕ). in_case x 0 (λ target. suc (masters_above most t.objects target))) e)

pub level_some : (t : Tenant) (ls : List Layout) → AreLayouts t ls → (most less n target r : ℕ) → most ≡ suc less → master_object ls n ≡ Some target → r ≡ masters_above less t.objects target
    → suc r ≡ masters_above most t.objects n
level_some t ls h most less n target r is e above =
    ap suc above
    ∙ sym (ap (λ (m : ℕ). masters_above m t.objects n) is ∙ level_is t ls h less n ∙ ap (λ (x : Option ℕ). in_case x 0 (λ target. suc (masters_above less t.objects target))) e)
