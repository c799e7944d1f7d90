-- Refusals by what layouts tell.
use Rattle.std.proofs.Common.{◌≡◌, ◌∙◌, ℕ, ◌+◌, Bool, ◌||◌, List, [], ◌∷◌, map, Option, Some, None, refl, sym, ap}
use Rattle.std.specs.List.{enumerate_from, list_any}
use Rattle.std.specs.Option.{option_map}
use Rattle.model.specs.declared.limit.Limit.TheVariants as limit
use Rattle.model.specs.declared.metadata_bodies.NewMaster.{NewMaster}
use Rattle.model.specs.declared.refusal.Refusal.{Refusal}
use Rattle.model.specs.declared.refusal.Refusal.TheVariants.{InvalidType, NameTaken}
use Rattle.model.specs.Fields.{is_detail, is_master}
use Rattle.model.specs.Metadata.{child_name_taken, detail_level, no_parent, set_object, too_deep}
use Rattle.model.specs.Objects.{Numbered, object_named}
use Rattle.model.specs.Rules.{Rule, first_refusal, over_limit, refuse_if}
use Rattle.model.specs.Tenant.{Field, Tenant}
use Rattle.model.specs.Verdict.{Done, accept, done, unless}
use Rattle.store_abstraction.specs.Layouts.{layout_of, place_of}
use Rattle.store_abstraction.specs.Plan.{OrgPlan}
use Rattle.store_abstraction.specs.declared.layout.FieldPlace.{FieldPlace}
use Rattle.store_abstraction.specs.declared.layout.Layout.{Layout}
use Rattle.model.specs.declared.metadata_bodies.ObjectChange.{ObjectChange}
use Rattle.schema_edit.specs.Judging.{AreLayouts, IsNamedLayout, verdict_refusal}
use Rattle.schema_edit.specs.inner.Relations.{layout_by_name, layout_gives}
use Rattle.schema_edit.specs.inner.Fields.{Places}
use Rattle.schema_edit.proofs.Layouts.{named_is, relationships_are}

-- what is refused is the first refusal of the rules
pub rules_refuse : (t : Tenant) (rules : Rule) (answer : Done) (after : Tenant) → verdict_refusal (unless rules t (accept answer after)) ≡ rules
rules_refuse t None answer after = refl
rules_refuse t (Some r) answer after = refl

-- ---- what there is with a name

-- an object and its layout
pub record IsFound (org : ℕ) (p : OrgPlan) (t : Tenant) (name : List ℕ) (l : Layout) : Type 0 where
  pub numbered : Numbered
  pub there : object_named t name ≡ Some numbered
  pub same : l ≡ layout_of org p t numbered

pub none_named : (org : ℕ) (p : OrgPlan) (t : Tenant) (name : List ℕ) → option_map (layout_of org p t) (object_named t name) ≡ None → object_named t name ≡ None
none_named org p t name e = by (object_named t name) e
  where
    by : (o : Option Numbered) → option_map (layout_of org p t) o ≡ None → o ≡ None
    by None e = refl
    by (Some o) e = absurd cc

pub one_named : (org : ℕ) (p : OrgPlan) (t : Tenant) (name : List ℕ) (l : Layout) → option_map (layout_of org p t) (object_named t name) ≡ Some l → IsFound org p t name l
one_named org p t name l e = by (object_named t name) refl e
  where
    by : (o : Option Numbered) → object_named t name ≡ o → option_map (layout_of org p t) o ≡ Some l → IsFound org p t name l
    by None there e = absurd cc
    by (Some o) there e = record { numbered = o; there = there; same = cc }

-- ---- a change of an object

masters_back : (p : OrgPlan) (n k : ℕ) (fs : List Field) → list_any (λ (f : FieldPlace). is_master f.kind) (map (place_of p n) (enumerate_from k fs)) ≡ list_any (λ (f : Field). is_master f.kind) fs
masters_back p n k [] = refl
masters_back p n k (f ∷ fs) = ap (λ (b : Bool). is_master f.kind || b) (masters_back p n (k + 1) fs)

pub unknown_object : (t : Tenant) (name : List ℕ) (c : ObjectChange) (layout : Option Layout) → IsNamedLayout t name layout → layout ≡ None
    → verdict_refusal (set_object t name c) ≡ Some (InvalidType name)
unknown_object t name c layout (org, p, e) none = rw (none_named org p t name (sym e ∙ none)) refl

pub known_object : (t : Tenant) (name : List ℕ) (c : ObjectChange) (layout : Option Layout) (l : Layout) → IsNamedLayout t name layout → layout ≡ Some l
    → verdict_refusal (set_object t name c) ≡ refuse_if (list_any (λ (f : FieldPlace). is_master f.kind) l.fields) (InvalidType l.name)
known_object t name c layout l (org, p, e) some =
    let f = one_named org p t name l (sym e ∙ some) in
    let o = f.numbered in
    rw f.there
    (rules_refuse t (first_refusal (refuse_if (is_detail o.object) (InvalidType o.object.name) ∷ [])) done _
    ∙ one_rule (refuse_if (is_detail o.object) (InvalidType o.object.name))
    ∙ ap (λ (b : Bool). refuse_if b (InvalidType o.object.name)) (sym (masters_back p o.number 0 o.object.fields))
    ∙ ap (λ (l : Layout). refuse_if (list_any (λ (f : FieldPlace). is_master f.kind) l.fields) (InvalidType l.name)) (sym f.same))
  where
    one_rule : (r : Rule) → first_refusal (r ∷ []) ≡ r
    one_rule None = refl
    one_rule (Some x) = refl

-- ---- new objects

pub first_some : (r : Rule) (rs : List Rule) (x : Refusal) → r ≡ Some x → first_refusal (r ∷ rs) ≡ Some x
first_some r rs x e = rw e refl

pub first_none : (r : Rule) (rs : List Rule) → r ≡ None → first_refusal (r ∷ rs) ≡ first_refusal rs
first_none r rs e = rw e refl

-- the object with a name, by the layouts
pub absent : (t : Tenant) (ls : List Layout) → AreLayouts t ls → (name : List ℕ) → layout_by_name ls name ≡ None → object_named t name ≡ None
absent t ls (org, p, e) name none = none_named org p t name (sym (named_is org p t ls e name) ∙ none)

-- an object that a layout is of
pub record IsObjectOf (t : Tenant) (ls : List Layout) (name : List ℕ) (l : Layout) : Type 0 where
  pub numbered : Numbered
  pub there : object_named t name ≡ Some numbered
  pub number : l.object ≡ numbered.number
  pub places : Places t numbered ls l

pub present : (t : Tenant) (ls : List Layout) → AreLayouts t ls → (name : List ℕ) (l : Layout) → layout_by_name ls name ≡ Some l → IsObjectOf t ls name l
present t ls (org, p, e) name l some =
    let f = one_named org p t name l (sym (named_is org p t ls e name) ∙ some) in
    record { numbered = f.numbered; there = f.there; number = ap (λ (x : Layout). x.object) f.same; places = record { org = org; plan = p; all = e; one = f.same } }

pub child_free : (t : Tenant) (ls : List Layout) → AreLayouts t ls → (m : NewMaster) → layout_by_name ls m.parent ≡ None → child_name_taken t m ≡ None
child_free t ls h m none = rw (absent t ls h m.parent none) refl

pub child_is_taken : (t : Tenant) (ls : List Layout) → AreLayouts t ls → (m : NewMaster) (l : Layout) → layout_by_name ls m.parent ≡ Some l
    → child_name_taken t m ≡ refuse_if (list_any (layout_gives l.object m.child) ls) (NameTaken m.child)
child_is_taken t ls h m l some =
    let f = present t ls h m.parent l some in
    rw f.there
    (ap (λ (b : Bool). refuse_if b (NameTaken m.child)) (sym (relationships_are f.numbered.number m.child t ls h))
    ∙ ap (λ (n : ℕ). refuse_if (list_any (layout_gives n m.child) ls) (NameTaken m.child)) (sym f.number))

pub parent_absent : (t : Tenant) (ls : List Layout) → AreLayouts t ls → (m : NewMaster) → layout_by_name ls m.parent ≡ None → no_parent t m ≡ Some (InvalidType m.parent)
parent_absent t ls h m none = rw (absent t ls h m.parent none) refl

pub parent_present : (t : Tenant) (ls : List Layout) → AreLayouts t ls → (m : NewMaster) (l : Layout) → layout_by_name ls m.parent ≡ Some l → no_parent t m ≡ None
parent_present t ls h m l some = let f = present t ls h m.parent l some in rw f.there refl

pub no_depth : (t : Tenant) (ls : List Layout) → AreLayouts t ls → (m : NewMaster) → layout_by_name ls m.parent ≡ None → too_deep t m ≡ None
no_depth t ls h m none = rw (absent t ls h m.parent none) refl

pub depth_is : (t : Tenant) (ls : List Layout) → AreLayouts t ls → (m : NewMaster) (l : Layout) → layout_by_name ls m.parent ≡ Some l
    → too_deep t m ≡ over_limit ((limit.DetailLevels, detail_level t.objects l.object + 1) ∷ [])
depth_is t ls h m l some =
    let f = present t ls h m.parent l some in
    rw f.there (ap (λ (n : ℕ). over_limit ((limit.DetailLevels, detail_level t.objects n + 1) ∷ [])) (sym f.number))
