-- The fields of the object that a layout spells.
use Rattle.std.proofs.Common.{◌≡◌, ℕ, ◌+◌, List, [], ◌∷◌, map, Option, refl, sym, ap, ◌∙◌}
use Rattle.std.specs.List.{enumerate_from, list_any}
use Rattle.base_lemmas.proofs.Lists.{list_any-map as any_map}
use Rattle.model.specs.declared.record.Record.{Record}
use Rattle.model.specs.declared.record_bodies.Assignment.{Assignment}
use Rattle.model.specs.Creates.{empty_record}
use Rattle.model.specs.Edits.{bad_value, required_missing, with_given}
use Rattle.model.specs.Fields.{column_named, is_detail, is_master}
use Rattle.model.specs.Keys.{Key, bad_fields}
use Rattle.model.specs.Upserts.{declared_name, unique_named}
use Rattle.model.specs.Objects.{Numbered}
use Rattle.model.specs.Paths.{Asked}
use Rattle.model.specs.SoundRecords.{kinds_of}
use Rattle.model.specs.Tenant.{Field, Object, Tenant}
use Rattle.store_abstraction.specs.Layouts.{layout_of, place_of}
use Rattle.store_abstraction.specs.Plan.{OrgPlan}
use Rattle.store_abstraction.specs.declared.layout.Layout.{Layout}
use Rattle.schema_rules.specs.Objects.{field_of_place, numbered_in, object_of_layout}

pub detail_is : (l : Layout) → is_detail (object_of_layout l) ≡ list_any (λ f. is_master f.kind) l.fields
detail_is l = any_map (λ f. is_master f.kind) field_of_place l.fields

-- ---- the layout of an object

fields_same : (p : OrgPlan) (n k : ℕ) (fs : List Field) → map field_of_place (map (place_of p n) (enumerate_from k fs)) ≡ fs
fields_same p n k [] = refl
fields_same p n k (f ∷ fs) = ap (λ (gs : List Field). f ∷ gs) (fields_same p n (k + 1) fs)

-- an object with these fields and without its validation rules
abbrev with_fields : Object → List Field → Object
with_fields o fields = record { name = o.name; access = o.access; hierarchy = o.hierarchy; fields = fields; validation_rules = [] }

abbrev plain_object : Object → Object
plain_object o = with_fields o o.fields

object_same : (org : ℕ) (p : OrgPlan) (t : Tenant) (o : Numbered) → object_of_layout (layout_of org p t o) ≡ plain_object o.object
object_same org p t o =
    ap (with_fields o.object) (fields_same p o.number 0 o.object.fields)

plain_fields : (t : Tenant) (o : Object) (key : Option Key) (given : List Assignment) → bad_fields t o key given ≡ bad_fields t (plain_object o) key given
unfolding column_named
plain_fields t o key given = refl

pub fields_alike : (org : ℕ) (p : OrgPlan) (t : Tenant) (o : Numbered) (key : Option Key) (given : List Assignment)
    → bad_fields t o.object key given ≡ bad_fields t (object_of_layout (layout_of org p t o)) key given
fields_alike org p t o key given = plain_fields t o.object key given ∙ ap (λ (x : Object). bad_fields t x key given) (sym (object_same org p t o))

pub unique_alike : (org : ℕ) (p : OrgPlan) (t : Tenant) (o : Numbered) (name : List ℕ)
    → unique_named o.object name ≡ unique_named (object_of_layout (layout_of org p t o)) name
unique_alike org p t o name = ap (λ (x : Object). unique_named x name) (sym (object_same org p t o))

plain_name : (o : Object) (name : List ℕ) → declared_name o name ≡ declared_name (plain_object o) name
unfolding column_named
plain_name o name = refl

pub declared_alike : (org : ℕ) (p : OrgPlan) (t : Tenant) (o : Numbered) (name : List ℕ)
    → declared_name o.object name ≡ declared_name (object_of_layout (layout_of org p t o)) name
declared_alike org p t o name = plain_name o.object name ∙ ap (λ (x : Object). declared_name x name) (sym (object_same org p t o))

pub values_alike : (org : ℕ) (p : OrgPlan) (t : Tenant) (o : Numbered) (given : List Assignment)
    → bad_value t o.object given ≡ bad_value t (object_of_layout (layout_of org p t o)) given
values_alike org p t o given = ap (λ (x : Object). bad_value t x given) (sym (object_same org p t o))

pub record_alike : (org : ℕ) (p : OrgPlan) (a : Asked) (o : Numbered) (given : List Assignment) (old : Record)
    → with_given a o.object given old ≡ with_given a (object_of_layout (layout_of org p a.tenant o)) given old
record_alike org p a o given old = ap (λ (x : Object). with_given a x given old) (sym (object_same org p a.tenant o))

pub required_alike : (org : ℕ) (p : OrgPlan) (t : Tenant) (o : Numbered) (new : Record)
    → required_missing o.object new ≡ required_missing (object_of_layout (layout_of org p t o)) new
required_alike org p t o new = ap (λ (x : Object). required_missing x new) (sym (object_same org p t o))

pub empty_alike : (org : ℕ) (p : OrgPlan) (a : Asked) (o : Numbered) → empty_record a o ≡ empty_record a (numbered_in (layout_of org p a.tenant o))
empty_alike org p a o = ap (λ (x : Object). empty_record a (record { number = o.number; object = x })) (sym (object_same org p a.tenant o))

pub kinds_alike : (org : ℕ) (p : OrgPlan) (t : Tenant) (o : Numbered) → kinds_of o.object ≡ kinds_of (object_of_layout (layout_of org p t o))
kinds_alike org p t o = ap kinds_of (sym (object_same org p t o))
