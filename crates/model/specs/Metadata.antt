-- Objects: new ones, and another default access.
-- Source: Salesforce, "Custom Object", "Object Relationships Overview", "Organization-Wide Sharing Defaults". The order in which
-- they are judged is this product's own.
use Rattle.std.specs.Prelude.{ℕ, zero, suc, ◌+◌, true, false, List, [], ◌∷◌, ◌++◌, map, length, codes, Option, None, Some, unwrap_or}
use Rattle.base_value.specs.declared.value.FieldType.TheVariants as type
use Rattle.model.specs.declared.limit.Limit.TheVariants as limit
use Rattle.model.specs.declared.refusal.Refusal.TheVariants.{InvalidType}
use Rattle.model.specs.declared.metadata_bodies.NewMaster.{NewMaster}
use Rattle.model.specs.declared.metadata_bodies.NewObject.{NewObject}
use Rattle.model.specs.declared.metadata_bodies.ObjectChange.{ObjectChange}
use Rattle.model.specs.Cases.{in_case}
use Rattle.model.specs.Fields.{is_detail}
use Rattle.model.specs.Limits.{limit_number}
use Rattle.model.specs.Names.{bad_name, is_child_name, is_custom_name, taken}
use Rattle.model.specs.Objects.{Numbered, object_named, with_object_changed}
use Rattle.model.specs.Relationships.{master_of_object, relationship_names}
use Rattle.model.specs.Rules.{MemberRules, Rule, in_body_order, over_limit, refuse_if}
use Rattle.model.specs.Tenant.{Field, Object, Tenant}
use Rattle.model.specs.Verdict.{Verdict, accept, done, judged, on_object}

-- ---- new objects

-- the masters above an object, at most so many
abbrev pub masters_above : ℕ → List Object → ℕ → ℕ
masters_above zero os n = 0
masters_above (suc most) os n = in_case (master_of_object os n) 0 (λ f. suc (masters_above most os f.target))

-- the detail level of an object: 0 without a master. It is counted one further than it may go
abbrev pub detail_level : List Object → ℕ → ℕ
detail_level os n = masters_above (suc (limit_number limit.DetailLevels)) os n

-- the forms of a new detail's names
abbrev pub master_names : NewMaster → MemberRules
master_names m = (codes "field", bad_name is_custom_name m.field) ∷ (codes "child", bad_name is_child_name m.child) ∷ []

-- the child relationship is taken on the parent; on an unknown one nothing is
abbrev pub child_name_taken : Tenant → NewMaster → Rule
child_name_taken t m = in_case (object_named t m.parent) None (λ o. taken (relationship_names t.objects o.number) m.child)

-- INVALID_TYPE: there is no such parent
abbrev pub no_parent : Tenant → NewMaster → Rule
no_parent t m = in_case (object_named t m.parent) (Some (InvalidType m.parent)) (λ o. None)

-- LIMIT_EXCEEDED: a detail is at most at the third level
abbrev pub too_deep : Tenant → NewMaster → Rule
too_deep t m =
    in_case (object_named t m.parent) None (λ o. over_limit ((limit.DetailLevels, detail_level t.objects o.number + 1) ∷ []))

abbrev pub object_rules : Tenant → NewObject → List Rule
object_rules t b =
    in_body_order b.members ((codes "name", bad_name is_custom_name b.name) ∷ in_case b.master [] master_names)
    ∷ in_body_order b.members
    ((codes "name", taken (map (λ o. o.name) t.objects) b.name) ∷ (codes "child", in_case b.master None (child_name_taken t)) ∷ [])
    ∷ in_case b.master None (no_parent t)
    ∷ over_limit ((limit.Objects, length t.objects + 1) ∷ [])
    ∷ in_case b.master None (too_deep t)
    ∷ []

-- a Master field, which is required
abbrev pub master_field : NewMaster → Numbered → Field
master_field m o =
    record { name = m.field; kind = type.Master o.number; required = true; unique = false; indexed = false; child = Some m.child }

-- the fields of a new object: none, or a detail's Master field
abbrev pub new_fields : Tenant → Option NewMaster → List Field
new_fields t master = in_case master [] (λ m. in_case (object_named t m.parent) [] (λ o. master_field m o ∷ []))

abbrev pub new_object : Tenant → NewObject → Object
new_object t b =
    record { name = b.name; access = b.access; hierarchy = b.hierarchy; fields = new_fields t b.master; validation_rules = [] }

-- a new object, which has the next number
abbrev pub add_object : Tenant → NewObject → Verdict
add_object t b = judged t (object_rules t b) (accept done (record t { objects = t.objects ++ new_object t b ∷ [] }))

-- ---- another default access of an object, or whether the role hierarchy counts; a detail's are its master's

-- the object with what a body says of it
abbrev pub changed_object : ObjectChange → Object → Object
changed_object c o = record o { access = unwrap_or c.access o.access; hierarchy = unwrap_or c.hierarchy o.hierarchy }

abbrev pub set_object : Tenant → (object : List ℕ) → ObjectChange → Verdict
set_object t object c =
    on_object t object (λ o.
    judged t (refuse_if (is_detail o.object) (InvalidType o.object.name) ∷ [])
    (accept done (with_object_changed o.number (changed_object c) t)))
