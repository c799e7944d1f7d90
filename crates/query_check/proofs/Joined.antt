-- The fields of a tenant's object are those of its layout.
use Rattle.std.proofs.Common.{◌≡◌, ℕ, ◌+◌, Bool, true, false, ◌||◌, cond, List, [], ◌∷◌, ◌++◌, map, Option, Some, None, refl, sym, ap, ◌∙◌}
use Rattle.std.specs.Prelude.{codes}
use Rattle.std.specs.List.{enumerate_from, find, list_any}
use Rattle.std.specs.Option.{option_map}
use Rattle.std.specs.Str.{chars}
use Rattle.std.proofs.lemmas.Option.{same_Some as some_is}
use Rattle.model.specs.Fields as model
use Rattle.model.specs.Fields.{column_named, custom_columns, is_detail, is_master, name_column, of_ids, of_type, owner_column, its_id, its_created, its_modified, same_name, value_site}
use Rattle.model.specs.Objects.{Numbered, object_numbered}
use Rattle.model.specs.Tenant.{Field, Object, Tenant}
use Rattle.base_value.specs.declared.value.FieldType.TheVariants as type
use Rattle.store_abstraction.specs.Layouts.{IsLayout, layout_of, own_layout, place_of}
use Rattle.store_abstraction.specs.Plan.{OrgPlan}
use Rattle.store_abstraction.specs.declared.layout.Layout.{Layout}
use Rattle.query_plan.specs.declared.check.Site.TheVariants as site
use Rattle.query_check.specs.declared.columns.Column.{Column}
use Rattle.query_check.specs.declared.columns.Family.TheVariants as family
use Rattle.query_check.specs.Columns.{column, column_in, custom_in, family_of_type, placed, value_place}

-- ---- the object of a layout

abbrev pub layout_at : Layout → OrgPlan → Tenant → Object → Layout
layout_at l q t o = layout_of l.org q t (record { number = l.object; object = o })

abbrev numbered_as : Layout → Object → Numbered
numbered_as l o = record { number = l.object; object = o }

pub object_there : (q : OrgPlan) (t : Tenant) (l : Layout) → IsLayout q t l → (o : Object) × (object_numbered t l.object ≡ Some o) × (layout_at l q t o ≡ l)
unfolding own_layout
object_there q t l e = by (object_numbered t l.object) refl e
  where
    by : (x : Option Object) → object_numbered t l.object ≡ x → option_map (layout_of l.org q t) (option_map (numbered_as l) x) ≡ Some l → (o : Object) × (object_numbered t l.object ≡ Some o) × (layout_at l q t o ≡ l)
    by None is e = absurd cc
    by (Some o) is e = (o, is, some_is (layout_at l q t o) l e)

-- ---- names that every object has

pub id_text : chars (codes "Id") ≡ codes "Id"
unfolding chars
id_text = refl

pub created_text : chars (codes "CreatedDate") ≡ codes "CreatedDate"
unfolding chars
created_text = refl

pub modified_text : chars (codes "LastModifiedDate") ≡ codes "LastModifiedDate"
unfolding chars
modified_text = refl

pub name_text : chars (codes "Name") ≡ codes "Name"
unfolding chars
name_text = refl

pub owner_text : chars (codes "OwnerId") ≡ codes "OwnerId"
unfolding chars
owner_text = refl

-- ---- fields

detail_same : (q : OrgPlan) (n k : ℕ) (fs : List Field) → list_any (λ f. is_master f.kind) (map (place_of q n) (enumerate_from k fs)) ≡ list_any (λ f. is_master f.kind) fs
detail_same q n k [] = refl
detail_same q n k (f ∷ fs) = ap (λ b. is_master f.kind || b) (detail_same q n (k + 1) fs)

-- one field, and those behind it
step : (b : Bool) (m : model.Column) (rest : Option model.Column) (c : Column) (other : Option Column) → placed m ≡ c → option_map placed rest ≡ other
    → option_map placed (cond b (Some m) rest) ≡ cond b (Some c) other
step true m rest c other e f = ap Some e
step false m rest c other e f = f

abbrev pub custom : ℕ × Field → model.Column
custom f = model.column f.1.name (of_type f.1.kind) (value_site f.0)

custom_same : (q : OrgPlan) (n k j : ℕ) (fs : List Field) (name : List ℕ)
    → option_map placed (find (λ c. same_name c.name name) (map custom (enumerate_from (k + 1) fs))) ≡ custom_in k (map (place_of q n) (enumerate_from j fs)) name
unfolding custom_in
custom_same q n k j [] name = refl
custom_same q n k j (f ∷ fs) name =
    step (same_name f.name name) (custom (k + 1, f)) (find (λ c. same_name c.name name) (map custom (enumerate_from ((k + 1) + 1) fs)))
    (column (family_of_type f.kind) (value_place (k + 1))) (custom_in (k + 1) (map (place_of q n) (enumerate_from (j + 1) fs)) name)
    refl (custom_same q n (k + 1) (j + 1) fs name)

-- the owner, if there is one, and the custom fields
tail_same : (detail : Bool) (name : List ℕ) (customs : List model.Column) (other : Option Column) → option_map placed (find (λ c. same_name c.name name) customs) ≡ other
    → option_map placed (find (λ c. same_name c.name name) (cond detail [] (owner_column ∷ []) ++ customs))
    ≡ cond detail other (cond (same_name (codes "OwnerId") name) (Some (column family.Ids site.Owner)) other)
tail_same true name customs other e = e
tail_same false name customs other e =
    step (same_name (codes "OwnerId") name) owner_column (find (λ c. same_name c.name name) customs) (column family.Ids site.Owner) other refl e

-- the names of the fields that every object has, in their order
abbrev by_names : (i c m n o : List ℕ) → Bool → Option Column → List ℕ → Option Column
by_names i c m n o detail customs name =
    cond (same_name i name) (Some (column family.Ids site.Id))
    (cond (same_name c name) (Some (column family.Moment site.Created))
    (cond (same_name m name) (Some (column family.Moment site.Modified))
    (cond (same_name n name) (Some (column family.Text (site.Value 0)))
    (cond detail customs (cond (same_name o name) (Some (column family.Ids site.Owner)) customs)))))

texts_same : (detail : Bool) (customs : Option Column) (name : List ℕ)
    → by_names (codes "Id") (codes "CreatedDate") (codes "LastModifiedDate") (codes "Name") (codes "OwnerId") detail customs name
    ≡ by_names (chars (codes "Id")) (chars (codes "CreatedDate")) (chars (codes "LastModifiedDate")) (chars (codes "Name")) (chars (codes "OwnerId")) detail customs name
unfolding chars
texts_same detail customs name = refl

named_same : (o : Object) (name : List ℕ) (other : Option Column) → option_map placed (find (λ c. same_name c.name name) (custom_columns o)) ≡ other
    → option_map placed (column_named o name)
    ≡ by_names (codes "Id") (codes "CreatedDate") (codes "LastModifiedDate") (codes "Name") (codes "OwnerId") (is_detail o) other name
unfolding column_named
named_same o name other e =
    let rest = find (λ (c : model.Column). same_name c.name name) in
    let owners = cond (is_detail o) [] (owner_column ∷ []) ++ custom_columns o in
    let created = model.column (codes "CreatedDate") (of_type type.Moment) its_created in
    let modified = model.column (codes "LastModifiedDate") (of_type type.Moment) its_modified in
    step (same_name (codes "Id") name) (model.column (codes "Id") of_ids its_id) (rest (created ∷ modified ∷ name_column ∷ owners)) (column family.Ids site.Id) _ refl
    (step (same_name (codes "CreatedDate") name) created (rest (modified ∷ name_column ∷ owners)) (column family.Moment site.Created) _ refl
    (step (same_name (codes "LastModifiedDate") name) modified (rest (name_column ∷ owners)) (column family.Moment site.Modified) _ refl
    (step (same_name (codes "Name") name) name_column (rest owners) (column family.Text (site.Value 0)) _ refl
    (tail_same (is_detail o) name (custom_columns o) other e))))

pub column_same : (q : OrgPlan) (t : Tenant) (l : Layout) (o : Object) (name : List ℕ) → option_map placed (column_named o name) ≡ column_in (layout_at l q t o) name
unfolding column_in
column_same q t l o name =
    let customs = custom_in 0 (map (place_of q l.object) (enumerate_from 0 o.fields)) name in
    named_same o name customs (custom_same q l.object 0 0 o.fields name)
    ∙ ap (λ (d : Bool). by_names (codes "Id") (codes "CreatedDate") (codes "LastModifiedDate") (codes "Name") (codes "OwnerId") d customs name) (sym (detail_same q l.object 0 o.fields))
    ∙ texts_same (list_any (λ f. is_master f.kind) (map (place_of q l.object) (enumerate_from 0 o.fields))) customs name

-- the same by the layout itself
pub column_is : (q : OrgPlan) (t : Tenant) (l : Layout) (o : Object) (name : List ℕ) → layout_at l q t o ≡ l → option_map placed (column_named o name) ≡ column_in l name
column_is q t l o name e = column_same q t l o name ∙ ap (λ (x : Layout). column_in x name) e
