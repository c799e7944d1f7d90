-- The names that layouts say are those that the objects declare.
use Rattle.std.proofs.Common.{◌≡◌, ◌∙◌, ℕ, ◌+◌, Bool, true, false, ◌||◌, ◌⊎◌, cond, List, [], ◌∷◌, ◌++◌, map, filter_map, Option, Some, None, refl, sym, ap, codes, inl, inr}
use Rattle.std.specs.List.{enumerate_from, find, list_all, list_any}
use Rattle.std.specs.Option.{option_and_then, option_map}
use Rattle.std.specs.Str.{chars}
use Rattle.base_lemmas.proofs.Bools.{and_first as and_left, and_second as and_right}
use Rattle.base_value.specs.declared.value.FieldType.TheVariants as type
use Rattle.soql.specs.declared.query.Item.{Item}
use Rattle.soql.specs.declared.query.Item.TheVariants as item
use Rattle.soql.specs.declared.query.Path.{Path}
use Rattle.soql.specs.declared.query.Query.{Query}
use Rattle.model.specs.Cases.{in_case}
use Rattle.model.specs.Fields.{Column, column, column_named, custom_columns, is_detail, is_master, its_created, its_id, its_modified, name_column, of_ids, of_type, owner_column, same_name, value_site}
use Rattle.model.specs.Objects.{Numbered, object_named, object_numbered}
use Rattle.model.specs.Relationships.{Reference, parent_name, parent_named}
use Rattle.model.specs.Tenant.{Field, Object, Tenant}
use Rattle.store_abstraction.specs.Layouts.{IsLayout, layout_of, numbered_at, own_layout, own_layouts, place_of}
use Rattle.store_abstraction.specs.Plan.{OrgPlan}
use Rattle.store_abstraction.specs.declared.layout.Layout.{Layout}
use Rattle.model.specs.Flat.{has_one_name, is_flat, is_flat_item}
use Rattle.query_plan.specs.paths.Ways.{parent_step}
use Rattle.query_plan.specs.declared.paths.parents.ParentStep.{ParentStep}
use Rattle.query_plan.proofs.ByLayout.{numbered_layout, parent_by_layout}
use Rattle.query_check.specs.Columns as rules
use Rattle.query_check.specs.Reaching.{Reaches}
use Rattle.query_check.specs.Ways.{layout_at}
use Rattle.query_check.proofs.Flatness.{parts_of}
use Rattle.query_bind.specs.Cells.{paths_in}
use Rattle.query_bind.specs.Names.{relationship_name}
use Rattle.query_bind.proofs.Declared as bound
use Rattle.query_csv.specs.Lines.{declared_in, declared_parent, declared_path, parent_object, path_from, selected_names}
use Rattle.query_csv.specs.inner.Names.{custom_name, declared_name, item_by, layout_behind, path_by}

-- the name of a column that was found, or this one
abbrev named_or : (name : List ℕ) → Option Column → List ℕ
named_or name found = in_case found name (λ c. c.name)

step : (b : Bool) (c : Column) (rest : Option Column) (name other : List ℕ) → named_or name rest ≡ other → named_or name (cond b (Some c) rest) ≡ cond b c.name other
step true c rest name other e = refl
step false c rest name other e = e

detail_same : (q : OrgPlan) (n k : ℕ) (fs : List Field) → list_any (λ f. is_master f.kind) (map (place_of q n) (enumerate_from k fs)) ≡ list_any (λ f. is_master f.kind) fs
detail_same q n k [] = refl
detail_same q n k (f ∷ fs) = ap (λ b. is_master f.kind || b) (detail_same q n (k + 1) fs)

abbrev custom : ℕ × Field → Column
custom f = column f.1.name (of_type f.1.kind) (value_site f.0)

custom_same : (q : OrgPlan) (n k j : ℕ) (fs : List Field) (name : List ℕ)
    → named_or name (find (λ c. same_name c.name name) (map custom (enumerate_from k fs))) ≡ custom_name (map (place_of q n) (enumerate_from j fs)) name
unfolding custom_name
custom_same q n k j [] name = refl
custom_same q n k j (f ∷ fs) name =
    step (same_name f.name name) (custom (k, f)) (find (λ c. same_name c.name name) (map custom (enumerate_from (k + 1) fs))) name _ (custom_same q n (k + 1) (j + 1) fs name)

tail_same : (detail : Bool) (name other : List ℕ) (customs : List Column) → named_or name (find (λ c. same_name c.name name) customs) ≡ other
    → named_or name (find (λ c. same_name c.name name) (cond detail [] (owner_column ∷ []) ++ customs))
    ≡ cond detail other (cond (same_name (codes "OwnerId") name) (codes "OwnerId") other)
tail_same true name other customs e = e
tail_same false name other customs e = step (same_name (codes "OwnerId") name) owner_column (find (λ c. same_name c.name name) customs) name other e

abbrev by_names : (i c m n o : List ℕ) → Bool → (customs name : List ℕ) → List ℕ
by_names i c m n o detail customs name =
    cond (same_name i name) i
    (cond (same_name c name) c
    (cond (same_name m name) m
    (cond (same_name n name) n
    (cond detail customs (cond (same_name o name) o customs)))))

texts_same : (detail : Bool) (customs name : List ℕ)
    → by_names (codes "Id") (codes "CreatedDate") (codes "LastModifiedDate") (codes "Name") (codes "OwnerId") detail customs name
    ≡ by_names (chars (codes "Id")) (chars (codes "CreatedDate")) (chars (codes "LastModifiedDate")) (chars (codes "Name")) (chars (codes "OwnerId")) detail customs name
unfolding chars
texts_same detail customs name = refl

named_same : (o : Object) (name other : List ℕ) → named_or name (find (λ c. same_name c.name name) (custom_columns o)) ≡ other
    → declared_in o name ≡ by_names (codes "Id") (codes "CreatedDate") (codes "LastModifiedDate") (codes "Name") (codes "OwnerId") (is_detail o) other name
unfolding column_named
named_same o name other e =
    let rest = find (λ (c : Column). same_name c.name name) in
    let owners = cond (is_detail o) [] (owner_column ∷ []) ++ custom_columns o in
    let created = column (codes "CreatedDate") (of_type type.Moment) its_created in
    let modified = column (codes "LastModifiedDate") (of_type type.Moment) its_modified in
    step (same_name (codes "Id") name) (column (codes "Id") of_ids its_id) (rest (created ∷ modified ∷ name_column ∷ owners)) name _
    (step (same_name (codes "CreatedDate") name) created (rest (modified ∷ name_column ∷ owners)) name _
    (step (same_name (codes "LastModifiedDate") name) modified (rest (name_column ∷ owners)) name _
    (step (same_name (codes "Name") name) name_column (rest owners) name _
    (tail_same (is_detail o) name other (custom_columns o) e))))

-- ---- paths

module _ (org : ℕ) (q : OrgPlan) (t : Tenant) where
  -- the name of a field
  declared_is : (o : Numbered) (name : List ℕ) → declared_name (layout_of org q t o) name ≡ declared_in o.object name
  unfolding declared_name
  declared_is o name =
      let fields = o.object.fields in
      let places = map (place_of q o.number) (enumerate_from 0 fields) in
      let customs = custom_name places name in
      sym (named_same o.object name customs (custom_same q o.number 1 0 fields name)
      ∙ ap (λ (d : Bool). by_names (codes "Id") (codes "CreatedDate") (codes "LastModifiedDate") (codes "Name") (codes "OwnerId") d customs name) (sym (detail_same q o.number 0 fields))
      ∙ texts_same (list_any (λ f. is_master f.kind) places) customs name)

  -- the object is one of the tenant's, if there is one
  abbrev IsThere : Option Numbered → Type 0
  IsThere None = Unit {0}
  IsThere (Some o) = object_numbered t o.number ≡ Some o.object

  laid : (o : Numbered) → object_numbered t o.number ≡ Some o.object → IsLayout q t (layout_of org q t o)
  unfolding own_layout
  laid o there = ap (λ (x : Option Object). option_map (layout_of org q t) (option_map (λ (y : Object). record { number = o.number; object = y }) x)) there

  -- the name of a relationship
  parent_is : (o : Numbered) → object_numbered t o.number ≡ Some o.object → (name : List ℕ) → relationship_name (layout_of org q t o) name ≡ declared_parent t o name
  parent_is o there name = by (parent_named t o.number name) refl
    where
      by : (f : Option Reference) → parent_named t o.number name ≡ f → relationship_name (layout_of org q t o) name ≡ in_case f name (λ (f : Reference). parent_name f.field.name)
      by None is =
          ap (λ (s : Option ParentStep). in_case s name (λ (s : ParentStep). parent_name (rules.custom_name (layout_of org q t o).fields s.position)))
          (parent_by_layout q t (layout_of org q t o) name (laid o there) ∙ ap (option_map parent_step) is)
      by (Some f) is = bound.declared_is q t (layout_of org q t o) name f (laid o there) is

  own_is : (n : ℕ) → own_layout org n q (Some t) ≡ option_map (layout_of org q t) (numbered_at t n)
  unfolding own_layout
  own_is n = refl

  behind_there : (o : Numbered) (name : List ℕ) → IsThere (parent_object t o name)
  behind_there o name = by (parent_named t o.number name)
    where
      at : (n : ℕ) (x : Option Object) → object_numbered t n ≡ x → IsThere (option_map (λ (y : Object). record { number = n; object = y }) x)
      at n None e = tt
      at n (Some x) e = e

      by : (f : Option Reference) → IsThere (option_and_then (λ (f : Reference). numbered_at t f.target) f)
      by None = tt
      by (Some f) = at f.target (object_numbered t f.target) refl

  module _ (ls : List Layout) where
    module _ (all : ls ≡ own_layouts org q (Some t)) where
      -- the layout of the object to which it leads
      behind_is : (o : Numbered) → object_numbered t o.number ≡ Some o.object → (name : List ℕ) → layout_behind ls (layout_of org q t o) name ≡ option_map (layout_of org q t) (parent_object t o name)
      behind_is o there name =
          ap (option_and_then (λ (s : ParentStep). layout_at ls s.target)) (parent_by_layout q t (layout_of org q t o) name (laid o there))
          ∙ by (parent_named t o.number name)
        where
          by : (f : Option Reference) → option_and_then (λ (s : ParentStep). layout_at ls s.target) (option_map parent_step f) ≡ option_map (layout_of org q t) (option_and_then (λ (f : Reference). numbered_at t f.target) f)
          by None = refl
          by (Some f) = numbered_layout org f.target q t ls all ∙ own_is f.target

      path_is : (names : List (List ℕ)) (o : Option Numbered) → IsThere o → path_by ls (option_map (layout_of org q t) o) names ≡ path_from t o names
      path_is [] o there = refl
      path_is (name ∷ []) None there = refl
      path_is (name ∷ []) (Some o) there = declared_is o name
      path_is (name ∷ next ∷ names) None there = ap (λ (rest : List ℕ). name ++ codes "." ++ rest) (path_is (next ∷ names) None tt)
      path_is (name ∷ next ∷ names) (Some o) there =
          ap (λ (first : List ℕ). first ++ codes "." ++ path_by ls (layout_behind ls (layout_of org q t o) name) (next ∷ names)) (parent_is o there name)
          ∙ ap (λ (l : Option Layout). declared_parent t o name ++ codes "." ++ path_by ls l (next ∷ names)) (behind_is o there name)
          ∙ ap (λ (rest : List ℕ). declared_parent t o name ++ codes "." ++ rest) (path_is (next ∷ names) (parent_object t o name) (behind_there o name))

    -- ---- what is selected

    module _ (o : Numbered) (there : object_numbered t o.number ≡ Some o.object) where
      one_is : (names : List (List ℕ)) → has_one_name names ≡ true → path_by ls (Some (layout_of org q t o)) names ≡ declared_path t o names
      one_is [] one = absurd cc
      one_is (name ∷ []) one = declared_is o name
      one_is (name ∷ next ∷ names) one = absurd cc

      abbrev Served : List Item → Type 0
      Served items = (list_all is_flat_item items ≡ true) ⊎ (ls ≡ own_layouts org q (Some t))

      cell_is : (p : Path) (items : List Item) → Served (item.Path p ∷ items) → path_by ls (Some (layout_of org q t o)) p.names ≡ declared_path t o p.names
      cell_is p items (inl flat) = one_is p.names (and_left (has_one_name p.names) (list_all is_flat_item items) flat)
      cell_is p items (inr all) = path_is all p.names (Some o) there

      behind : (x : Item) (items : List Item) → Served (x ∷ items) → Served items
      behind x items (inl flat) = inl (and_right (is_flat_item x) (list_all is_flat_item items) flat)
      behind x items (inr all) = inr all

      cells_are : (items : List Item) → Served items → filter_map (item_by ls (layout_of org q t o)) items ≡ map (λ x. declared_path t o x.names) (paths_in items)
      cells_are [] serve = refl
      cells_are (item.Path p ∷ items) serve =
          ap (λ (cell : List ℕ). cell ∷ filter_map (item_by ls (layout_of org q t o)) items) (cell_is p items serve)
          ∙ ap (λ (cells : List (List ℕ)). declared_path t o p.names ∷ cells) (cells_are items (behind (item.Path p) items serve))
      cells_are (item.Child paths tail ∷ items) serve = cells_are items (behind (item.Child paths tail) items serve)

      served : (s : Query) → Reaches org q t ls s → Served s.select
      served s (inl flat) = inl (parts_of s flat).items
      served s (inr all) = inr all.1

      -- the names that a query of the object selects
      pub names_are : (s : Query) → object_named t s.tail.from ≡ Some o → Reaches org q t ls s → filter_map (item_by ls (layout_of org q t o)) s.select ≡ selected_names t s
      names_are s named reach =
          cells_are s.select (served s reach)
          ∙ sym (ap (λ (x : Option Numbered). in_case x [] (λ (o : Numbered). map (λ (x : Path). declared_path t o x.names) (paths_in s.select))) named)
