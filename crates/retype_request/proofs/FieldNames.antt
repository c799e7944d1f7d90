-- The field with a name, by the custom fields of a layout and the names that objects have beside them.
use Rattle.std.proofs.Common.{◌≡◌, ◌∙◌, ℕ, suc, ◌+◌, Bool, true, false, not, ◌&&◌, ◌||◌, if◌then◌else◌, cond, arith, List, [], ◌∷◌, ◌++◌, map, Option, Some, None, refl, sym, ap}
use Rattle.std.specs.Prelude.{codes}
use Rattle.std.specs.List.{enumerate_from, find, list_any}
use Rattle.std.specs.Option.{option_map}
use Rattle.model.specs.Cases.{in_case}
use Rattle.model.specs.Fields.{Column, its_created, its_id, its_modified, of_ids, of_type, column, column_named, is_detail, is_master, name_column, owner_column, same_name, value_site}
use Rattle.model.specs.Tenant.{Field}
use Rattle.retype_request.specs.declared.columns.NamedField.{NamedField}
use Rattle.retype_request.specs.inner.Columns.{custom_from, field_by, named_by}
use Rattle.schema_rules.specs.Objects.{field_of_place, object_of_layout}
use Rattle.store_abstraction.specs.declared.layout.FieldPlace.{FieldPlace}
use Rattle.store_abstraction.specs.declared.layout.Layout.{Layout}
use Rattle.base_value.specs.declared.value.FieldType.TheVariants as type

-- the column with this name among these
abbrev among : List ℕ → List Column → Option NamedField
among name cs = option_map named_by (find (λ c. same_name c.name name) cs)

abbrev plain : List ℕ → NamedField
plain s = record { name = s; custom = None }

abbrev custom : ℕ × Field → Column
custom f = column f.1.name (of_type f.1.kind) (value_site f.0)

one_more : (name : List ℕ) (c : Column) (cs : List Column) → among name (c ∷ cs) ≡ cond (same_name c.name name) (Some (named_by c)) (among name cs)
one_more name c cs = by (same_name c.name name) (find (λ d. same_name d.name name) cs)
  where
    by : (b : Bool) (rest : Option Column) → option_map named_by (cond b (Some c) rest) ≡ cond b (Some (named_by c)) (option_map named_by rest)
    by true rest = refl
    by false rest = refl

among_from : (name : List ℕ) (j k : ℕ) (fields : List FieldPlace) → j ≡ suc k → among name (map custom (enumerate_from j (map field_of_place fields))) ≡ custom_from name k fields
among_from name j k [] at = refl
among_from name j k (f ∷ fields) at =
    let next : j + 1 ≡ suc (k + 1) = omega (arith, at) in
    one_more name (custom (j, field_of_place f)) (map custom (enumerate_from (j + 1) (map field_of_place fields)))
    ∙ ap (λ (i : ℕ). cond {A = Option NamedField} (same_name f.name name) (Some (named_by (custom (i, field_of_place f)))) (among name (map custom (enumerate_from (j + 1) (map field_of_place fields))))) at
    ∙ ap (λ (rest : Option NamedField). cond {A = Option NamedField} (same_name f.name name) (Some (record { name = f.name; custom = Some k })) rest) (among_from name (j + 1) (k + 1) fields next)

among_custom : (name : List ℕ) (k : ℕ) (fields : List FieldPlace) → among name (map custom (enumerate_from (suc k) (map field_of_place fields))) ≡ custom_from name k fields
among_custom name k fields = among_from name (suc k) k fields refl

-- behind the name: the owner, where there is one, and the custom fields
among_own : (name : List ℕ) (detail : Bool) (fields : List FieldPlace)
    → among name ((if detail then [] else owner_column ∷ []) ++ map custom (enumerate_from 1 (map field_of_place fields)))
    ≡ cond {A = Option NamedField} (same_name (codes "OwnerId") name && not detail) (Some (plain (codes "OwnerId"))) (custom_from name 0 fields)
among_own name true fields = among_custom name 0 fields ∙ never (same_name (codes "OwnerId") name) (custom_from name 0 fields)
  where
    never : (b : Bool) (rest : Option NamedField) → rest ≡ cond {A = Option NamedField} (b && false) (Some (plain (codes "OwnerId"))) rest
    never true rest = refl
    never false rest = refl
among_own name false fields =
    one_more name owner_column (map custom (enumerate_from 1 (map field_of_place fields)))
    ∙ ap (cond {A = Option NamedField} (same_name (codes "OwnerId") name) (Some (plain (codes "OwnerId")))) (among_custom name 0 fields)
    ∙ always (same_name (codes "OwnerId") name) (custom_from name 0 fields)
  where
    always : (b : Bool) (rest : Option NamedField) → cond {A = Option NamedField} b (Some (plain (codes "OwnerId"))) rest ≡ cond {A = Option NamedField} (b && true) (Some (plain (codes "OwnerId"))) rest
    always true rest = refl
    always false rest = refl

-- one after the other
abbrev chain : (name : List ℕ) → (owner : Bool) → (rest : Option NamedField) → Option NamedField
chain name owner rest =
    cond (same_name (codes "Id") name) (Some (plain (codes "Id")))
    (cond (same_name (codes "CreatedDate") name) (Some (plain (codes "CreatedDate")))
    (cond (same_name (codes "LastModifiedDate") name) (Some (plain (codes "LastModifiedDate")))
    (cond (same_name (codes "Name") name) (Some (plain (codes "Name")))
    (cond owner (Some (plain (codes "OwnerId"))) rest))))

abbrev all : (detail : Bool) → List FieldPlace → List Column
all detail fields =
    column (codes "Id") of_ids its_id
    ∷ column (codes "CreatedDate") (of_type type.Moment) its_created
    ∷ column (codes "LastModifiedDate") (of_type type.Moment) its_modified
    ∷ name_column
    ∷ (if detail then [] else owner_column ∷ []) ++ map custom (enumerate_from 1 (map field_of_place fields))

among_all : (name : List ℕ) (detail : Bool) (fields : List FieldPlace) → among name (all detail fields) ≡ chain name (same_name (codes "OwnerId") name && not detail) (custom_from name 0 fields)
among_all name detail fields =
    let own = (if detail then [] else owner_column ∷ []) ++ map custom (enumerate_from 1 (map field_of_place fields)) in
    let created = column (codes "CreatedDate") (of_type type.Moment) its_created in
    let modified = column (codes "LastModifiedDate") (of_type type.Moment) its_modified in
    one_more name (column (codes "Id") of_ids its_id) (created ∷ modified ∷ name_column ∷ own)
    ∙ ap (cond {A = Option NamedField} (same_name (codes "Id") name) (Some (plain (codes "Id"))))
    (one_more name created (modified ∷ name_column ∷ own)
    ∙ ap (cond {A = Option NamedField} (same_name (codes "CreatedDate") name) (Some (plain (codes "CreatedDate"))))
    (one_more name modified (name_column ∷ own)
    ∙ ap (cond {A = Option NamedField} (same_name (codes "LastModifiedDate") name) (Some (plain (codes "LastModifiedDate"))))
    (one_more name name_column own
    ∙ ap (cond {A = Option NamedField} (same_name (codes "Name") name) (Some (plain (codes "Name")))) (among_own name detail fields))))

split : (name : List ℕ) (detail : Bool) (fields : List FieldPlace) → field_by detail fields name ≡ chain name (same_name (codes "OwnerId") name && not detail) (custom_from name 0 fields)
split name detail fields = by (same_name (codes "Id") name) (same_name (codes "CreatedDate") name) (same_name (codes "LastModifiedDate") name) (same_name (codes "Name") name) (same_name (codes "OwnerId") name && not detail)
  where
    by : (a b c d e : Bool)
        → in_case (cond a (Some (codes "Id")) (cond b (Some (codes "CreatedDate")) (cond c (Some (codes "LastModifiedDate")) (cond d (Some (codes "Name")) (cond e (Some (codes "OwnerId")) None))))) (custom_from name 0 fields) (λ s. Some (plain s))
        ≡ cond a (Some (plain (codes "Id"))) (cond b (Some (plain (codes "CreatedDate"))) (cond c (Some (plain (codes "LastModifiedDate"))) (cond d (Some (plain (codes "Name"))) (cond e (Some (plain (codes "OwnerId"))) (custom_from name 0 fields)))))
    by true b c d e = refl
    by false true c d e = refl
    by false false true d e = refl
    by false false false true e = refl
    by false false false false true = refl
    by false false false false false = refl

masters_of : (fields : List FieldPlace) → list_any (λ (f : Field). is_master f.kind) (map field_of_place fields) ≡ list_any (λ (f : FieldPlace). is_master f.kind) fields
masters_of [] = refl
masters_of (f ∷ fields) = ap (λ (b : Bool). is_master f.kind || b) (masters_of fields)

pub field_is : (l : Layout) (name : List ℕ) → field_by (list_any (λ (f : FieldPlace). is_master f.kind) l.fields) l.fields name ≡ option_map named_by (column_named (object_of_layout l) name)
unfolding column_named
field_is l name =
    split name (list_any (λ (f : FieldPlace). is_master f.kind) l.fields) l.fields
    ∙ ap (λ (d : Bool). chain name (same_name (codes "OwnerId") name && not d) (custom_from name 0 l.fields)) (sym (masters_of l.fields))
    ∙ sym (among_all name (is_detail (object_of_layout l)) l.fields)
