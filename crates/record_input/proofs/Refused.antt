-- The field with a name, by the names that an object has.
use Rattle.std.proofs.Common.{◌≡◌, ℕ, ◌+◌, Bool, true, false, not, ◌&&◌, if◌then◌else◌, cond, List, [], ◌∷◌, ◌++◌, map, Option, Some, None, refl, sym, ap, ◌∙◌}
use Rattle.std.specs.Prelude.{codes}
use Rattle.std.specs.List.{enumerate_from, find}
use Rattle.std.specs.Option.{option_map}
use Rattle.std.specs.Str.{chars}
use Rattle.model.specs.Cases.{in_case}
use Rattle.model.specs.Edits.{bad_field, is_writable}
use Rattle.model.specs.Fields.{Column, its_created, its_id, its_modified, of_ids, writable_columns, column, column_named, custom_columns, is_detail, name_column, of_type, owner_column, owner_columns, same_name, value_site}
use Rattle.model.specs.declared.record_bodies.Assignment.{Assignment}
use Rattle.model.specs.Rules.{refuse_if}
use Rattle.model.specs.Tenant.{Field, Object}
use Rattle.model.specs.Upserts.{declared_name}
use Rattle.base_value.specs.declared.value.FieldType.TheVariants as type
use Rattle.model.specs.declared.refusal.Refusal.TheVariants as refusal
use Rattle.store_abstraction.specs.declared.layout.FieldPlace.{FieldPlace}
use Rattle.schema_rules.specs.Objects.{field_of_place}
use Rattle.record_input.specs.Columns.{Seen, seen}
use Rattle.record_input.specs.inner.Columns.{bad_name, custom_seen, unwritable, writable_named}

abbrev id : Column
id = column (codes "Id") of_ids its_id

abbrev created : Column
created = column (codes "CreatedDate") (of_type type.Moment) its_created

abbrev modified : Column
modified = column (codes "LastModifiedDate") (of_type type.Moment) its_modified

-- the column with this name among these
abbrev among : List ℕ → List Column → Option Seen
among name cs = option_map seen (find (λ c. same_name c.name name) cs)

abbrev custom : ℕ × Field → Column
custom f = column f.1.name (of_type f.1.kind) (value_site f.0)

one_more : (name : List ℕ) (c : Column) (cs : List Column) → among name (c ∷ cs) ≡ cond (same_name c.name name) (Some (seen c)) (among name cs)
one_more name c cs = by (same_name c.name name) (find (λ d. same_name d.name name) cs)
  where
    by : (b : Bool) (rest : Option Column) → option_map seen (cond b (Some c) rest) ≡ cond b (Some (seen c)) (option_map seen rest)
    by true rest = refl
    by false rest = refl

one_custom : (name : List ℕ) (f : Field) (fs : List Field) → cond {A = Option Seen} (same_name f.name name) (Some (f.name, true)) (custom_seen fs name) ≡ custom_seen (f ∷ fs) name
one_custom name f fs = by (same_name f.name name) (find (λ g. same_name g.name name) fs)
  where
    by : (b : Bool) (rest : Option Field) → cond {A = Option Seen} b (Some (f.name, true)) (option_map (λ g. (g.name, true)) rest) ≡ option_map (λ g. (g.name, true)) (cond b (Some f) rest)
    by true rest = refl
    by false rest = refl

among_custom : (name : List ℕ) (k : ℕ) (fs : List Field) → among name (map custom (enumerate_from k fs)) ≡ custom_seen fs name
among_custom name k [] = refl
among_custom name k (f ∷ fs) =
    one_more name (custom (k, f)) (map custom (enumerate_from (k + 1) fs))
    ∙ ap (cond {A = Option Seen} (same_name f.name name) (Some (f.name, true))) (among_custom name (k + 1) fs)
    ∙ one_custom name f fs

-- behind the name: the owner, where there is one, and the custom fields
among_own : (name : List ℕ) (detail : Bool) (fs : List Field)
    → among name ((if detail then [] else owner_column ∷ []) ++ map custom (enumerate_from 1 fs))
    ≡ cond {A = Option Seen} (same_name (codes "OwnerId") name && not detail) (Some (codes "OwnerId", true)) (custom_seen fs name)
among_own name true fs = among_custom name 1 fs ∙ never (same_name (codes "OwnerId") name) (custom_seen fs name)
  where
    never : (b : Bool) (rest : Option Seen) → rest ≡ cond {A = Option Seen} (b && false) (Some (codes "OwnerId", true)) rest
    never true rest = refl
    never false rest = refl
among_own name false fs =
    one_more name owner_column (map custom (enumerate_from 1 fs))
    ∙ ap (cond {A = Option Seen} (same_name (codes "OwnerId") name) (Some (codes "OwnerId", true))) (among_custom name 1 fs)
    ∙ always (same_name (codes "OwnerId") name) (custom_seen fs name)
  where
    always : (b : Bool) (rest : Option Seen) → cond {A = Option Seen} b (Some (codes "OwnerId", true)) rest ≡ cond {A = Option Seen} (b && true) (Some (codes "OwnerId", true)) rest
    always true rest = refl
    always false rest = refl

among_writable : (name : List ℕ) (o : Object) → among name (writable_columns o) ≡ writable_named o name
among_writable name o =
    one_more name name_column (owner_columns o ++ custom_columns o)
    ∙ ap (cond {A = Option Seen} (same_name (codes "Name") name) (Some (codes "Name", true))) (among_own name (is_detail o) o.fields)

abbrev pub id_name : List ℕ
id_name = chars (codes "Id")

abbrev pub created_name : List ℕ
created_name = chars (codes "CreatedDate")

abbrev pub modified_name : List ℕ
modified_name = chars (codes "LastModifiedDate")

column_is : (o : Object) (name : List ℕ) → option_map seen (column_named o name)
    ≡ cond {A = Option Seen} (same_name id_name name) (Some (id_name, false))
    (cond {A = Option Seen} (same_name created_name name) (Some (created_name, false))
    (cond {A = Option Seen} (same_name modified_name name) (Some (modified_name, false))
    (writable_named o name)))
unfolding column_named chars
column_is o name =
    one_more name id (created ∷ modified ∷ writable_columns o)
    ∙ ap (cond {A = Option Seen} (same_name (codes "Id") name) (Some (codes "Id", false)))
    (one_more name created (modified ∷ writable_columns o)
    ∙ ap (cond {A = Option Seen} (same_name (codes "CreatedDate") name) (Some (codes "CreatedDate", false)))
    (one_more name modified (writable_columns o)
    ∙ ap (cond {A = Option Seen} (same_name (codes "LastModifiedDate") name) (Some (codes "LastModifiedDate", false))) (among_writable name o)))

-- the same by cases
pub id_column : (o : Object) (name : List ℕ) (s : Seen) → true ≡ same_name id_name name → s ≡ (id_name, false) → Some s ≡ option_map seen (column_named o name)
id_column o name s i is = rw (column_is o name, ← i, is) refl

pub created_column : (o : Object) (name : List ℕ) (s : Seen) → false ≡ same_name id_name name → true ≡ same_name created_name name
    → s ≡ (created_name, false) → Some s ≡ option_map seen (column_named o name)
created_column o name s i c is = rw (column_is o name, ← i, ← c, is) refl

pub modified_column : (o : Object) (name : List ℕ) (s : Seen) → false ≡ same_name id_name name → false ≡ same_name created_name name → true ≡ same_name modified_name name
    → s ≡ (modified_name, false) → Some s ≡ option_map seen (column_named o name)
modified_column o name s i c m is = rw (column_is o name, ← i, ← c, ← m, is) refl

pub other_column : (o : Object) (name : List ℕ) (r : Option Seen) → false ≡ same_name id_name name → false ≡ same_name created_name name → false ≡ same_name modified_name name
    → r ≡ writable_named o name → r ≡ option_map seen (column_named o name)
other_column o name r i c m is = rw (column_is o name, ← i, ← c, ← m) is

-- the first place with this name
place_seen : (fields : List FieldPlace) (name : List ℕ)
    → custom_seen (map field_of_place fields) name ≡ option_map (λ f. (f.name, true)) (find (λ f. same_name f.name name) fields)
place_seen [] name = refl
place_seen (f ∷ fields) name =
    sym (one_custom name (field_of_place f) (map field_of_place fields))
    ∙ ap (cond {A = Option Seen} (same_name f.name name) (Some (f.name, true))) (place_seen fields name)
    ∙ by (same_name f.name name) (find (λ g. same_name g.name name) fields)
  where
    by : (b : Bool) (rest : Option FieldPlace) → cond {A = Option Seen} b (Some (f.name, true)) (option_map (λ g. (g.name, true)) rest) ≡ option_map (λ g. (g.name, true)) (cond b (Some f) rest)
    by true rest = refl
    by false rest = refl

-- so the field that was found is seen
pub seen_there : (fields slice : List FieldPlace) (name : List ℕ) (f : FieldPlace) (n : List ℕ) (s : Seen)
    → slice ≡ fields → Some f ≡ find (λ g. same_name g.name name) slice → n ≡ f.name → s ≡ (n, true) → Some s ≡ custom_seen (map field_of_place fields) name
seen_there fields slice name f n s same found named is = rw (place_seen fields name, ← same, ← found, is, named) refl

pub unseen : (fields slice : List FieldPlace) (name : List ℕ)
    → slice ≡ fields → None ≡ find (λ g. same_name g.name name) slice → None ≡ custom_seen (map field_of_place fields) name
unseen fields slice name same none = rw (place_seen fields name, ← same, ← none) refl

-- ---- what is made of the field with a name

-- the name that is refused
pub bad_name_is : (o : Object) (name : List ℕ)
    → bad_name o name ≡ in_case (option_map seen (column_named o name)) (Some name) (λ s. if s.1 then None else Some s.0)
bad_name_is o name = by (column_named o name)
  where
    by : (found : Option Column) → in_case found (Some name) unwritable ≡ in_case (option_map seen found) (Some name) (λ s. if s.1 then None else Some s.0)
    by None = refl
    by (Some c) = refl

-- the declared name
pub declared_is : (o : Object) (name : List ℕ) → declared_name o name ≡ in_case (option_map seen (column_named o name)) name (λ s. s.0)
declared_is o name = by (column_named o name)
  where
    by : (found : Option Column) → in_case found name (λ c. c.name) ≡ in_case (option_map seen found) name (λ s. s.0)
    by None = refl
    by (Some c) = refl

-- a field is refused under the name that is
pub bad_field_is : (o : Object) (x : Assignment) → bad_field o x ≡ option_map (λ n. refusal.InvalidField n) (bad_name o x.field)
bad_field_is o x = of_found (column_named o x.field)
  where
    of_writable : (b : Bool) (n : List ℕ) → refuse_if (not b) (refusal.InvalidField n) ≡ option_map (λ n. refusal.InvalidField n) (cond b None (Some n))
    of_writable true n = refl
    of_writable false n = refl

    of_found : (found : Option Column) → in_case found (Some (refusal.InvalidField x.field)) (λ c. refuse_if (not (is_writable c.at)) (refusal.InvalidField c.name))
        ≡ option_map (λ n. refusal.InvalidField n) (in_case found (Some x.field) unwritable)
    of_found None = refl
    of_found (Some c) = of_writable (is_writable c.at) c.name
