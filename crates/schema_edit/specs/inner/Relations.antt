-- Relationships and masters as layouts have them.
use Rattle.std.specs.Prelude.{ℕ, Bool, false, not, ◌&&◌, ◌||◌, ◌==◌, List, ◌++◌, map, filter, filter_map, Option, Some, None, Result, Ok, Err}
use Rattle.std.specs.List.{find, flat_map, list_any}
use Rattle.std.specs.Option.{option_map}
use Rattle.model.specs.Cases.{in_case}
use Rattle.model.specs.Fields.{is_master, same_name}
use Rattle.model.specs.Retyping.{job_is_done}
use Rattle.model.specs.Relationships.{Reference, parent_name, references_of, target_of}
use Rattle.model.specs.Tenant.{Field}
use Rattle.model.specs.declared.metadata_bodies.SpelledType.{SpelledType}
use Rattle.model.specs.declared.metadata_bodies.SpelledType.TheVariants.{Plain, LookupTo}
use Rattle.schema_rules.specs.Objects.{field_of_place, numbered_in}
use Rattle.store_abstraction.specs.declared.layout.FieldPlace.{FieldPlace}
use Rattle.store_abstraction.specs.declared.layout.JobPlace.{JobPlace}
use Rattle.store_abstraction.specs.declared.layout.Layout.{Layout}

-- ---- objects

abbrev pub references_in : List Layout → List Reference
references_in layouts = flat_map (λ l. references_of (numbered_in l)) layouts

-- the layout of the object with this name
abbrev pub layout_by_name : List Layout → List ℕ → Option Layout
layout_by_name layouts name = find (λ (l : Layout). same_name l.name name) layouts

-- ---- relationships

-- what these references call the relationships of an object
abbrev pub names_among : List Reference → ℕ → List (List ℕ)
names_among fs n =
    map (λ f. parent_name f.field.name) (filter (λ f. f.object == n) fs)
    ++ filter_map (λ f. f.field.child) (filter (λ f. f.target == n) fs)

-- the child relationship has this name
abbrev pub has_child : (name : List ℕ) → Option (List ℕ) → Bool
has_child name child = in_case child false (same_name name)

-- the field of this object gives the object with this number a relationship with this name
abbrev pub gives : (number : ℕ) → (name : List ℕ) → (object : ℕ) → Field → Bool
gives n name object f =
    in_case (target_of f.kind) false (λ target.
    ((object == n) && same_name name (parent_name f.name)) || ((target == n) && has_child name f.child))

abbrev pub layout_gives : (number : ℕ) → (name : List ℕ) → Layout → Bool
layout_gives n name l = list_any (λ f. gives n name l.object (field_of_place f)) l.fields

-- ---- masters

abbrev pub is_master_of : (object : ℕ) → Reference → Bool
is_master_of n f = (f.object == n) && is_master f.field.kind

-- the object of the masters of an object's records
abbrev pub master_object : List Layout → (object : ℕ) → Option ℕ
master_object layouts n = option_map (λ (f : Reference). f.target) (find (is_master_of n) (references_in layouts))

-- the same among the fields of one
abbrev pub master_among : List FieldPlace → Option ℕ
master_among fields = in_case (find (λ (f : FieldPlace). is_master f.kind) fields) None (λ f. target_of f.kind)

-- ---- lookups

-- the number of a lookup's object, or its name where there is none
abbrev pub target_in : List Layout → SpelledType → Result (Option ℕ) (List ℕ)
target_in layouts (Plain kind) = Ok None
target_in layouts (LookupTo object on_delete child) = in_case (layout_by_name layouts object) (Err object) (λ l. Ok (Some l.object))

-- ---- slots

-- the slot is that of a change that isn't done
abbrev pub is_changing : Option JobPlace → (slot : ℕ) → Bool
is_changing job slot = in_case job false (λ j. not (job_is_done j.phase) && (j.twin == slot))
