-- Names as they are declared, by layouts.
use Rattle.std.specs.Prelude.{ℕ, if◌then◌else◌, List, [], ◌∷◌, ◌++◌, codes, Option, Some, None}
use Rattle.std.specs.List.{list_any}
use Rattle.std.specs.Option.{option_and_then}
use Rattle.std.specs.Str.{chars}
use Rattle.soql.specs.declared.query.Item.{Item}
use Rattle.soql.specs.declared.query.Item.TheVariants as item
use Rattle.model.specs.Cases.{in_case}
use Rattle.model.specs.Fields.{is_master, same_name}
use Rattle.store_abstraction.specs.declared.layout.FieldPlace.{FieldPlace}
use Rattle.store_abstraction.specs.declared.layout.Layout.{Layout}
use Rattle.query_plan.specs.paths.ByLayout.{parent_from}
use Rattle.query_check.specs.Ways.{layout_at}
use Rattle.query_bind.specs.Names.{relationship_name}

-- the first of these fields' names that is the same, or the name itself
unfoldable pub custom_name : List FieldPlace → (name : List ℕ) → List ℕ
custom_name [] name = name
custom_name (f ∷ fs) name = if same_name f.name name then f.name else custom_name fs name

-- the name of a field as it is declared
unfoldable pub declared_name : Layout → (name : List ℕ) → List ℕ
declared_name l name =
    if same_name (chars (codes "Id")) name then chars (codes "Id")
    else (if same_name (chars (codes "CreatedDate")) name then chars (codes "CreatedDate")
    else (if same_name (chars (codes "LastModifiedDate")) name then chars (codes "LastModifiedDate")
    else (if same_name (chars (codes "Name")) name then chars (codes "Name")
    else (if list_any (λ f. is_master f.kind) l.fields then custom_name l.fields name
    else (if same_name (chars (codes "OwnerId")) name then chars (codes "OwnerId")
    else custom_name l.fields name)))))

-- the layout of the object to which a parent relationship leads
abbrev pub layout_behind : List Layout → Layout → (name : List ℕ) → Option Layout
layout_behind ls l name = option_and_then (λ s. layout_at ls s.target) (parent_from 1 l.fields name)

-- the names of a path with a dot between, from the object with this layout, or from none
abbrev pub path_by : List Layout → Option Layout → (names : List (List ℕ)) → List ℕ
path_by ls l [] = []
path_by ls l (name ∷ []) = in_case l name (λ x. declared_name x name)
path_by ls l (name ∷ next ∷ names) =
    in_case l name (λ x. relationship_name x name) ++ codes "." ++ path_by ls (option_and_then (λ x. layout_behind ls x name) l) (next ∷ names)

-- the cell of what is selected, if it is a path
abbrev pub item_by : List Layout → Layout → Item → Option (List ℕ)
item_by ls l (item.Path p) = Some (path_by ls (Some l) p.names)
item_by ls l (item.Child paths tail) = None
