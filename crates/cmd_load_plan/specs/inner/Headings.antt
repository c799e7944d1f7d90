-- Parts of headings, by the layouts of an organisation's objects.
use Rattle.std.specs.Prelude.{ℕ, ◌≡◌, ◌-◌, Option, Some, List, [], Result, slice_get}
use Rattle.std.specs.Option.{option_and_then, option_map}
use Rattle.model.specs.Objects.{object_numbered}
use Rattle.model.specs.Sound.{IsSound}
use Rattle.model.specs.Tenant.{Tenant}
use Rattle.model.specs.Upserts.{unique_named}
use Rattle.schema_rules.specs.Objects.{numbered_in}
use Rattle.store_abstraction.specs.Layouts.{own_layouts}
use Rattle.store_abstraction.specs.Plan.{OrgPlan}
use Rattle.store_abstraction.specs.declared.layout.FieldPlace.{FieldPlace}
use Rattle.store_abstraction.specs.declared.layout.Layout.{Layout}
use Rattle.cmd_load_plan.specs.declared.plan.LoadColumn.{LoadColumn}
use Rattle.cmd_load_plan.specs.Columns.{column_of, columns_behind, parent_column}
use Rattle.cmd_load_plan.specs.Headings.{InEach, in_characters}

-- the place of the unique field with this name among the custom fields of an object, from 0
abbrev pub unique_place : Tenant → (object : ℕ) → (field : List ℕ) → Option ℕ
unique_place t n field = option_and_then (λ target. option_map (λ u. u.0 - 1) (unique_named target field)) (object_numbered t n)

-- it is found by the layouts of a sound tenant's objects
abbrev pub FindsPlace : List Layout → (object : ℕ) → (field : List ℕ) → Option ℕ → Type 0
FindsPlace layouts n field place =
    (org : ℕ) (q : OrgPlan) (t : Tenant) → layouts ≡ own_layouts org q (Some t) → IsSound t → place ≡ unique_place t n field

-- the field whose value is at a position, found by the unique field at a place
abbrev pub column_at : List FieldPlace → (position place : ℕ) → Option LoadColumn
column_at fields position place =
    option_map (λ f. record { field = f.name; find = Some place }) (slice_get fields (position - 1))

-- a parent's column
abbrev pub FindsParent : List Layout → Layout → (relationship field : List ℕ) → Option LoadColumn → Type 0
FindsParent layouts l relationship field c = InEach layouts l (λ t. c ≡ parent_column t l.object relationship field)

-- a cell's column
abbrev pub FindsColumn : List Layout → Layout → (cell : List ℕ) → Option LoadColumn → Type 0
FindsColumn layouts l cell c = InEach layouts l (λ t. c ≡ column_of t (numbered_in l) cell)

-- the columns of cells, or the characters of the first one that is refused
abbrev pub FindsColumns : List Layout → Layout → (cells : List (List ℕ)) → Result (List LoadColumn) (List ℕ) → Type 0
FindsColumns layouts l cells r = InEach layouts l (λ t. r ≡ in_characters (columns_behind t (numbered_in l) [] cells))
