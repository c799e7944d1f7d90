-- Where paths and child relationships lead, by the layouts of all objects.
use Rattle.std.specs.Prelude.{ℕ, ◌==◌, List, [], ◌∷◌, Option, None}
use Rattle.std.specs.List.{find}
use Rattle.std.specs.Option.{option_and_then}
use Rattle.model.specs.Cases.{in_case}
use Rattle.store_abstraction.specs.declared.layout.Layout.{Layout}
use Rattle.query_plan.specs.paths.ByLayout.{child_of, parent_from}
use Rattle.query_check.specs.declared.columns.Column.{Column}
use Rattle.query_check.specs.Columns.{column_in}

-- the layout of the object with this number
abbrev pub layout_at : List Layout → ℕ → Option Layout
layout_at ls n = find (λ l. l.object == n) ls

-- that of the object to whose records the parent relationship with this name leads
unfoldable pub parent_layout : List Layout → Layout → List ℕ → Option Layout
parent_layout ls l name = option_and_then (λ s. layout_at ls s.target) (parent_from 1 l.fields name)

-- that of the object whose records the child relationship with this name has
unfoldable pub child_layout : List Layout → Layout → List ℕ → Option Layout
child_layout ls l name = option_and_then (λ s. layout_at ls s.object) (child_of l.object name ls)

-- the field to which a path leads
abbrev pub path_column_in : List Layout → Layout → List (List ℕ) → Option Column
path_column_in ls l [] = None
path_column_in ls l (name ∷ []) = column_in l name
path_column_in ls l (name ∷ next ∷ names) = in_case (parent_layout ls l name) None (λ p. path_column_in ls p (next ∷ names))
