-- Relationships as layouts have them.
use Rattle.std.specs.Prelude.{ℕ, ◌+◌, Bool, false, ◌&&◌, ◌==◌, if◌then◌else◌, List, [], ◌∷◌, Option, Some, None, position}
use Rattle.std.specs.Option.{option_map, option_or}
use Rattle.model.specs.Cases.{in_case}
use Rattle.model.specs.Fields.{same_name}
use Rattle.model.specs.Relationships.{parent_name, target_of}
use Rattle.store_abstraction.specs.declared.layout.FieldPlace.{FieldPlace}
use Rattle.store_abstraction.specs.declared.layout.Layout.{Layout}
use Rattle.query_plan.specs.declared.paths.children.ChildStep.{ChildStep}
use Rattle.query_plan.specs.declared.paths.parents.ParentStep.{ParentStep}

-- ---- parents

-- the step of the field at this position, if it is a reference whose parent relationship has the name
abbrev pub parent_at : (position : ℕ) → FieldPlace → (name : List ℕ) → Option ParentStep
parent_at k f name =
    in_case (target_of f.kind) None (λ target.
    if same_name (parent_name f.name) name then Some (record { position = k; target = target }) else None)

-- that of the first of these fields that has one, where the first of all is at this position
abbrev pub parent_from : (position : ℕ) → List FieldPlace → (name : List ℕ) → Option ParentStep
parent_from k [] name = None
parent_from k (f ∷ fields) name = option_or (parent_at k f name) (parent_from (k + 1) fields name)

-- ---- children

-- the field refers to the object with this number, and its child relationship has the name
abbrev pub is_child : (object : ℕ) → (name : List ℕ) → FieldPlace → Bool
is_child n name f = in_case (target_of f.kind) false (λ target. (target == n) && in_case f.child false (same_name name))

-- the relationship by a field of the layout
abbrev pub child_by : (object : ℕ) → (name : List ℕ) → Layout → Option ChildStep
child_by n name l = option_map (λ i. record { object = l.object; field = i }) (position (is_child n name) l.fields)

-- that by the first layout that has one
abbrev pub child_of : (object : ℕ) → (name : List ℕ) → List Layout → Option ChildStep
child_of n name [] = None
child_of n name (l ∷ layouts) = option_or (child_by n name l) (child_of n name layouts)
