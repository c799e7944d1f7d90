-- Names of relationships as they are declared, by layouts.
use Rattle.std.specs.Prelude.{ℕ, List}
use Rattle.model.specs.Cases.{in_case}
use Rattle.model.specs.Relationships.{parent_name}
use Rattle.store_abstraction.specs.declared.layout.Layout.{Layout}
use Rattle.query_plan.specs.paths.ByLayout.{parent_from}
use Rattle.query_check.specs.Columns.{custom_name}

-- that of a parent relationship; one that isn't there stays as it is
abbrev pub relationship_name : Layout → (name : List ℕ) → List ℕ
relationship_name l name = in_case (parent_from 1 l.fields name) name (λ s. parent_name (custom_name l.fields s.position))
