-- Flat queries: of one object alone. That these are the queries which are bound is this product's own.
use Rattle.std.specs.Prelude.{ℕ, Bool, true, false, ◌&&◌, List, [], ◌∷◌}
use Rattle.std.specs.List.{list_all}
use Rattle.soql.specs.declared.query.Item.{Item}
use Rattle.soql.specs.declared.query.Item.TheVariants as item
use Rattle.soql.specs.declared.query.Query.{Query}
use Rattle.model.specs.Tests.{Tested, tests}

-- a path of one name
abbrev pub has_one_name : List (List ℕ) → Bool
has_one_name (name ∷ []) = true
has_one_name _ = false

abbrev pub is_flat_test : Tested → Bool
is_flat_test x = has_one_name x.names

-- no child subquery
abbrev pub is_flat_item : Item → Bool
is_flat_item (item.Path p) = has_one_name p.names
is_flat_item (item.Child paths tail) = false

-- each path that is selected, tested or ordered by has one name, and nothing selected is a child subquery
abbrev pub is_flat : Query → Bool
is_flat q =
    (list_all is_flat_item q.select && list_all is_flat_test (tests q.tail.condition))
    && list_all (λ k. has_one_name k.path.names) q.tail.order
