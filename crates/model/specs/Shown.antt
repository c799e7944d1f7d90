-- How many data rows are shown to a request at most.
-- Source: this product's own.
use Rattle.std.specs.Prelude.{ℕ, ◌+◌, ◌-◌, ◌*◌, if◌then◌else◌, length, Result, Ok, Err}
use Rattle.std.specs.List.{sum_by}
use Rattle.soql.specs.declared.query.Item.{Item}
use Rattle.soql.specs.declared.query.Item.TheVariants as item
use Rattle.soql.specs.declared.query.Path.{Path}
use Rattle.soql.specs.declared.query.Query.{Query}
use Rattle.soql.specs.declared.query.Tail.{Tail}
use Rattle.model.specs.declared.limit.Limit.TheVariants as limit
use Rattle.model.specs.Limits.{limit_number}
use Rattle.model.specs.Tests.{tests}

-- ---- steps to parents in a query

-- those of a path: its names but the last are those of relationships
abbrev pub path_steps : Path → ℕ
path_steps p = length p.names - 1

-- those of a condition and of an order
abbrev pub tail_steps : Tail → ℕ
tail_steps tail = sum_by (λ x. length x.names - 1) (tests tail.condition) + sum_by (λ k. path_steps k.path) tail.order

-- those of a path that is selected; a child subquery has its own
abbrev pub item_steps : Item → ℕ
item_steps (item.Path p) = path_steps p
item_steps (item.Child paths tail) = 0

abbrev pub query_steps : Query → ℕ
query_steps q = sum_by item_steps q.select + tail_steps q.tail

-- ---- data rows

-- a record that is read by its id: its own, and the four by which it is readable
abbrev pub readable_shown : ℕ
readable_shown = 5

-- with the parents to which so many steps lead
abbrev pub related_shown : (steps : ℕ) → ℕ
related_shown steps = readable_shown + readable_shown * steps

-- the children of a record by what is selected: each of an object's records may be one, with its parents
abbrev pub item_children_shown : Item → ℕ
item_children_shown (item.Path p) = 0
item_children_shown (item.Child paths tail) = limit_number limit.RecordsPerObject * related_shown (sum_by path_steps paths + tail_steps tail)

-- a row of a query, its own data row and those by which it is readable aside: its parents, and its children
abbrev pub row_shown : Query → ℕ
row_shown q = readable_shown * query_steps q + sum_by item_children_shown q.select

-- those of an object's records, and for each of them those of its masters, by which it is readable
abbrev pub request_shown : ℕ
request_shown = 4 * limit_number limit.RecordsPerObject

-- further ones, for the rows of a query: none for one over one object
abbrev pub further_to : Result Query ℕ → ℕ
further_to (Ok q) = row_shown q * limit_number limit.RecordsPerObject
further_to (Err place) = 0

-- a request over a draft that removes so many: a query reads an object's records in at most 80 pages, and the removed ones may be
-- among those of each
abbrev pub shown_beside : (further removed : ℕ) → ℕ
shown_beside further removed = (request_shown + further) + 80 * removed
