-- The records that refer to a record, by pages, as a user may read them.
-- Source: as in Parents.
use Rattle.std.specs.Prelude.{ℕ, List, filter, take, Option}
use Rattle.model.specs.declared.record.Record.{Record}
use Rattle.model.specs.Jobs.{is_past, last_id}
use Rattle.model.specs.Levels.{can_read}
use Rattle.model.specs.Objects.{records_of}
use Rattle.model.specs.Tenant.{Tenant, User}
use Rattle.query_related.specs.declared.parents.children.ChildPage.{ChildPage}
use Rattle.record_references.specs.Referring.{refers_by}

-- at most so many of the records of an object that refer to a record by the field with this number, in the order of their ids: the
-- first, or those after an id
unfoldable pub children_after : (object number : ℕ) → (target : List ℕ) → Option (List ℕ) → (limit : ℕ) → Tenant → List Record
children_after n number target after limit t =
    take limit (filter (λ r. is_past after r.id) (filter (refers_by number target) (records_of t n)))

-- those of some records that a user may read, and the id of the last of all of them
abbrev pub page_of : Tenant → User → List Record → ChildPage
page_of t u rs = record { records = filter (can_read t u) rs; last = last_id rs }
