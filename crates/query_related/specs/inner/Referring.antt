-- The records that refer to a record, as who asks may read them. No public contract reaches these words.
use Rattle.std.specs.Prelude.{ℕ, nat_lt, if◌then◌else◌, List, filter, length, Result, Ok, Err}
use Rattle.query_plan.specs.Plans.{refers_by}
use Rattle.store_rows.specs.declared.fail.StoreFail.{StoreFail}
use Rattle.store_rows.specs.declared.fail.StoreFail.TheVariants.{Damaged}
use Rattle.model.specs.declared.record.Record.{Record}
use Rattle.model.specs.Levels.{readable}
use Rattle.model.specs.Paths.{Asked}
use Rattle.model.specs.Rows.{readable_of}
use Rattle.model.specs.Tenant.{Tenant, User}
use Rattle.query_plan.specs.declared.paths.children.ChildStep.{ChildStep}

-- those of an object's records that the user may read and that refer to a record by the field with this number
abbrev pub readable_referring : Tenant → User → (object field : ℕ) → (id : List ℕ) → List Record
readable_referring t u n field id = filter (refers_by field id) (readable t u n)

-- the same by a relationship, for who asks
abbrev pub those_referring : Asked → ChildStep → (id : List ℕ) → List Record
those_referring a s id = filter (refers_by s.field id) (readable_of a s.object)

-- these records, unless they are more than an object has
abbrev pub few_of : List Record → Result (List Record) StoreFail
few_of rs = if nat_lt 20000 (length rs) then Err Damaged else Ok rs
