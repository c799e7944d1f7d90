-- Records by the level on them, and by their ids. No public contract reaches these words.
use Rattle.std.specs.Prelude.{ℕ, ◌-◌, if◌then◌else◌, List, [], ◌∷◌, length, filter_map, Option, Some, None, slice_get, Result, Ok, Err}
use Rattle.std.specs.Option.{option_and_then}
use Rattle.store_rows.specs.declared.fail.StoreFail.{StoreFail}
use Rattle.model.specs.declared.record.Record.{Record}
use Rattle.model.specs.Levels.{at_least}
use Rattle.model.specs.Rights.{record_of_object}
use Rattle.model.specs.Tenant.{Tenant, User}
use Rattle.base_value.specs.declared.sharing.Level.{Level}
use Rattle.base_value.specs.declared.sharing.Level.TheVariants.{Read}
use Rattle.query_related.specs.parents.Parents.{if_readable_by}
use Rattle.query_related.specs.declared.parents.children.ChildPage.{ChildPage}

-- the record, if who has this level may read it
abbrev pub kept_if_readable : Result Level StoreFail → Record → Result (Option Record) StoreFail
kept_if_readable (Ok level) r = Ok (if at_least Read level then Some r else None)
kept_if_readable (Err e) r = Err e

-- of the records of an object with these ids, those that the user may read
abbrev pub readable_among : Tenant → User → (object : ℕ) → List (List ℕ) → List Record
readable_among t u n ids = filter_map (λ id. option_and_then (if_readable_by t u) (record_of_object t n id)) ids

-- the record, if there is one
abbrev pub records_in : Option Record → List Record
records_in None = []
records_in (Some r) = r ∷ []

-- the last of them
abbrev pub last_in : List (List ℕ) → Option (List ℕ)
last_in ids = slice_get ids (length ids - 1)

-- the page of the records with these ids
abbrev pub page_by : Tenant → User → (object : ℕ) → List (List ℕ) → ChildPage
page_by t u n ids = record { records = readable_among t u n ids; last = last_in ids }

-- the same by the records that were read
abbrev pub page_with : List (List ℕ) → Result (List Record) StoreFail → Result ChildPage StoreFail
page_with ids (Ok rs) = Ok (record { records = rs; last = last_in ids })
page_with ids (Err e) = Err e
