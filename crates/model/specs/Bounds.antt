-- How much a request may do.
-- Source: this product's own.
use Rattle.std.specs.Prelude.{ℕ, ◌+◌}
use Rattle.model.specs.Limits.{deletion_limit}

-- the most rows that a request changes. A deletion changes the most: the rows of the organisation and of its objects, which count
-- the records, and of each record that goes its rows and those of its manual shares
abbrev pub request_changes : ℕ
request_changes = 245101

-- the most data rows that a request removes: those of the records that go with one
abbrev pub request_gone : ℕ
request_gone = deletion_limit

-- the most data rows that are shown to an edit: the record that a deletion names, the four that its level takes, and each that it
-- removes or clears
abbrev pub edit_shown : ℕ
edit_shown = deletion_limit + 5
