-- The fields of an object by their names.
use Rattle.std.specs.Prelude.{ℕ, Bool, List}
use Rattle.std.specs.Str.{chars}
use Rattle.model.specs.Edits.{is_writable}
use Rattle.model.specs.Fields as model
use Rattle.record_input.specs.declared.columns.Column.{Column}

-- a field's name as declared, and whether an edit may give it
abbrev pub Seen : Type 0
Seen = List ℕ × Bool

-- as the definitions have a field, and as a call returns it
abbrev pub seen : model.Column → Seen
seen c = (c.name, is_writable c.at)

abbrev pub shown : Column → Seen
shown c = (chars c.name.now, c.is_writable)
