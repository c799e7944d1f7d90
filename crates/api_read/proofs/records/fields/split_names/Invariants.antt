use Rattle.std.proofs.Common.{◌≡◌, ◌++◌, [], ◌∷◌}
use Rattle.std.specs.Str.{chars}
use Rattle.std.specs.String.{string_bytes}
use Rattle.form_urlencoded.specs.Form.{split}
use Rattle.api_read.proofs.records.fields.split_names.Given as goal

-- the names so far, and what there is of the last one
abbrev pub invariant-characters : goal.invariant-characters
invariant-characters l = l.names ++ chars (string_bytes l.last) ∷ [] ≡ split 44 l.yielded
