use Rattle.std.proofs.Common.{◌≡◌, drop}
use Rattle.std.specs.Str.{chars}
use Rattle.query_csv.specs.inner.Names.{custom_name}
use Rattle.query_csv.proofs.names.custom_name.Given as goal

abbrev pub invariant-loop-field : goal.invariant-loop-field
invariant-loop-field l = custom_name l.fields (chars l.name) ≡ custom_name (drop l.field-index l.fields) (chars l.name)
