use Rattle.std.proofs.Common.{◌≡◌, drop}
use Rattle.std.specs.Str.{chars}
use Rattle.query_check.specs.Columns.{custom_in}
use Rattle.query_check.proofs.columns.custom_in.Given as goal

abbrev pub invariant-loop-number : goal.invariant-loop-number
invariant-loop-number l = custom_in l.number (drop l.number l.fields) (chars l.name) ≡ custom_in 0 l.fields (chars l.name)
