-- The values of the records of branches.
use Rattle.std.specs.Prelude.{ℕ, List, Option, slice_get}
use Rattle.std.specs.Option.{option_and_then}
use Rattle.base_value.specs.declared.value.Value.{Value}
use Rattle.base_value.specs.declared.value.Value.TheVariants as value
use Rattle.model.specs.declared.record.Record.{Record}
use Rattle.model.specs.Cases.{in_case}
use Rattle.model.specs.Fields.{value_in}
use Rattle.query_plan.specs.declared.check.Site.{Site}
use Rattle.query_plan.specs.Checks.{site_of}

-- what one of these records has at a site; null where there is none
abbrev pub far_value : List (Option Record) → ℕ → Site → Value
far_value far n s = in_case (option_and_then (λ p. p) (slice_get far n)) value.Null (value_in (site_of s))
