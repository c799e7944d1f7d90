-- Values as rows show them.
use Rattle.std.specs.Prelude.{if◌then◌else◌}
use Rattle.base_value.specs.Printing.{is_printable}
use Rattle.base_value.specs.declared.value.Value.{Value}
use Rattle.base_value.specs.declared.value.Value.TheVariants as value
use Rattle.model.specs.RowsJson.{value_json}
use Rattle.query_plan.specs.Shown.{Shows}

-- a value that can be printed, as those of sound records can
abbrev pub or_null : Value → Value
or_null v = if is_printable v then v else value.Null

-- a value in JSON, or null
abbrev pub shows : Shows
shows v = value_json (or_null v)
