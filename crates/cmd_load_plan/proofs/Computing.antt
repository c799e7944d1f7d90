-- What rows worked by hand compute with, under one name.
use Rattle.std.specs.Char.{encode_utf8}
use Rattle.std.specs.Fmt.{digits as fmt_digits}
use Rattle.std.specs.Str.{chars}
use Rattle.caseless.specs.Caseless.{default_case_fold}
use Rattle.ucd_case.specs.CaseFolding.{full_folding}
use Rattle.ucd_case.specs.FullFoldingRows.{full_folding_rows}
use Rattle.ucd_table.specs.Rows.{value_in}
use Rattle.base_grammar.specs.Tokens.{is_letter}
use Rattle.base_value.specs.Digits.{digits}
use Rattle.base_value.specs.Id.{id_in, made, number62}
use Rattle.base_value.specs.Numerals.{is_digit}
use Rattle.model.specs.Fields.{column_named}
use Rattle.model.specs.Given.{record_by_value}
use Rattle.model.specs.Jobs.{job_step}
use Rattle.model.specs.Levels.{grants, level, own_level, readable}
use Rattle.model.specs.Membership.{is_below, is_member, reaches}
use Rattle.model.specs.Names.{is_child_name, is_custom_name, is_stem}
use Rattle.model.specs.Objects.{object_named, object_number, record_prefix}
use Rattle.model.specs.Ordered.{in_order}
use Rattle.model.specs.Organisations.{is_secret}
use Rattle.model.specs.Relationships.{child_named, parent_name, parent_named}
use Rattle.model.specs.Sound.{is_name}
use Rattle.cmd_load_plan.specs.Columns.{columns_behind, parts_of, plan_of}
use Rattle.cmd_load_plan.specs.Rows.{given_row}

unfoldable pub computing : Unit {0}
unfolding encode_utf8 fmt_digits chars default_case_fold full_folding full_folding_rows value_in is_letter digits id_in made number62 is_digit column_named record_by_value job_step grants level own_level readable is_below is_member reaches is_child_name is_custom_name is_stem object_named object_number record_prefix in_order is_secret child_named parent_name parent_named is_name columns_behind parts_of plan_of given_row
computing = tt
