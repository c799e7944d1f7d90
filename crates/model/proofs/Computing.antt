-- What rows worked by hand compute with, under one name.
use Rattle.std.specs.Char.{encode_utf8}
use Rattle.std.specs.Str.{chars}
use Rattle.ucd_case.specs.CaseFolding.{full_folding}
use Rattle.ucd_case.specs.FullFoldingRows.{full_folding_rows}
use Rattle.ucd_table.specs.Rows.{value_in}
use Rattle.caseless.specs.Caseless.{default_case_fold}
use Rattle.base_value.specs.Digits.{digits}
use Rattle.base_value.specs.Id.{id_in, made, number62}
use Rattle.formula.proofs.Computing.{reading_formulas}
use Rattle.model.specs.Fields.{column_named}
use Rattle.model.specs.FormulaTexts.{reads_text}
use Rattle.model.specs.Levels.{grants, level, own_level, readable}
use Rattle.model.specs.Membership.{is_below, is_member, reaches}
use Rattle.model.specs.Objects.{object_named, object_number, record_prefix}
use Rattle.model.specs.Ordered.{in_order}
use Rattle.model.specs.Relationships.{child_named, parent_name, parent_named}
use Rattle.model.specs.Rows.{found, found_children, rows}

unfoldable pub computing : Unit {0}
unfolding encode_utf8 chars full_folding full_folding_rows value_in default_case_fold digits id_in made number62 column_named grants level own_level readable is_below is_member reaches object_named object_number record_prefix in_order child_named parent_name parent_named reading_formulas reads_text found found_children rows
computing = tt
