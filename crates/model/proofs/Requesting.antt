-- What requests worked by hand compute with, under one name.
use Rattle.std.specs.Fmt.{digits as fmt_digits}
use Rattle.std.specs.Str.{is_utf8}
use Rattle.percent_encoding.specs.Percent.{percent_decode}
use Rattle.base_json.specs.Printing.{escaped}
use Rattle.base_grammar.specs.Tokens.{is_letter}
use Rattle.base_value.specs.Id.{number_in}
use Rattle.base_value.specs.Numerals.{exactly, is_digit, is_negative, is_numeral, is_unsigned_numeral, of_digits, size_of, without_sign}
use Rattle.base_value.specs.Printing.{print_places, print_size}
use Rattle.base_value.specs.Reading.{read_number, read_truth}
use Rattle.model.specs.Bodies.{body_of}
use Rattle.model.specs.Deletes.{cascade}
use Rattle.model.specs.Given.{record_by_value}
use Rattle.model.specs.Jobs.{job_step}
use Rattle.model.specs.Members.{assignments, body_in, principal_in}
use Rattle.model.specs.Names.{is_child_name, is_custom_name, is_stem}
use Rattle.model.specs.Organisations.{is_secret}
use Rattle.model.specs.RowsJson.{found_json}
use Rattle.model.specs.RuleFormulas.{formula_of}
use Rattle.model.specs.Sound.{is_name}
use Rattle.model.proofs.Computing.{computing}

unfoldable pub requesting : Unit {0}
unfolding computing fmt_digits is_utf8 percent_decode escaped is_letter number_in exactly is_digit is_negative is_numeral is_unsigned_numeral of_digits size_of without_sign print_places print_size read_number read_truth body_of cascade record_by_value job_step assignments body_in principal_in is_child_name is_custom_name is_stem is_secret found_json formula_of is_name
requesting = tt
