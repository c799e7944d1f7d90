use Rattle.std.proofs.Common.{refl}
use Rattle.base_value.specs.Numerals.{is_digit}
use Rattle.base_json.specs.Printing.{escaped}
use Rattle.base_json.specs.Reading.{after_word, element, named, text, value, value_of}
use Rattle.base_json.proofs.laws.law_rows.Goals as goal

pub returns-clause-printed : goal.returns-clause-printed
unfolding escaped
returns-clause-printed c = refl

pub returns-clause-read : goal.returns-clause-read
unfolding text element value value_of named after_word is_digit
returns-clause-read c = refl
