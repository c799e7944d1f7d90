use Rattle.std.proofs.Common.{refl}
use lib.Utf8.{encode}
use Rattle.std.specs.Fmt.{digits}
use Rattle.std.specs.Str.{chars, is_utf8}
use Rattle.soql.proofs.Computing.{reading_queries}
use Rattle.base_value.specs.Numerals.{is_digit}
use Rattle.model.specs.Organisations.{is_secret}
use Rattle.model.specs.Sound.{is_name}
use Rattle.base_value.specs.Digits as numbers
use Rattle.base_value.specs.Id.{id_in, made, number62, number_in}
use Rattle.platform.proofs.laws.printed_rows.Goals as goal

pub returns : goal.returns
unfolding reading_queries digits chars is_utf8 encode made id_in number62 number_in numbers.digits is_digit is_name is_secret
returns c = record { spelled = refl; first = refl; second = refl; name = refl; secret = refl; user = refl; nobody = refl }
