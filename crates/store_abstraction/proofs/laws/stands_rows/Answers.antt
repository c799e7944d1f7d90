use Rattle.std.proofs.Common.{refl}
use lib.Utf8.{encode}
use Rattle.store_codec.specs.Plain.{number16, number32, number64}
use Rattle.store_abstraction.specs.Stands.{row_at, row_in}
use Rattle.base_value.specs.Digits.{digits}
use Rattle.base_value.specs.Id.{made}
use Rattle.store_abstraction.proofs.laws.stands_rows.Goals as goal

pub returns : goal.returns
unfolding row_at row_in number16 number32 number64 made digits encode
returns c = record { version = λ digest. refl; org = λ digest. refl; user = λ digest. refl; other = λ digest. refl; closed = refl }
