use Rattle.std.proofs.Common.{[], refl}
use Rattle.std.specs.Prelude.{codes}
use Rattle.sha2.specs.Sha256.{sha256}
use Rattle.std.specs.Char.{encode_utf8}
use Rattle.std.specs.Str.{chars}
use Rattle.base_lemmas.proofs.Texts.{bytes_eq-self as itself}
use Rattle.base_json.specs.Printing.{escaped}
use Rattle.base_value.specs.Digits.{digits}
use Rattle.base_value.specs.Id.{made, number62, number_in}
use Rattle.model.specs.Callers.{cut}
use Rattle.base_value.specs.Id.{id_in}
use Rattle.model.specs.Bodies.{body_of}
use Rattle.model.specs.Organisations.{administrator, fresh, is_secret, with_org}
use Rattle.model.specs.Sound.{is_name}
use Rattle.model.proofs.Called.{found}
use Rattle.model.proofs.laws.model_rows.Goals as goal

pub returns-clause-org : goal.returns-clause-org
unfolding made digits
returns-clause-org c = refl

pub returns-clause-first_user : goal.returns-clause-first_user
unfolding made digits
returns-clause-first_user c = refl

pub returns-clause-key : goal.returns-clause-key
unfolding cut id_in number_in number62
returns-clause-key c = refl

pub returns-clause-short_key : goal.returns-clause-short_key
unfolding cut id_in number_in number62
returns-clause-short_key c = refl

pub returns-clause-foreign_key : goal.returns-clause-foreign_key
unfolding cut id_in number_in number62
returns-clause-foreign_key c = refl

pub returns-clause-caller : goal.returns-clause-caller
unfolding cut id_in number_in number62 made digits
returns-clause-caller c = found (with_org [] (codes "Acme") (sha256 (codes "abc!d"))) (codes "00D000000000001!005000000000000AAA!abc!d") (record { org = 1; user = codes "005000000000000"; secret = codes "abc!d" }) (fresh (codes "Acme") (sha256 (codes "abc!d"))) (administrator (codes "Acme") (sha256 (codes "abc!d"))) refl refl refl (itself (sha256 (codes "abc!d")))

pub returns-clause-no_name : goal.returns-clause-no_name
unfolding is_name is_secret
returns-clause-no_name c = refl

pub returns-clause-short_secret : goal.returns-clause-short_secret
unfolding is_name is_secret
returns-clause-short_secret c = refl

pub returns-clause-accepted : goal.returns-clause-accepted
unfolding is_name is_secret
returns-clause-accepted c = refl

pub returns-clause-expired : goal.returns-clause-expired
unfolding body_of chars encode_utf8 escaped
returns-clause-expired c = refl

pub returns-clause-nothing_there : goal.returns-clause-nothing_there
unfolding body_of chars encode_utf8 escaped
returns-clause-nothing_there c = refl

pub returns-clause-mark_within : goal.returns-clause-mark_within
unfolding body_of chars encode_utf8 escaped
returns-clause-mark_within c = refl

pub returns-clause-damaged : goal.returns-clause-damaged
unfolding body_of chars encode_utf8 escaped
returns-clause-damaged c = refl
