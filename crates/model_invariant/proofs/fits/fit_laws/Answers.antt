use Rattle.model_invariant.proofs.BodyTexts.{body_spells}
use Rattle.model_invariant.proofs.GivenFits.{key_fits, spelled_fits}
use Rattle.model_invariant.proofs.SoundParts.{parts}
use Rattle.model_invariant.proofs.fits.fit_laws.Goals as goal

pub returns-clause-given : goal.returns-clause-given
returns-clause-given c = spelled_fits c.value_laws.ensures.read

pub returns-clause-key : goal.returns-clause-key
returns-clause-key c = λ a key text given s. key_fits c.value_laws.ensures.read a key text given (parts s)

pub returns-clause-spelled : goal.returns-clause-spelled
returns-clause-spelled c = body_spells c.json_laws.ensures.spelled
