use Rattle.model_invariant.proofs.FreshIds.{fresh, unnamed}
use Rattle.model_invariant.proofs.NumbersMean.{all_numbers_differ, differing_numbers}
use Rattle.model_invariant.proofs.SoundParts.{parts}
use Rattle.model_invariant.proofs.numbers.number_laws.Goals as goal

pub returns-clause-differ : goal.returns-clause-differ
returns-clause-differ c = λ t s. all_numbers_differ t (parts s)

pub returns-clause-one : goal.returns-clause-one
returns-clause-one c = differing_numbers

pub returns-clause-unnamed : goal.returns-clause-unnamed
returns-clause-unnamed c = λ t prefix s size. unnamed (record { ordered = c.id_laws.ensures.ordered; number = c.id_laws.ensures.number }) t (parts s) prefix size

pub returns-clause-fresh : goal.returns-clause-fresh
returns-clause-fresh c = λ t n o s at y m. fresh (record { ordered = c.id_laws.ensures.ordered; number = c.id_laws.ensures.number }) t (parts s) n o at y m
