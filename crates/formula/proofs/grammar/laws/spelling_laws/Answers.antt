use Rattle.formula.proofs.Spelled.{spelled, computed, refused, one_place}
use Rattle.formula.proofs.grammar.laws.spelling_laws.Goals as goal

pub returns : goal.returns
returns c = record { spelled = spelled; computed = computed; refused = refused; one_place = one_place }
