use Rattle.soql.proofs.Spelled.{spelled, computed, refused, one_place}
use Rattle.soql.proofs.grammar.laws.spelling_laws.Goals as goal

pub returns : goal.returns
returns c = record { spelled = spelled; computed = computed; refused = refused; one_place = one_place }
