use Rattle.base_grammar.proofs.Meets.{meets}
use Rattle.base_grammar.proofs.Unique.{one_list}
use Rattle.base_grammar.proofs.laws.token_laws.Goals as goal

pub returns : goal.returns
returns c = record { meets = λ lexis cs. meets lexis 0 cs; one_list = λ lexis cs ts us. one_list lexis 0 cs ts us }
