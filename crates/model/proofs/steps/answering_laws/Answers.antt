use Rattle.model.proofs.Alone.{alone}
use Rattle.model.proofs.Stepped.{called, other_stays, own_alone, same_put, uncalled, user_of}
use Rattle.model.proofs.steps.answering_laws.Goals as goal

pub returns : goal.returns
returns c = record {
  called = λ answers w m now caller e. called answers w m now caller e;
  uncalled = λ answers w m now e. uncalled answers w m now e;
  user = λ w m caller e. user_of w m caller e;
  same = λ w org t e. same_put w org t e;
  own = λ answers w v m now org e same. own_alone answers m now org w v e same;
  isolated = λ answers org qs w v same. alone answers org qs w v same;
  other = λ answers w m now org no. other_stays answers m now org w no;
}
