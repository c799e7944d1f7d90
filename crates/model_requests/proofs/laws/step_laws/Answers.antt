use Rattle.model_requests.specs.Answered.{answered}
use Rattle.model_requests.specs.Step.{step}
use Rattle.model_requests.proofs.Answered.{answered_in}
use Rattle.model_requests.proofs.laws.step_laws.Goals as goal

pub returns : goal.returns
unfolding step
returns c = record {
  called = λ w m now caller e. c.answering_laws.ensures.called answered w m now caller e;
  uncalled = λ w m now e. c.answering_laws.ensures.uncalled answered w m now e;
  user = λ w m caller e. c.answering_laws.ensures.user w m caller e;
  answered = λ w m now caller t u is. answered_in w m now caller t u is;
  same = λ w org t e. c.answering_laws.ensures.same w org t e;
  own = λ w v m now org e same. c.answering_laws.ensures.own answered w v m now org e same;
  other = λ w m now org no. c.answering_laws.ensures.other answered w m now org no;
}
