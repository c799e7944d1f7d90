use Rattle.model_invariant.proofs.Steps.{copying, switching}
use Rattle.model_invariant.proofs.progress.laws.course_laws.Goals as goal

pub returns-clause-copying : goal.returns-clause-copying
returns-clause-copying c t j n sound is copies fresh fine h = copying t j sound is copies fresh fine n h

pub returns-clause-switch : goal.returns-clause-switch
returns-clause-switch c t j n sound is copies fresh fine all h = switching t j sound is copies fresh fine n all h
