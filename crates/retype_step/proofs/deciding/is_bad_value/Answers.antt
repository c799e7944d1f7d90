use Rattle.retype_step.proofs.Decided.{bad_not, bad_so}
use Rattle.retype_step.proofs.deciding.is_bad_value.Goals as goal
use Rattle.retype_step.proofs.deciding.is_bad_value.Goals.{in-Ok, in-Err-NotConvertible, in-Err-Memory}
use Rattle.base_value.specs.Conversion.{convert}

pub returns : goal.returns
returns c = elim c.match-convert.branch [
  | in-Ok w ↦ rw w.result-is (bad_not (convert c.args.to.now c.args.value.now) _ w.in-Ok.ensures)
  | in-Err-NotConvertible w ↦ rw w.result-is (bad_so (convert c.args.to.now c.args.value.now) w.in-Err-NotConvertible.field-0 w.in-Err-NotConvertible.field-0-is w.in-Err-NotConvertible.ensures)
  | in-Err-Memory w ↦ rw w.result-is tt
]
