use Rattle.model.specs.Objects.{is_of}
use Rattle.model.proofs.Rising.{already, kept_rise, they_rise}
use Rattle.model.proofs.reading.record_laws.Goals as goal

pub returns : goal.returns
returns c = record { rise = λ t n s. kept_rise (is_of n) t.records (they_rise t.records s.records.rise); already = already }
