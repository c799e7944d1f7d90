use Rattle.model.specs.Objects.{is_of}
use Rattle.model.proofs.Rising.{kept_rise, they_rise}
use Rattle.model.proofs.Switching.{copied, switches}
use Rattle.model.proofs.steps.change_laws.Goals as goal

pub returns : goal.returns
returns c =
    record {
      copied = λ t j s there b. copied t j b.phase (kept_rise (is_of j.object) t.records (they_rise t.records s.records.rise)) b.converts there b.cursor;
      switched = λ t j s there b. switches t j b.phase (kept_rise (is_of j.object) t.records (they_rise t.records s.records.rise)) b.converts there b.cursor;
    }
