use Rattle.std.proofs.Common.{refl}
use Rattle.model.proofs.Requesting.{requesting}
use Rattle.model_requests.proofs.record_rows.delete_rows.Goals as goal

pub returns : goal.returns
unfolding requesting
returns c =
    record {
      held = refl;
      deleted = refl;
      lines_gone = refl;
    }
