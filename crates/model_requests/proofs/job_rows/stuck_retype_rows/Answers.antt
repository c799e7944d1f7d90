use Rattle.std.proofs.Common.{refl}
use Rattle.model.proofs.Requesting.{requesting}
use Rattle.model_requests.proofs.job_rows.stuck_retype_rows.Goals as goal

pub returns : goal.returns
unfolding requesting
returns c =
    record {
      failed = refl;
      still_text = refl;
      busy = refl;
      none = refl;
    }
