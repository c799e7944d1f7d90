use Rattle.std.proofs.Common.{refl}
use Rattle.model.proofs.Requesting.{requesting}
use Rattle.model_requests.proofs.job_rows.retype_rows.Goals as goal

pub returns : goal.returns
unfolding requesting
returns c =
    record {
      begun = refl;
      first = refl;
      second = refl;
      conflict = refl;
      third = refl;
      fourth = refl;
      clearing = refl;
      done = refl;
    }
