use Rattle.std.proofs.Common.{refl}
use Rattle.model.proofs.Requesting.{requesting}
use Rattle.model_requests.proofs.record_rows.validation_rows.Goals as goal

pub returns : goal.returns
unfolding requesting
returns c =
    record {
      first = refl;
      second = refl;
      third = refl;
      readable = refl;
      malformed = refl;
    }
