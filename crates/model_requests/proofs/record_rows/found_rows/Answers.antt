use Rattle.std.proofs.Common.{refl}
use Rattle.model.proofs.Requesting.{requesting}
use Rattle.model_requests.proofs.record_rows.found_rows.Goals as goal

pub returns : goal.returns
unfolding requesting
returns c =
    record {
      found = refl;
      referred = refl;
      none = refl;
      is_null = refl;
      too_long = refl;
    }
