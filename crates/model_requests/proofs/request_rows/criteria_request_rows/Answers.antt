use Rattle.std.proofs.Common.{refl}
use Rattle.model.proofs.Requesting.{requesting}
use Rattle.model_requests.proofs.request_rows.criteria_request_rows.Goals as goal

pub returns : goal.returns
unfolding requesting
returns c =
    record {
      shown = refl;
      not_edited = refl;
      shut = refl;
      hidden = refl;
    }
