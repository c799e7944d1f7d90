use Rattle.std.proofs.Common.{refl}
use Rattle.model.proofs.Requesting.{requesting}
use Rattle.model_requests.proofs.request_rows.object_request_rows.Goals as goal

pub returns : goal.returns
unfolding requesting
returns c =
    record {
      added = refl;
      no_rows = refl;
      again = refl;
    }
