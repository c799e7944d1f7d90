use Rattle.std.proofs.Common.{refl}
use Rattle.model.proofs.Requesting.{requesting}
use Rattle.model_requests.proofs.request_rows.path_request_rows.Goals as goal

pub returns : goal.returns
unfolding requesting
returns c =
    record {
      row = refl;
      is_null = refl;
      is_not_x = refl;
    }
