use Rattle.std.proofs.Common.{refl}
use Rattle.model.proofs.Requesting.{requesting}
use Rattle.model_requests.proofs.request_rows.share_request_rows.Goals as goal

pub returns : goal.returns
unfolding requesting
returns c =
    record {
      shared = refl;
      renamed = refl;
      not_deleted = refl;
      given = refl;
      not_seen = refl;
      not_kept = refl;
    }
