use Rattle.std.proofs.Common.{refl}
use Rattle.model.proofs.Requesting.{requesting}
use Rattle.model_requests.proofs.request_rows.people_request_rows.Goals as goal

pub returns : goal.returns
unfolding requesting
returns c =
    record {
      made = refl;
      seen_above = refl;
      unseen_beside = refl;
      hidden = refl;
      renamed = refl;
      deleted = refl;
    }
