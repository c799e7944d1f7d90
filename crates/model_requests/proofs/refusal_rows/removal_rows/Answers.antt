use Rattle.std.proofs.Common.{refl}
use Rattle.model.proofs.Requesting.{requesting}
use Rattle.model_requests.proofs.refusal_rows.removal_rows.Goals as goal

pub returns : goal.returns
unfolding requesting
returns c =
    record {
      of_user = refl;
      parent = refl;
      member = refl;
      nested = refl;
      source = refl;
      shared_to = refl;
      share = refl;
      ended = refl;
    }
