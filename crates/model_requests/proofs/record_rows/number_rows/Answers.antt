use Rattle.std.proofs.Common.{refl}
use Rattle.model.proofs.Requesting.{requesting}
use Rattle.model_requests.proofs.record_rows.number_rows.Goals as goal

pub returns : goal.returns
unfolding requesting
returns c =
    record {
      exact = refl;
      too_large = refl;
      too_small = refl;
      text = refl;
      truth = refl;
      no_truth = refl;
    }
