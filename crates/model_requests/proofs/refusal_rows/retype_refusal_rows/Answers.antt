use Rattle.std.proofs.Common.{refl}
use Rattle.model.proofs.Requesting.{requesting}
use Rattle.model_requests.proofs.refusal_rows.retype_refusal_rows.Goals as goal

pub returns : goal.returns
unfolding requesting
returns c =
    record {
      in_use = refl;
      unique = refl;
      not_custom = refl;
      unknown = refl;
      busy = refl;
    }
