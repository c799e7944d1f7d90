use Rattle.std.proofs.Common.{refl}
use Rattle.model.proofs.Requesting.{requesting}
use Rattle.model_requests.proofs.refusal_rows.edit_refusal_rows.Goals as goal

pub returns : goal.returns
unfolding requesting
returns c =
    record {
      unknown = refl;
      not_given = refl;
      first_value = refl;
      too_long = refl;
      not_full = refl;
      no_owner = refl;
      unreadable = refl;
    }
