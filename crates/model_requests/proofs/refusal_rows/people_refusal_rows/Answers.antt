use Rattle.std.proofs.Common.{refl}
use Rattle.model.proofs.Requesting.{requesting}
use Rattle.model_requests.proofs.refusal_rows.people_refusal_rows.Goals as goal

pub returns : goal.returns
unfolding requesting
returns c =
    record {
      circle = refl;
      itself = refl;
      no_role = refl;
      no_id = refl;
      no_user = refl;
      no_group = refl;
      last = refl;
      left = refl;
      unnamed = refl;
      no_share = refl;
      no_principal = refl;
      ended = refl;
    }
