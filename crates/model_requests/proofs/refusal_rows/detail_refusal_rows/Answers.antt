use Rattle.std.proofs.Common.{refl}
use Rattle.model.proofs.Requesting.{requesting}
use Rattle.model_requests.proofs.refusal_rows.detail_refusal_rows.Goals as goal

pub returns : goal.returns
unfolding requesting
returns c =
    record {
      made = refl;
      no_master = refl;
      not_edited = refl;
      other_master = refl;
      same_master = refl;
      no_owner = refl;
    }
