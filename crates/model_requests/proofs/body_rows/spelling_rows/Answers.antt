use Rattle.std.proofs.Common.{refl}
use Rattle.model.proofs.Requesting.{requesting}
use Rattle.model_requests.proofs.body_rows.spelling_rows.Goals as goal

pub returns : goal.returns
unfolding requesting
returns c =
    record {
      no_colon = refl;
      other_kind = refl;
      no_id = refl;
      number = refl;
      half = refl;
      too_long = refl;
      ignored = refl;
      same_name = refl;
      key = refl;
      no_key = refl;
      no_utf8 = refl;
    }
