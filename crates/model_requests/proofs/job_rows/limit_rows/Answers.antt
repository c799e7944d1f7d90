use Rattle.std.proofs.Common.{refl}
use Rattle.model.proofs.Requesting.{requesting}
use Rattle.model_requests.proofs.job_rows.limit_rows.Goals as goal

pub returns : goal.returns
unfolding requesting
returns c =
    record {
      members = refl;
      one_member_more = refl;
      shares = refl;
      one_share_more = refl;
      one_level_more = refl;
    }
