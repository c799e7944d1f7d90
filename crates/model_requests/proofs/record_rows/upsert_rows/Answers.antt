use Rattle.std.proofs.Common.{refl}
use Rattle.model.proofs.Requesting.{requesting}
use Rattle.model_requests.proofs.record_rows.upsert_rows.Goals as goal

pub returns : goal.returns
unfolding requesting
returns c =
    record {
      made = refl;
      kept = refl;
      no_key = refl;
      no_text = refl;
      other_key = refl;
    }
