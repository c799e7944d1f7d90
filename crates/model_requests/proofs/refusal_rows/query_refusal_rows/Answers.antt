use Rattle.std.proofs.Common.{refl}
use Rattle.model.proofs.Requesting.{requesting}
use Rattle.model_requests.proofs.refusal_rows.query_refusal_rows.Goals as goal

pub returns : goal.returns
unfolding requesting
returns c =
    record {
      unknown = refl;
      twice = refl;
      operator = refl;
      no_id = refl;
      names_first = refl;
      cleared = refl;
    }
