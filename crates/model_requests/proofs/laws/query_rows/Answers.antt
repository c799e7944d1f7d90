use Rattle.std.proofs.Common.{refl}
use Rattle.soql.proofs.Computing.{reading_queries}
use Rattle.model_requests.proofs.laws.query_rows.Goals as goal

pub returns : goal.returns
unfolding reading_queries
returns c =
    record {
      flat = refl;
      path = refl;
      test = refl;
      path_test = refl;
      order = refl;
      path_order = refl;
      child = refl;
      word = refl;
    }
