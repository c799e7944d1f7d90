use Rattle.std.proofs.Common.{refl}
use Rattle.model.proofs.Computing.{computing}
use Rattle.model.proofs.query_rows.sorted_rows.Goals as goal

pub returns : goal.returns
unfolding computing
returns c =
    record {
      by_id = refl;
      nulls_first = refl;
      nulls_last = refl;
      descending = refl;
      descending_nulls_last = refl;
      two_keys = refl;
      offset_then_limit = refl;
      past_the_end = refl;
      no_rows = refl;
    }
