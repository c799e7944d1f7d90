use Rattle.std.proofs.Common.{refl}
use Rattle.model.proofs.Computing.{computing}
use Rattle.model.proofs.query_rows.condition_rows.Goals as goal

pub returns : goal.returns
unfolding computing
returns c =
    record {
      null = refl;
      not_equal_null = refl;
      not_null = refl;
      less_than_null = refl;
      null_at_least_null = refl;
      empty_is_null = refl;
      folded = refl;
      id = refl;
      another_case = refl;
      number = refl;
      today = refl;
      yesterday = refl;
      tomorrow = refl;
      before_1970 = refl;
      like = refl;
      null_is_like_nothing = refl;
      among = refl;
      not_among = refl;
      all = refl;
      some = refl;
      not = refl;
    }
