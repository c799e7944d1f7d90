use Rattle.std.proofs.Common.{refl}
use Rattle.model.proofs.Computing.{computing}
use Rattle.model.proofs.query_rows.path_rows.Goals as goal

pub returns : goal.returns
unfolding computing
returns c =
    record {
      deals = refl;
      no_deals = refl;
      reference = refl;
      hidden_parent = refl;
      parent = refl;
      two_steps_up = refl;
      hidden_on_the_way = refl;
      owner = refl;
      row = refl;
      null_parent = refl;
      not_the_parent = refl;
      found_by_parent = refl;
      children = refl;
      last_child = refl;
    }
