use Rattle.std.proofs.Common.{refl}
use Rattle.model.proofs.Computing.{computing}
use Rattle.model.proofs.level_rows.rule_rows.Goals as goal

pub returns : goal.returns
unfolding computing
returns c =
    record {
      in_inner_group = refl;
      in_no_group = refl;
      in_role = refl;
      not_in_upper_role = refl;
      in_subordinates = refl;
      at_subordinates = refl;
      reached_above = refl;
      not_reached = refl;
      open_deal = refl;
      shut_deal = refl;
      building = refl;
      leaving = refl;
      no_formula = refl;
      owned_below = refl;
      owned_by_others = refl;
    }
