use Rattle.std.proofs.Common.{refl}
use Rattle.model.proofs.Computing.{computing}
use Rattle.model.proofs.level_rows.hierarchy_rows.Goals as goal

pub returns : goal.returns
unfolding computing
returns c =
    record {
      ids = refl;
      number = refl;
      two_steps = refl;
      beside = refl;
      itself = refl;
      upwards = refl;
      administrator = refl;
      owner = refl;
      above = refl;
      other = refl;
      below = refl;
      seen_above = refl;
      unseen = refl;
      apart_owner = refl;
      apart_above = refl;
      apart_administrator = refl;
      apart_detail = refl;
      above_members = refl;
      one_member = refl;
      inner_member = refl;
      read_by_all = refl;
      edited_by_all = refl;
      not_there = refl;
    }
