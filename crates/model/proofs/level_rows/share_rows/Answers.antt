use Rattle.std.proofs.Common.{refl}
use Rattle.model.proofs.Computing.{computing}
use Rattle.model.proofs.level_rows.share_rows.Goals as goal

pub returns : goal.returns
unfolding computing
returns c =
    record {
      edit = refl;
      above_a_member = refl;
      below_no_member = refl;
      of_one_record = refl;
      given_away = refl;
      detail_edited = refl;
      detail_of_detail = refl;
      detail_read = refl;
      detail_unseen = refl;
      detail_owned = refl;
    }
