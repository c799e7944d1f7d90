use Rattle.std.proofs.Common.{refl}
use Rattle.cmd_load_plan.proofs.Computing.{computing}
use Rattle.cmd_load_plan.proofs.worked.heading_rows.Goals as goal

pub returns : goal.returns
unfolding computing
returns c =
    record {
      key = refl;
      no_key = refl;
      parent = refl;
      unknown = refl;
      unwritable = refl;
      again = refl;
      given_before = refl;
      not_unique = refl;
    }
