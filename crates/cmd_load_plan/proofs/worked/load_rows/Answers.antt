use Rattle.std.proofs.Common.{refl}
use Rattle.csv.specs.Writing.{escaped, fields_text, is_blank}
use Rattle.cmd_load_plan.proofs.Computing.{computing}
use Rattle.cmd_load_plan.proofs.worked.load_rows.Goals as goal

pub returns : goal.returns
unfolding computing escaped fields_text is_blank
returns c =
    record {
      upserts = refl;
      creates = refl;
      parents = refl;
    }
