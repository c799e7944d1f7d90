use Rattle.std.proofs.Common.{sym}
use Rattle.model.proofs.JobUsers.{users_kept}
use Rattle.model.proofs.Stepped.{put_found, put_other, put_twice}
use Rattle.model.proofs.steps.tenant_laws.Goals as goal

pub returns : goal.returns
returns c =
    record {
      put = λ w n t u at. put_found w n u t at;
      others = λ w n m u apart. put_other w n m u (λ e. apart (sym e));
      twice = put_twice;
      users = users_kept;
    }
