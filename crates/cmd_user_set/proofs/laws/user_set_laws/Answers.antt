use Rattle.cmd_user_set.proofs.Known.{caller_so, others_so, users_so}
use Rattle.cmd_user_set.proofs.laws.user_set_laws.Goals as goal

pub returns : goal.returns
returns c =
    record {
      users = λ w next org user secret ids h. users_so w next org user secret ids h;
      caller = λ w next org user secret ids h. caller_so w next org user secret ids h (c.tenant_laws.ensures.put w);
      others = λ w next org user secret ids h. others_so w next org user secret ids h (c.tenant_laws.ensures.others w);
    }
