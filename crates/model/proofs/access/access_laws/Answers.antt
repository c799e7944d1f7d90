use Rattle.model.proofs.Agree.{above_agrees, below_agrees, below_decides, member_agrees, reaches_agrees}
use Rattle.model.proofs.access.access_laws.Goals as goal

pub returns : goal.returns
returns c =
    record {
      depth = λ parent all a b leads. below_decides parent b all leads a;
      below = below_agrees;
      above = above_agrees;
      member = member_agrees c.principal_laws.ensures.same;
      reaches = reaches_agrees c.principal_laws.ensures.same;
    }
