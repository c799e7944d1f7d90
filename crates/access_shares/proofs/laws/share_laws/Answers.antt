use Rattle.access_shares.proofs.ShareRows as rows
use Rattle.access_shares.proofs.laws.share_laws.Goals as goal

pub returns : goal.returns
returns c = record {
  share = λ p t s k e. rows.share_rest c.principal_laws.ensures.same p t s k e;
  no_share = λ p t s k e. rows.no_share_rest c.principal_laws.ensures.same p t s k e;
  shared = λ p t org s. rows.shared c.principal_laws.ensures.same p t org s;
  unshared = λ p t org s. rows.unshared c.principal_laws.ensures.same p t org s;
}
