use Rattle.platform.proofs.Statuses.{none_by, served_by}
use Rattle.platform.proofs.laws.run_laws.Goals as goal

pub returns : goal.returns
returns c = record {
  none = none_by;
  served = λ command status m w serving own version stands no72 no73 no74 no75.
      served_by status m w (c.stands_laws.ensures.known m w stands) (c.stands_laws.ensures.one_version m) stands no72 no73 no74 no75 version command serving own;
}
