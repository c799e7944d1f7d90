use Rattle.model.proofs.Sorted.{sort_is}
use Rattle.query_exec.specs.Ranks.{ranked_cmp, ranked_total}
use Rattle.query_exec.proofs.sorted.put_in_order.Goals as goal

pub returns-clause-sorts : goal.returns-clause-sorts
returns-clause-sorts g c apart = sort_is (ranked_cmp g.R.Ord.cmp) (ranked_total g.met.R.Ord.total) _ _ apart c.sort_unstable.ensures.permutation c.sort_unstable.ensures.sorted
