use Rattle.std.proofs.Common.{◌*◌, length}
use Rattle.query_related.proofs.Taking.{UnderWay}
use Rattle.query_related.proofs.taken.taken_children.Given as goal

abbrev pub invariant-records : goal.invariant-records
invariant-records g l = UnderWay g.K.Keeper.state l.fn.layouts (g.R.Rights.whose l.fn.rights) l.fn.choice l.fn.records (5 * length l.fn.choice.branches) l.fn.draft l.records l.gathered.items l.draft

abbrev pub decreases-records : goal.decreases-records
decreases-records g l = length l.records
