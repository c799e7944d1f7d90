use Rattle.query_plan.proofs.Branching.{as_many, records_stay}
use Rattle.query_plan.proofs.paths.branches.branch_laws.Goals as goal

pub returns-clause-later : goal.returns-clause-later
returns-clause-later c a r branches more at among = records_stay a r branches more at among

pub returns-clause-many : goal.returns-clause-many
returns-clause-many c a r branches = as_many a r branches
