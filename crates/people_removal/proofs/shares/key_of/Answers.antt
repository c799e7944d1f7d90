use Rattle.std.proofs.Common.{arith, IsTrue, List, ℕ, subst}
use Rattle.base_value.specs.Id.{is_id}
use Rattle.people_removal.proofs.Scanned.{principal_fits}
use Rattle.people_removal.proofs.shares.key_of.Goals as goal

pub returns-clause-fits : goal.returns-clause-fits
returns-clause-fits c = (omega arith, (tt, (c.as_bytes.ensures.id, principal_fits c.args.row.to (subst (λ (i : List ℕ). IsTrue (is_id i)) c.id.ensures c.as_bytes-2.ensures.id))))
