use Rattle.carmuguur.proofs.Unopened.{status_is, status_memory}
use Rattle.carmuguur.proofs.run_in_memory.Goals as goal

pub returns-in-Ok : goal.returns-in-Ok
returns-in-Ok g c = status_is _ _ (c.run_laws.ensures.none _ _ c.run.ensures.status)

pub returns-in-Err : goal.returns-in-Err
returns-in-Err g c = status_memory _
