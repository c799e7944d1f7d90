use Rattle.carmuguur.proofs.Unopened.{status_is}
use Rattle.carmuguur.proofs.run_over.Goals as goal

pub returns-in-Some : goal.returns-in-Some
returns-in-Some g c = status_is _ _ (c.run_laws.ensures.none _ _ c.run_in_file.ensures.status)
