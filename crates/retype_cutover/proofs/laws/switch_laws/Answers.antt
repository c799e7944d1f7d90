use Rattle.store_abstraction.proofs.MetadataRows.{job_fits}
use Rattle.retype_cutover.proofs.Taking as taking
use Rattle.retype_cutover.proofs.laws.switch_laws.Goals as goal

pub returns-clause-begins : goal.returns-clause-begins
returns-clause-begins c org q t n i s to lo sound fits idle low free after =
    taking.begins c.table_laws.ensures.equal org q t lo sound fits n i s to idle low free after

pub returns-clause-stops : goal.returns-clause-stops
returns-clause-stops c org q t j x failed lo sound fits is copy ended after =
    taking.stops c.table_laws.ensures.equal org q t lo sound fits j is copy c.value_laws.ensures.converted x failed ended after

pub returns-clause-switches : goal.returns-clause-switches
returns-clause-switches c org q t j o f lo sound fits is copy empty here there after =
    taking.switches c.table_laws.ensures.equal org q t lo sound fits j is copy empty o f here there after

pub returns-clause-finishes : goal.returns-clause-finishes
returns-clause-finishes c org q t j lo sound fits is clear empty after =
    taking.finishes c.table_laws.ensures.equal org q t lo sound fits j is clear empty after

pub returns-clause-fits : goal.returns-clause-fits
returns-clause-fits c org q t j lo sound fits is = job_fits c.id_laws.ensures.made org q t j lo sound fits is

pub returns-clause-there : goal.returns-clause-there
returns-clause-there c t j sound is = taking.its_field t j sound is
