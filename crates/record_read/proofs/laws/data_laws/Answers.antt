use Rattle.record_read.proofs.Reading.{object_kinds, object_typed, row_reads}
use Rattle.record_read.proofs.RecordFits.{record_fits}
use Rattle.record_read.proofs.Sound.{values_printable}
use Rattle.record_read.proofs.Rewriting.{row_rewritten}
use Rattle.record_read.proofs.Writing.{row_made}
use Rattle.record_read.proofs.laws.data_laws.Goals as goal

pub returns-clause-read : goal.returns-clause-read
returns-clause-read c org n p t o r sound fits is has of = row_reads c.value_laws.ensures.printed org n p t o r sound fits is has of

pub returns-clause-made : goal.returns-clause-made
returns-clause-made c org n p t o r none printable = row_made org n p t o r none printable

pub returns-clause-printable : goal.returns-clause-printable
returns-clause-printable c t r sound has = values_printable c.value_laws.ensures.printable t r sound has

pub returns-clause-fits : goal.returns-clause-fits
returns-clause-fits c org n p t o r lo sound fits is has of = record_fits c.id_laws.ensures.made c.value_laws.ensures.converted (record { short = c.value_laws.ensures.short; scalars = c.value_laws.ensures.scalars }) org n p t o r lo sound fits is has of

pub returns-clause-rewritten : goal.returns-clause-rewritten
returns-clause-rewritten c org n p t o q r same printable = row_rewritten org n p t o q r same printable

pub returns-clause-typed : goal.returns-clause-typed
returns-clause-typed c org n p t o sound is = object_typed org n p t o sound is

pub returns-clause-kinds : goal.returns-clause-kinds
returns-clause-kinds c org n p t o = object_kinds org n p t o
