use Rattle.base_value.proofs.ValueLaws.{read_valid, printed_reads, print_scalars, printable, converted_valid}
use Rattle.base_value.proofs.ValueSizes.{fits, plain, short}
use Rattle.base_value.proofs.laws.value_laws.Goals as goal

pub returns-clause-read : goal.returns-clause-read
returns-clause-read c kind text v s h = read_valid kind text v s h

pub returns-clause-printed : goal.returns-clause-printed
returns-clause-printed c kind v t h = printed_reads kind v t h

pub returns-clause-printable : goal.returns-clause-printable
returns-clause-printable c kind v h = printable kind v h

pub returns-clause-converted : goal.returns-clause-converted
returns-clause-converted c from to v w t h e = converted_valid from to v w t h e

pub returns-clause-fits : goal.returns-clause-fits
returns-clause-fits c kind v t h = fits kind v t h

pub returns-clause-short : goal.returns-clause-short
returns-clause-short c kind v t h = short kind v t h

pub returns-clause-scalars : goal.returns-clause-scalars
returns-clause-scalars c kind v t h = print_scalars kind v t h

pub returns-clause-plain : goal.returns-clause-plain
returns-clause-plain c kind v e h = plain kind v e h
