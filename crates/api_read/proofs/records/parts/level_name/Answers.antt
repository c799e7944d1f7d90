use Rattle.std.proofs.Common.{ap, sym}
use Rattle.std.specs.Str.{chars}
use Rattle.model_reads.specs.SettingsJson.{level_name}
use Rattle.api_read.proofs.records.parts.level_name.Goals as goal

pub returns-in-Nothing : goal.returns-in-Nothing
unfolding chars
returns-in-Nothing c = ap level_name (sym c.in-Nothing.is)

pub returns-in-Read : goal.returns-in-Read
unfolding chars
returns-in-Read c = ap level_name (sym c.in-Read.is)

pub returns-in-Edit : goal.returns-in-Edit
unfolding chars
returns-in-Edit c = ap level_name (sym c.in-Edit.is)

pub returns-in-Full : goal.returns-in-Full
unfolding chars
returns-in-Full c = ap level_name (sym c.in-Full.is)
