use Rattle.std.proofs.Common.{ap, sym}
use Rattle.std.specs.Str.{chars}
use Rattle.model_reads.specs.PeopleJson.{kind_word}
use Rattle.api_read.proofs.records.shares.kind_word.Goals as goal

pub returns-in-User : goal.returns-in-User
unfolding chars
returns-in-User c = ap kind_word (sym c.in-User.is)

pub returns-in-Role : goal.returns-in-Role
unfolding chars
returns-in-Role c = ap kind_word (sym c.in-Role.is)

pub returns-in-Subordinates : goal.returns-in-Subordinates
unfolding chars
returns-in-Subordinates c = ap kind_word (sym c.in-Subordinates.is)

pub returns-in-Group : goal.returns-in-Group
unfolding chars
returns-in-Group c = ap kind_word (sym c.in-Group.is)
