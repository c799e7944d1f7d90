use Rattle.std.proofs.Common.{rules}
use Rattle.std.specs.Str.{chars}
use Rattle.api_read.proofs.people.kind_word.Goals as goal

pub returns-in-User : goal.returns-in-User
unfolding chars
returns-in-User c = search rules

pub returns-in-Role : goal.returns-in-Role
unfolding chars
returns-in-Role c = search rules

pub returns-in-Subordinates : goal.returns-in-Subordinates
unfolding chars
returns-in-Subordinates c = search rules

pub returns-in-Group : goal.returns-in-Group
unfolding chars
returns-in-Group c = search rules
