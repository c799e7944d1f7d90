use Rattle.std.proofs.Common.{ap, sym}
use Rattle.std.specs.Str.{chars}
use Rattle.people_edit.specs.inner.Drawing.{kind_member}
use Rattle.people_edit.proofs.edits.kind.Kind.member.Goals as goal

pub returns-in-User : goal.returns-in-User
unfolding chars
returns-in-User c = sym (ap kind_member c.in-User.is)

pub returns-in-Role : goal.returns-in-Role
unfolding chars
returns-in-Role c = sym (ap kind_member c.in-Role.is)

pub returns-in-Group : goal.returns-in-Group
unfolding chars
returns-in-Group c = sym (ap kind_member c.in-Group.is)
