use Rattle.std.proofs.Common.{refl}
use Rattle.api_input.proofs.principals.kind_mark.Goals as goal

pub returns-in-User : goal.returns-in-User
returns-in-User c id = rw c.in-User.is refl

pub returns-in-Role : goal.returns-in-Role
returns-in-Role c id = rw c.in-Role.is refl

pub returns-in-Subordinates : goal.returns-in-Subordinates
returns-in-Subordinates c id = rw c.in-Subordinates.is refl

pub returns-in-Group : goal.returns-in-Group
returns-in-Group c id = rw c.in-Group.is refl
