use Rattle.std.proofs.Common.{refl}
use Rattle.std.specs.Str.{chars}
use Rattle.api_read.proofs.objects.access_name.Goals as goal

pub returns-in-Private : goal.returns-in-Private
unfolding chars
returns-in-Private c = rw c.in-Private.is refl

pub returns-in-Read : goal.returns-in-Read
unfolding chars
returns-in-Read c = rw c.in-Read.is refl

pub returns-in-ReadWrite : goal.returns-in-ReadWrite
unfolding chars
returns-in-ReadWrite c = rw c.in-ReadWrite.is refl

pub returns-in-ControlledByParent : goal.returns-in-ControlledByParent
unfolding chars
returns-in-ControlledByParent c = rw c.in-ControlledByParent.is refl
