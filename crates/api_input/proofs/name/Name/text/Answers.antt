use Rattle.std.proofs.Common.{refl}
use Rattle.std.specs.Str.{chars}
use Rattle.api_input.proofs.name.Name.text.Goals as goal

pub returns-in-Access : goal.returns-in-Access
unfolding chars
returns-in-Access c = rw c.in-Access.is refl

pub returns-in-Active : goal.returns-in-Active
unfolding chars
returns-in-Active c = rw c.in-Active.is refl

pub returns-in-Admin : goal.returns-in-Admin
unfolding chars
returns-in-Admin c = rw c.in-Admin.is refl

pub returns-in-Child : goal.returns-in-Child
unfolding chars
returns-in-Child c = rw c.in-Child.is refl

pub returns-in-Decimals : goal.returns-in-Decimals
unfolding chars
returns-in-Decimals c = rw c.in-Decimals.is refl

pub returns-in-Digits : goal.returns-in-Digits
unfolding chars
returns-in-Digits c = rw c.in-Digits.is refl

pub returns-in-Field : goal.returns-in-Field
unfolding chars
returns-in-Field c = rw c.in-Field.is refl

pub returns-in-Formula : goal.returns-in-Formula
unfolding chars
returns-in-Formula c = rw c.in-Formula.is refl

pub returns-in-Hierarchy : goal.returns-in-Hierarchy
unfolding chars
returns-in-Hierarchy c = rw c.in-Hierarchy.is refl

pub returns-in-Indexed : goal.returns-in-Indexed
unfolding chars
returns-in-Indexed c = rw c.in-Indexed.is refl

pub returns-in-Kind : goal.returns-in-Kind
unfolding chars
returns-in-Kind c = rw c.in-Kind.is refl

pub returns-in-Length : goal.returns-in-Length
unfolding chars
returns-in-Length c = rw c.in-Length.is refl

pub returns-in-Master : goal.returns-in-Master
unfolding chars
returns-in-Master c = rw c.in-Master.is refl

pub returns-in-Members : goal.returns-in-Members
unfolding chars
returns-in-Members c = rw c.in-Members.is refl

pub returns-in-Message : goal.returns-in-Message
unfolding chars
returns-in-Message c = rw c.in-Message.is refl

pub returns-in-Name : goal.returns-in-Name
unfolding chars
returns-in-Name c = rw c.in-Name.is refl

pub returns-in-Object : goal.returns-in-Object
unfolding chars
returns-in-Object c = rw c.in-Object.is refl

pub returns-in-OnDelete : goal.returns-in-OnDelete
unfolding chars
returns-in-OnDelete c = rw c.in-OnDelete.is refl

pub returns-in-Parent : goal.returns-in-Parent
unfolding chars
returns-in-Parent c = rw c.in-Parent.is refl

pub returns-in-Required : goal.returns-in-Required
unfolding chars
returns-in-Required c = rw c.in-Required.is refl

pub returns-in-Role : goal.returns-in-Role
unfolding chars
returns-in-Role c = rw c.in-Role.is refl

pub returns-in-Secret : goal.returns-in-Secret
unfolding chars
returns-in-Secret c = rw c.in-Secret.is refl

pub returns-in-Type : goal.returns-in-Type
unfolding chars
returns-in-Type c = rw c.in-Type.is refl

pub returns-in-Unique : goal.returns-in-Unique
unfolding chars
returns-in-Unique c = rw c.in-Unique.is refl

pub returns-in-Values : goal.returns-in-Values
unfolding chars
returns-in-Values c = rw c.in-Values.is refl

pub returns-in-From : goal.returns-in-From
unfolding chars
returns-in-From c = rw c.in-From.is refl

pub returns-in-Level : goal.returns-in-Level
unfolding chars
returns-in-Level c = rw c.in-Level.is refl

pub returns-in-Record : goal.returns-in-Record
unfolding chars
returns-in-Record c = rw c.in-Record.is refl

pub returns-in-To : goal.returns-in-To
unfolding chars
returns-in-To c = rw c.in-To.is refl
