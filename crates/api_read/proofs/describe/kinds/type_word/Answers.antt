use Rattle.std.proofs.Common.{refl}
use Rattle.std.specs.Str.{chars}
use Rattle.api_read.proofs.describe.kinds.type_word.Goals as goal

pub returns-in-Text : goal.returns-in-Text
unfolding chars
returns-in-Text c = rw c.in-Text.is refl

pub returns-in-Number : goal.returns-in-Number
unfolding chars
returns-in-Number c = rw c.in-Number.is refl

pub returns-in-Checkbox : goal.returns-in-Checkbox
unfolding chars
returns-in-Checkbox c = rw c.in-Checkbox.is refl

pub returns-in-Day : goal.returns-in-Day
unfolding chars
returns-in-Day c = rw c.in-Day.is refl

pub returns-in-Moment : goal.returns-in-Moment
unfolding chars
returns-in-Moment c = rw c.in-Moment.is refl

pub returns-in-Picklist : goal.returns-in-Picklist
unfolding chars
returns-in-Picklist c = rw c.in-Picklist.is refl

pub returns-in-Lookup : goal.returns-in-Lookup
unfolding chars
returns-in-Lookup c = rw c.in-Lookup.is refl

pub returns-in-Master : goal.returns-in-Master
unfolding chars
returns-in-Master c = rw c.in-Master.is refl
