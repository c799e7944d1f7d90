use Rattle.std.proofs.Common.{refl}
use Rattle.std.proofs.lemmas.Str.{chars-nil}
use Rattle.record_input.proofs.json.text_of.Goals as goal

pub returns-in-Null : goal.returns-in-Null
returns-in-Null c = rw (chars-nil, c.in-Null.is) refl

pub returns-in-Bool : goal.returns-in-Bool
returns-in-Bool c = rw (chars-nil, c.in-Bool.is) refl

pub returns-in-Number : goal.returns-in-Number
returns-in-Number c = rw (chars-nil, c.in-Number.is) refl

pub returns-in-List : goal.returns-in-List
returns-in-List c = rw (chars-nil, c.in-List.is) refl

pub returns-in-Object : goal.returns-in-Object
returns-in-Object c = rw (chars-nil, c.in-Object.is) refl
