use Rattle.std.proofs.Common.{Option, subst, sym}
use Rattle.std.specs.Str.{chars}
use Rattle.model.specs.Fields.{column, of_type}
use Rattle.model.specs.Given.{ReadOr}
use Rattle.record_input.specs.Given.{key_of}
use Rattle.record_input.specs.inner.Read.{ReadsGiven}
use Rattle.record_input.proofs.Searching.{first_has}
use Rattle.record_input.proofs.Keys.{first_given, key_alone}
use Rattle.record_input.proofs.reading.value_to.Goals as goal

pub returns-in-Some : goal.returns-in-Some
returns-in-Some c types t at finds =
    let body = c.args.given.now.body.now in
    let name = chars c.args.name.now in
    let x = c.in-Some.assignment.now in
    let has = first_has body name x c.in-Some.ensures in
    first_given t (key_of c.args.given.now) body (column name (of_type c.args.kind.now) at) x c.read_given.result c.in-Some.ensures
    (c.read_given.ensures types t at (finds x has.0 has.1))

pub returns-in-None : goal.returns-in-None
returns-in-None c types t at finds =
    let body = c.args.given.now.body.now in
    let column = column (chars c.args.name.now) (of_type c.args.kind.now) at in
    subst (λ (g : Option ReadOr). ReadsGiven g c.key_to.result) (sym (key_alone t (key_of c.args.given.now) body column c.in-None.ensures))
    (c.key_to.ensures t c.args.kind.now at)
