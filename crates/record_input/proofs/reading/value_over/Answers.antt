use Rattle.std.specs.Str.{chars}
use Rattle.formula.specs.Meaning.{value_at}
use Rattle.model.specs.Edits.{given_to}
use Rattle.model.specs.Fields.{column, of_type}
use Rattle.record_input.specs.Given.{all_given}
use Rattle.record_input.proofs.Overs.{none_judged, some_judged}
use Rattle.record_input.proofs.reading.value_over.Goals as goal

pub returns-in-Some : goal.returns-in-Some
returns-in-Some c types t at finds =
    let name = chars c.args.name.now in
    some_judged (given_to t (all_given c.args.given.now) (column name (of_type c.args.kind.now) at)) (value_at c.args.old.now.values c.args.position) c.in-Some.read
    (c.in-Some.ensures types t at finds)

pub returns-in-None : goal.returns-in-None
returns-in-None c types t at finds =
    let name = chars c.args.name.now in
    none_judged (given_to t (all_given c.args.given.now) (column name (of_type c.args.kind.now) at)) (value_at c.args.old.now.values c.args.position) c.old_value.result
    (c.in-None.ensures types t at finds) c.old_value.ensures
