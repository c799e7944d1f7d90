use Rattle.std.proofs.Common.{ℕ, List, subst, sym}
use Rattle.formula.specs.Meaning.{value_at}
use Rattle.model.specs.Edits.{given_to}
use Rattle.model.specs.Fields.{column, of_type, value_site}
use Rattle.record_input.specs.Given.{FindsFor, all_given}
use Rattle.record_input.specs.inner.Read.{JudgesValue}
use Rattle.record_input.proofs.given.field_over.Goals as goal

pub returns : goal.returns
returns c types t finds =
    let field = c.args.field.now in
    let given = c.args.given.now in
    let at = value_site c.args.position in
    let name = c.as_str.ensures.characters in
    subst (λ (name : List ℕ). JudgesValue (given_to t (all_given c.args.given.now) (column name (of_type field.kind) (value_site c.args.position))) (value_at c.args.old.now.values c.args.position) c.value_over.result)
    name
    (c.value_over.ensures types t at (subst (λ (name : List ℕ). FindsFor t given.found.now given.body.now (column name (of_type field.kind) at)) (sym name) finds))
