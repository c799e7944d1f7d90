use Rattle.std.proofs.Common.{ℕ, List, refl, subst, sym}
use Rattle.formula.specs.Meaning.{value_at}
use Rattle.model.specs.Edits.{given_to}
use Rattle.model.specs.Fields.{column, of_type, value_site}
use Rattle.base_value.specs.declared.value.FieldType.TheVariants as type
use Rattle.record_input.specs.Given.{FindsFor, all_given}
use Rattle.record_input.specs.inner.Read.{JudgesValue}
use Rattle.record_input.proofs.Names.{name_text}
use Rattle.record_input.proofs.given.name_over.Goals as goal

pub returns : goal.returns
returns c t finds =
    let given = c.args.given.now in
    subst (λ (name : List ℕ). JudgesValue (given_to t (all_given c.args.given.now) (column name (of_type (type.Text 80)) (value_site 0))) (value_at c.args.old.now.values 0) c.value_over.result)
    name_text
    (c.value_over.ensures refl t (value_site 0) (subst (λ (name : List ℕ). FindsFor t given.found.now given.body.now (column name (of_type (type.Text 80)) (value_site 0))) (sym name_text) finds))
