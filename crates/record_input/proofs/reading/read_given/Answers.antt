use Rattle.std.proofs.Common.{◌∙◌, List, ap, subst, sym, ℕ}
use Rattle.std.specs.Str.{chars}
use Rattle.model.specs.Fields.{column, of_type}
use Rattle.model.specs.Given.{ReadOr, read_given}
use Rattle.record_input.specs.Given.{IsKnown}
use Rattle.record_input.specs.inner.Found.{found_by}
use Rattle.record_input.specs.inner.Read.{Reads}
use Rattle.record_input.proofs.Known.{found_is, type_is}
use Rattle.record_input.proofs.reading.read_given.Goals as goal

pub returns-in-Find : goal.returns-in-Find
returns-in-Find c types t at known =
    let name = chars c.args.name.now in
    let column = column name (of_type c.args.kind.now) at in
    let field = c.in-Find.field in
    let text = c.in-Find.text in
    let its = subst (IsKnown t c.args.found.now column) c.in-Find.is known in
    let is = ap (read_given t column) c.in-Find.is ∙ found_is t column field text its.0 its.2 in
    subst (λ (r : ReadOr). Reads r c.read_found.result) (sym is)
    (subst (λ (cs : List ℕ). Reads (found_by its.0 name cs) c.read_found.result) c.as_str.ensures.characters
    (c.read_found.ensures its.0 its.1 (type_is t column field text its.0 its.2)))
