use Rattle.std.proofs.Common.{List, ℕ, subst, sym}
use Rattle.model.specs.Fields.{column, of_type}
use Rattle.model.specs.Given.{read_given}
use Rattle.record_input.specs.Given.{IsKnown, key_in}
use Rattle.record_input.specs.inner.Read.{Reads}
use Rattle.record_input.proofs.BadMembers.{other_read}
use Rattle.record_input.proofs.members.is_other.Goals as goal

pub returns : goal.returns
returns c types t known =
    let key = c.args.key.now in
    let at = (key_in key).column.at in
    let name = c.as_str.ensures.characters in
    let reads = subst (λ (name : List ℕ). Reads (read_given t (column name (of_type key.field.now.kind) at) c.args.given.now) c.read_given-given.result)
    name (c.read_given-given.ensures types t at (subst (λ (name : List ℕ). IsKnown t c.args.found.now (column name (of_type key.field.now.kind) at) c.args.given.now) (sym name) known)) in
    other_read (read_given t (key_in key).column c.args.given.now) c.read_given-given.result c.in_ok-read.read key.value.now c.reads_as.result reads c.in_ok-read.ensures c.reads_as.ensures
