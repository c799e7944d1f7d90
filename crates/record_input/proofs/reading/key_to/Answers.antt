use Rattle.std.proofs.Common.{◌≡◌, true, ℕ, List, ap, sym, ◌∙◌}
use Rattle.std.specs.Str.{chars}
use Rattle.model.specs.Fields.{column, of_type, same_name}
use Rattle.record_input.specs.Given.{key_in}
use Rattle.record_input.proofs.Keys.{key_gives}
use Rattle.record_input.proofs.reading.key_to.Goals as goal

pub returns-then-same_name : goal.returns-then-same_name
returns-then-same_name c t kind at =
    let name = chars c.args.name.now in
    let same : same_name c.in-Some.key.field.now.name name ≡ true =
    ap (λ (n : List ℕ). same_name n name) (sym c.as_str.ensures.characters) ∙ sym c.same_name.ensures ∙ c.if-same_name.true in
    rw c.in-Some.is (key_gives t (key_in c.in-Some.key) (column name (of_type kind) at) c.copy_of.result same c.copy_of.ensures)
