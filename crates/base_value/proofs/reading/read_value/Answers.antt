use Rattle.std.proofs.Common.{◌≡◌, List, ℕ, [], Ok, ap, sym, subst, ◌∙◌}
use Rattle.std.specs.Str.{chars}
use Rattle.std.proofs.lemmas.Str.{chars-nil}
use Rattle.base_value.specs.Causes.{GivesOr}
use Rattle.base_value.specs.Reading.{read_value, read_written}
use Rattle.base_value.specs.declared.fail.ValueFail.TheVariants.{Memory}
use Rattle.base_value.proofs.Texts.{some_character, no_bytes}
use Rattle.base_value.proofs.reading.read_value.Goals as goal

pub returns-then-is_empty : goal.returns-then-is_empty
returns-then-is_empty c =
    let none : chars c.args.text.now ≡ [] = ap chars (no_bytes c.args.text.now (sym c.is_empty.ensures ∙ c.if-is_empty.true)) ∙ chars-nil in
    ap (read_value c.args.kind.now) none ∙ ap Ok (sym c.empty_value.ensures)

pub returns-else-is_empty : goal.returns-else-is_empty
returns-else-is_empty c =
    let some = some_character c.args.text.now c.utf8.text (sym c.is_empty.ensures ∙ c.if-is_empty.false) in
    subst (λ (cs : List ℕ). GivesOr Memory (read_value c.args.kind.now cs) c.read_written.result) (sym some.2)
    (subst (λ (cs : List ℕ). GivesOr Memory (read_written c.args.kind.now cs) c.read_written.result) some.2 c.read_written.ensures)
