use Rattle.std.proofs.Common.{map, ap, sym, ◌∙◌}
use Rattle.std.proofs.lemmas.Str.{chars-nil}
use Rattle.std.specs.Str.{chars}
use Rattle.model_requests.specs.Routing as model
use Rattle.api.specs.inner.Places.{taken}
use Rattle.api.proofs.Parts.{none-left}
use Rattle.api.proofs.routing.next_part.Goals as goal

pub returns-then-is_empty-clause-text : goal.returns-then-is_empty-clause-text
returns-then-is_empty-clause-text c = λ texts.
    let none = none-left c.args.parts.now (sym c.is_empty.ensures ∙ c.if-is_empty.true) in
    c.from_string.ensures ∙ ap chars c.new.ensures.bytes ∙ chars-nil ∙ sym (ap (λ l. model.part 0 (map chars (taken l))) none)
