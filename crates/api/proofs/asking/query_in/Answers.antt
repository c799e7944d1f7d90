use Rattle.std.proofs.Common.{◌≡◌, ℕ, List, subst, ◌∙◌}
use Rattle.base_grammar.specs.Place.{UnlessMemory}
use Rattle.soql.specs.grammar.Spelling.{reads_query}
use Rattle.api.proofs.asking.query_in.Goals as goal

pub returns : goal.returns
returns c =
    subst (λ (text : List ℕ). UnlessMemory c.parse.result (λ read. reads_query text ≡ read)) (c.as_str.ensures.value ∙ c.in_ok-text.ensures) c.parse.ensures.reads
