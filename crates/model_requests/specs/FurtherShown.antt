-- How many data rows are shown to a request, by its route.
-- Source: this product's own.
use Rattle.std.specs.Prelude.{ℕ}
use Rattle.soql.specs.grammar.Spelling.{reads_query}
use Rattle.model.specs.Shown.{further_to, shown_beside}
use Rattle.model.specs.Step.{query_text}
use Rattle.model_reads.specs.Reads.{read_shown}
use Rattle.model_requests.specs.declared.route.Route.TheVariants as route
use Rattle.model_requests.specs.declared.routed.Routed.{Routed}
use Rattle.model_requests.specs.declared.routed.Routed.TheVariants.{To, Reads}

-- the further ones for a request: those for a query's parents and children
abbrev pub further_shown : Routed → ℕ
further_shown (To (route.Query pairs)) = further_to (reads_query (query_text pairs))
further_shown _ = 0

-- those that are shown to a request over a draft that removes so many
abbrev pub routed_shown : Routed → (removed : ℕ) → ℕ
routed_shown (Reads r) removed = read_shown r
routed_shown r removed = shown_beside (further_shown r) removed
