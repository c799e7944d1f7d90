-- Which query a text spells, and the place at which a text is refused.
-- Source: none. It is this product's own that a refusal names the first token that can't follow.
use Rattle.std.specs.Prelude.{ℕ, ◌-◌, List, length, slice_index_or, Option, Result}
use Rattle.std.specs.Option.{ok_or}
use Rattle.std.specs.Str.{chars}
use Rattle.base_grammar.specs.Exact.{left}
use Rattle.base_grammar.specs.Lexing.{tokens_of}
use Rattle.base_grammar.specs.Place.{IsPlace, starts, whole_of}
use Rattle.base_grammar.specs.Tokens.{AreTokens}
use Rattle.base_grammar.specs.declared.token.Placed.{Placed}
use Rattle.soql.specs.grammar.Grammar.{whole}
use Rattle.soql.specs.grammar.Readers as read
use Rattle.soql.specs.grammar.Signs.{signs}
use Rattle.soql.specs.Lexis.{lexis}
use Rattle.soql.specs.declared.query.Query.{Query}

-- the tokens of the text spell this query
abbrev pub Spells : (text : List ℕ) → Query → Type 0
Spells text query = (all : List Placed) × AreTokens lexis 0 text all × whole.spells (signs all) query

-- the place of the first token that can't follow in a query, or the end of the text, which is at this byte
abbrev pub IsRefusedAt : (text : List ℕ) → (end place : ℕ) → Type 0
IsRefusedAt text end place = (all : List Placed) × AreTokens lexis 0 text all × IsPlace whole (signs all) (starts all) end place

-- ---- the same, computed
-- the query that a text spells, if it spells one
unfoldable pub query_in : (text : List ℕ) → Option Query
query_in text = whole_of (read.whole (signs (tokens_of lexis 0 text)))

-- the place at which a text that spells none is refused; the text ends at this byte
unfoldable pub place_in : (text : List ℕ) → (end : ℕ) → ℕ
place_in text end =
    let all = tokens_of lexis 0 text in
    let ts = signs all in
    slice_index_or (starts all) (length ts - left (read.whole ts)) end

-- how a text in UTF-8 is read: the query that it spells, or the place at which it is refused
unfoldable pub reads_query : (bytes : List ℕ) → Result Query ℕ
reads_query bytes = let text = chars bytes in ok_or (query_in text) (place_in text (length bytes))
