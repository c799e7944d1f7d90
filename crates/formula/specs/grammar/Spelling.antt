-- Which formula a text spells, and the place at which a text is refused.
-- Source: none. It is this product's own that a refusal names the first token that can't follow.
use Rattle.std.specs.Prelude.{ℕ, ◌-◌, Bool, List, length, slice_index_or, Option}
use Rattle.base_grammar.specs.Exact.{left}
use Rattle.base_grammar.specs.Lexing.{tokens_of}
use Rattle.base_grammar.specs.Place.{IsPlace, starts, whole_of}
use Rattle.base_grammar.specs.Tokens.{AreTokens}
use Rattle.base_grammar.specs.declared.token.Placed.{Placed}
use Rattle.formula.specs.declared.formula.Formula.{Formula}
use Rattle.formula.specs.declared.formula.NamedField.{NamedField}
use Rattle.formula.specs.grammar.Grammar.{whole}
use Rattle.formula.specs.grammar.Reading as read
use Rattle.formula.specs.grammar.Signs.{lexis, signs}

-- the tokens of the text, over these fields, spell this formula
abbrev pub Spells : (criteria : Bool) → List NamedField → (text : List ℕ) → Formula → Type 0
Spells criteria fields text f = (all : List Placed) × AreTokens lexis 0 text all × whole.spells (signs criteria fields all) f

-- the place of the first token that can't follow in a formula, or the end of the text, which is at this byte
abbrev pub IsRefusedAt : (criteria : Bool) → List NamedField → (text : List ℕ) → (end place : ℕ) → Type 0
IsRefusedAt criteria fields text end place =
    (all : List Placed) × AreTokens lexis 0 text all × IsPlace whole (signs criteria fields all) (starts all) end place

-- ---- the same, computed
unfoldable pub formula_in : (criteria : Bool) → List NamedField → (text : List ℕ) → Option Formula
formula_in criteria fields text = whole_of (read.whole (signs criteria fields (tokens_of lexis 0 text)))

-- the place at which a text that spells none is refused; the text ends at this byte
unfoldable pub place_in : (criteria : Bool) → List NamedField → (text : List ℕ) → (end : ℕ) → ℕ
place_in criteria fields text end =
    let all = tokens_of lexis 0 text in
    let ts = signs criteria fields all in
    slice_index_or (starts all) (length ts - left (read.whole ts)) end
