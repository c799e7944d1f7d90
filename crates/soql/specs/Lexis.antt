-- How queries write texts and marks. All else of their tokens is as in every language (`base_grammar`).
-- Source: Salesforce, "SOQL and SOSL Reference": quoted strings with their escape sequences, and comparison operators.
use Rattle.std.specs.Prelude.{ℕ, Bool, ◌&&◌, ◌||◌, ◌==◌, if◌then◌else◌, Option, Some, None}
use Rattle.base_grammar.specs.Tokens.{Lexis}
use Rattle.base_grammar.specs.declared.token.Piece.{Piece}
use Rattle.base_grammar.specs.declared.token.Piece.TheVariants.{Plain, Escaped}

-- `'`
abbrev pub quote : ℕ
quote = 39

-- what a character is behind a backslash: line feed, carriage return, tab, backspace, form feed, the two quotes, the backslash,
-- and `%` and `_`, which stay apart from those that are written without one
unfoldable pub escaped : ℕ → Option Piece
escaped c =
    if c == 110 then Some (Plain 10) else (if c == 114 then Some (Plain 13) else (if c == 116 then Some (Plain 9) else
    (if c == 98 then Some (Plain 8) else (if c == 102 then Some (Plain 12) else
    (if (c == 34) || ((c == 39) || (c == 92)) then Some (Plain c) else
    (if (c == 37) || (c == 95) then Some (Escaped c) else None))))))

-- `(` `)` `,` `.` `=` `<` `>`
unfoldable pub is_mark : ℕ → Bool
is_mark c = (c == 40) || ((c == 41) || ((c == 44) || ((c == 46) || ((c == 61) || ((c == 60) || (c == 62))))))

-- `!=` `<=` `>=`
unfoldable pub is_pair : ℕ → ℕ → Bool
is_pair c d = (d == 61) && ((c == 33) || ((c == 60) || (c == 62)))

-- how queries write texts and marks
abbrev pub lexis : Lexis
lexis = record { is_quote = λ c. c == quote; escape = escaped; is_mark = is_mark; is_pair = is_pair }
