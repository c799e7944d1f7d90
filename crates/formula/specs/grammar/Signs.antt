-- What the grammar of formulas sees of a token: function words, fields by their positions, numbers, texts, relations and marks.
-- Source of the words and marks: Salesforce, "Formula Operators and Functions". Which of them formulas have is this product's own.
use Rattle.std.specs.Prelude.{ℕ, ◌+◌, Bool, true, false, ◌&&◌, ◌||◌, ◌==◌, if◌then◌else◌, List, [], ◌∷◌, map, Option, Some, None, codes, encode_utf8_all, ℤ}
use Rattle.base_grammar.specs.Counts.{number_count, plain_text}
use Rattle.base_grammar.specs.Tokens.{Lexis, is_written}
use Rattle.base_grammar.specs.declared.token.Piece.{Piece}
use Rattle.base_grammar.specs.declared.token.Piece.TheVariants.{Plain}
use Rattle.base_grammar.specs.declared.token.Token.{Token}
use Rattle.base_grammar.specs.declared.token.Token.TheVariants as token
use Rattle.base_grammar.specs.declared.token.Placed.{Placed}
use Rattle.base_value.specs.declared.value.FieldType.{FieldType}
use Rattle.base_value.specs.declared.value.FieldType.TheVariants as type
use Rattle.formula.specs.declared.formula.NamedField.{NamedField}
use Rattle.formula.specs.declared.formula.Relation.TheVariants as relation
use Rattle.formula.specs.declared.grammar.sign.Sign.{Sign}
use Rattle.formula.specs.declared.grammar.sign.Sign.TheVariants as sign
use Rattle.formula.specs.declared.grammar.sign.SignKind.{SignKind}
use Rattle.formula.specs.declared.grammar.sign.SignKind.TheVariants as of
use Rattle.formula.specs.declared.grammar.sign.Sort.{Sort}
use Rattle.formula.specs.declared.grammar.sign.Sort.TheVariants as sort

-- ---- characters
-- `"`
abbrev pub quote : ℕ
quote = 34

-- `\`
abbrev pub backslash : ℕ
backslash = 92

-- the quote and the backslash, behind a backslash
unfoldable pub escape : ℕ → Option Piece
escape c = if (c == quote) || (c == backslash) then Some (Plain c) else None

-- `(` `)` `,` `=` `<` `>`
unfoldable pub is_mark : ℕ → Bool
is_mark c = (c == 40) || ((c == 41) || ((c == 44) || ((c == 61) || ((c == 60) || (c == 62)))))

-- `<>` `<=` `>=`
unfoldable pub is_pair : ℕ → ℕ → Bool
is_pair c d = ((c == 60) && ((d == 62) || (d == 61))) || ((c == 62) && (d == 61))

-- how formulas write texts and marks
abbrev pub lexis : Lexis
lexis = record { is_quote = λ c. c == quote; escape = escape; is_mark = is_mark; is_pair = is_pair }

-- ---- kinds of tokens, by numbers
abbrev pub number : SignKind → ℕ
number of.Truth = 0
number of.IsNew = 1
number of.Not = 2
number of.And = 3
number of.Or = 4
number of.IsBlank = 5
number of.IsChanged = 6
number of.IsPickval = 7
number of.Len = 8
number of.Prior = 9
number of.Field = 10
number of.Number = 11
number of.Text = 12
number of.Relation = 13
number of.Open = 14
number of.Close = 15
number of.Comma = 16
number of.Bad = 17

abbrev pub kind : Sign → ℕ
kind (sign.Truth truth) = 0
kind sign.IsNew = 1
kind sign.Not = 2
kind sign.And = 3
kind sign.Or = 4
kind sign.IsBlank = 5
kind sign.IsChanged = 6
kind sign.IsPickval = 7
kind sign.Len = 8
kind sign.Prior = 9
kind (sign.Field position sort) = 10
kind (sign.Number count) = 11
kind (sign.Text cs) = 12
kind (sign.Relation relation) = 13
kind sign.Open = 14
kind sign.Close = 15
kind sign.Comma = 16
kind sign.Bad = 17

-- ---- words
-- the function words, and TRUE and FALSE, which aren't names
unfoldable pub function_word : List ℕ → Option Sign
function_word cs =
    if is_written (codes "TRUE") cs then Some (sign.Truth true)
    else (if is_written (codes "FALSE") cs then Some (sign.Truth false)
    else (if is_written (codes "ISNEW") cs then Some sign.IsNew
    else (if is_written (codes "NOT") cs then Some sign.Not
    else (if is_written (codes "AND") cs then Some sign.And
    else (if is_written (codes "OR") cs then Some sign.Or
    else (if is_written (codes "ISBLANK") cs then Some sign.IsBlank
    else (if is_written (codes "ISCHANGED") cs then Some sign.IsChanged
    else (if is_written (codes "ISPICKVAL") cs then Some sign.IsPickval
    else (if is_written (codes "LEN") cs then Some sign.Len
    else (if is_written (codes "PRIORVALUE") cs then Some sign.Prior
    else None))))))))))

-- a criteria formula has no words of what was before
abbrev pub allowed : (criteria : Bool) → Sign → Sign
allowed true sign.IsNew = sign.Bad
allowed true sign.IsChanged = sign.Bad
allowed true sign.Prior = sign.Bad
allowed _ found = found

-- what a formula asks of a type
abbrev pub sort_of : FieldType → Sort
sort_of (type.Text most) = sort.Text
sort_of (type.Number digits decimals) = sort.Number
sort_of type.Checkbox = sort.Checkbox
sort_of type.Day = sort.Day
sort_of type.Moment = sort.Moment
sort_of (type.Picklist values) = sort.Picklist
sort_of (type.Lookup object on_delete) = sort.Reference
sort_of (type.Master object) = sort.Reference

-- the first of these fields that has this name; they begin at this position
abbrev pub field_sign : ℕ → List NamedField → List ℕ → Sign
field_sign at [] cs = sign.Bad
field_sign at (field ∷ more) cs = if is_written (encode_utf8_all field.name) cs then sign.Field at (sort_of field.kind) else field_sign (at + 1) more cs

-- a function word, or the name of a field
abbrev pub word_or_field : (criteria : Bool) → List NamedField → List ℕ → Option Sign → Sign
word_or_field criteria fields cs (Some word) = allowed criteria word
word_or_field criteria fields cs None = field_sign 0 fields cs

-- ---- tokens
abbrev pub number_sign : Option ℤ → Sign
number_sign (Some count) = sign.Number count
number_sign None = sign.Bad

abbrev pub text_sign : Option (List ℕ) → Sign
text_sign (Some cs) = sign.Text cs
text_sign None = sign.Bad

unfoldable pub mark_sign : ℕ → Sign
mark_sign c =
    if c == 40 then sign.Open
    else (if c == 41 then sign.Close
    else (if c == 44 then sign.Comma
    else (if c == 61 then sign.Relation relation.Equal
    else (if c == 60 then sign.Relation relation.Less
    else (if c == 62 then sign.Relation relation.Greater
    else sign.Bad)))))

unfoldable pub pair_sign : ℕ → ℕ → Sign
pair_sign c d =
    if (c == 60) && (d == 62) then sign.Relation relation.NotEqual
    else (if (c == 60) && (d == 61) then sign.Relation relation.LessEqual
    else (if (c == 62) && (d == 61) then sign.Relation relation.GreaterEqual
    else sign.Bad))

-- a token over these fields
abbrev pub sign_of : (criteria : Bool) → List NamedField → Token → Sign
sign_of criteria fields (token.Word cs) = word_or_field criteria fields cs (function_word cs)
sign_of criteria fields (token.Run cs) = number_sign (number_count cs)
sign_of criteria fields (token.Text pieces) = text_sign (plain_text pieces)
sign_of criteria fields (token.Mark c) = mark_sign c
sign_of criteria fields (token.Pair c d) = pair_sign c d
sign_of criteria fields token.Bad = sign.Bad

-- the tokens of a text over these fields, and where they begin
abbrev pub signs : (criteria : Bool) → List NamedField → List Placed → List Sign
signs criteria fields all = map (λ placed. sign_of criteria fields placed.token) all
