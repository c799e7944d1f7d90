-- What the grammar of queries sees of a token: keywords, names, numbers, days, moments, texts, operators and marks.
-- Source of the words and marks: Salesforce, "SOQL and SOSL Reference". Which of them queries have is this product's own.
use Rattle.std.specs.Prelude.{ℕ, ◌/◌, true, false, ◌==◌, nat_le, if◌then◌else◌, List, map, Option, Some, None, Result, Ok, codes, ℤ, pos, negsuc}
use Rattle.std.specs.List.{list_all}
use Rattle.base_grammar.specs.Counts.{number_count}
use Rattle.base_grammar.specs.Tokens.{is_written}
use Rattle.base_grammar.specs.declared.token.Token.{Token}
use Rattle.base_grammar.specs.declared.token.Token.TheVariants as token
use Rattle.base_grammar.specs.declared.token.Placed.{Placed}
use Rattle.base_value.specs.Numerals.{is_digit}
use Rattle.base_value.specs.Reading.{read_value}
use Rattle.base_value.specs.declared.fail.ValueFail.{ValueFail}
use Rattle.base_value.specs.declared.value.FieldType.TheVariants as type
use Rattle.base_value.specs.declared.value.Value.{Value}
use Rattle.base_value.specs.declared.value.Value.TheVariants as value
use Rattle.soql.specs.declared.query.Op.TheVariants as op
use Rattle.soql.specs.declared.grammar.sign.Sign.{Sign}
use Rattle.soql.specs.declared.grammar.sign.Sign.TheVariants as sign
use Rattle.soql.specs.declared.grammar.sign.SignKind.{SignKind}
use Rattle.soql.specs.declared.grammar.sign.SignKind.TheVariants as of

-- ---- kinds of tokens, by numbers
abbrev pub number : SignKind → ℕ
number of.Name = 0
number of.Today = 1
number of.Yesterday = 2
number of.Tomorrow = 3
number of.And = 4
number of.Or = 5
number of.Not = 6
number of.In = 7
number of.Like = 8
number of.Null = 9
number of.Truth = 10
number of.Select = 11
number of.From = 12
number of.Where = 13
number of.Order = 14
number of.By = 15
number of.Descending = 16
number of.Nulls = 17
number of.Last = 18
number of.Limit = 19
number of.Offset = 20
number of.Number = 21
number of.Day = 22
number of.Moment = 23
number of.Text = 24
number of.Op = 25
number of.Open = 26
number of.Close = 27
number of.Comma = 28
number of.Dot = 29
number of.Bad = 30

abbrev pub kind : Sign → ℕ
kind (sign.Name cs) = 0
kind (sign.Today cs) = 1
kind (sign.Yesterday cs) = 2
kind (sign.Tomorrow cs) = 3
kind sign.And = 4
kind sign.Or = 5
kind sign.Not = 6
kind sign.In = 7
kind sign.Like = 8
kind sign.Null = 9
kind (sign.Truth truth) = 10
kind sign.Select = 11
kind sign.From = 12
kind sign.Where = 13
kind sign.Order = 14
kind sign.By = 15
kind (sign.Descending is) = 16
kind sign.Nulls = 17
kind (sign.Last is) = 18
kind sign.Limit = 19
kind sign.Offset = 20
kind (sign.Number count whole) = 21
kind (sign.Day day) = 22
kind (sign.Moment second) = 23
kind (sign.Text pieces) = 24
kind (sign.Op op) = 25
kind sign.Open = 26
kind sign.Close = 27
kind sign.Comma = 28
kind sign.Dot = 29
kind sign.Bad = 30

-- ---- words
-- the words of conditions and their literals
unfoldable pub condition_word : List ℕ → Option Sign
condition_word cs =
    if is_written (codes "AND") cs then Some sign.And else (if is_written (codes "OR") cs then Some sign.Or
    else (if is_written (codes "NOT") cs then Some sign.Not else (if is_written (codes "IN") cs then Some sign.In
    else (if is_written (codes "LIKE") cs then Some sign.Like else (if is_written (codes "NULL") cs then Some sign.Null
    else (if is_written (codes "TRUE") cs then Some (sign.Truth true) else (if is_written (codes "FALSE") cs then Some (sign.Truth false)
    else None)))))))

-- the words of clauses
unfoldable pub clause_word : List ℕ → Option Sign
clause_word cs =
    if is_written (codes "SELECT") cs then Some sign.Select else (if is_written (codes "FROM") cs then Some sign.From
    else (if is_written (codes "WHERE") cs then Some sign.Where else (if is_written (codes "ORDER") cs then Some sign.Order
    else (if is_written (codes "BY") cs then Some sign.By else (if is_written (codes "ASC") cs then Some (sign.Descending false)
    else (if is_written (codes "DESC") cs then Some (sign.Descending true) else (if is_written (codes "NULLS") cs then Some sign.Nulls
    else (if is_written (codes "FIRST") cs then Some (sign.Last false) else (if is_written (codes "LAST") cs then Some (sign.Last true)
    else (if is_written (codes "LIMIT") cs then Some sign.Limit else (if is_written (codes "OFFSET") cs then Some sign.Offset
    else None)))))))))))

-- a name, of which three are days too
unfoldable pub name_sign : List ℕ → Sign
name_sign cs =
    if is_written (codes "TODAY") cs then sign.Today cs
    else (if is_written (codes "YESTERDAY") cs then sign.Yesterday cs
    else (if is_written (codes "TOMORROW") cs then sign.Tomorrow cs
    else sign.Name cs))

abbrev pub word_or : Option Sign → Sign → Sign
word_or (Some word) other = word
word_or None other = other

unfoldable pub word_sign : List ℕ → Sign
word_sign cs = word_or (condition_word cs) (word_or (clause_word cs) (name_sign cs))

-- ---- runs
-- the number that a count of 10^-8 is, if it is at most 50,000
abbrev pub whole_in : ℤ → Option ℕ
whole_in (pos n) = if nat_le (n / 100000000) 50000 then Some (n / 100000000) else None
whole_in (negsuc n) = None

-- a number; without a sign and a point it is a count of rows too
unfoldable pub number_sign : List ℕ → ℤ → Sign
number_sign cs count = sign.Number count (if list_all is_digit cs then whole_in count else None)

-- the day that the characters read as, or the moment
abbrev pub day_or : Sign → Result Value ValueFail → Sign
day_or other (Ok (value.Day day)) = sign.Day day
day_or other _ = other

abbrev pub moment_in : Result Value ValueFail → Sign
moment_in (Ok (value.Moment second)) = sign.Moment second
moment_in _ = sign.Bad

abbrev pub date_sign : List ℕ → Sign
date_sign cs = day_or (moment_in (read_value type.Moment cs)) (read_value type.Day cs)

abbrev pub run_sign : List ℕ → Option ℤ → Sign
run_sign cs (Some count) = number_sign cs count
run_sign cs None = date_sign cs

-- ---- marks
unfoldable pub mark_sign : ℕ → Sign
mark_sign c =
    if c == 40 then sign.Open
    else (if c == 41 then sign.Close
    else (if c == 44 then sign.Comma
    else (if c == 46 then sign.Dot
    else (if c == 61 then sign.Op op.Equal
    else (if c == 60 then sign.Op op.Less
    else (if c == 62 then sign.Op op.Greater
    else sign.Bad))))))

-- a mark of this character and `=`
unfoldable pub pair_sign : ℕ → Sign
pair_sign c =
    if c == 33 then sign.Op op.NotEqual
    else (if c == 60 then sign.Op op.LessEqual
    else (if c == 62 then sign.Op op.GreaterEqual
    else sign.Bad))

-- ---- tokens
abbrev pub sign_of : Token → Sign
sign_of (token.Word cs) = word_sign cs
sign_of (token.Run cs) = run_sign cs (number_count cs)
sign_of (token.Text pieces) = sign.Text pieces
sign_of (token.Mark c) = mark_sign c
sign_of (token.Pair c d) = pair_sign c
sign_of token.Bad = sign.Bad

-- the tokens of a text
abbrev pub signs : List Placed → List Sign
signs all = map (λ placed. sign_of placed.token) all
