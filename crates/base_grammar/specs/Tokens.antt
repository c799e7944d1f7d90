-- The tokens of a text, which is a list of characters. What differs from one language to another is its lexis.
-- Source of the rules: Salesforce, "SOQL and SOSL Reference" and "Formula Operators and Functions": names, quoted strings with
-- their escape sequences, and the formats of numbers and dates. That every text has tokens, some of which can follow nothing, is
-- this product's own.
use Rattle.std.specs.Prelude.{◌≡◌, ℕ, ◌+◌, Bool, true, false, ◌||◌, if◌then◌else◌, ◌==◌, List, [], ◌∷◌, ◌++◌, length, map, Option, Some, None, bytes_eq, encode_utf8_all}
use Rattle.std.specs.Char.{to_ascii_lowercase}
use Rattle.base_grammar.specs.declared.token.Piece.{Piece}
use Rattle.base_grammar.specs.declared.token.Piece.TheVariants as p
use Rattle.base_grammar.specs.declared.token.Token.{Token}
use Rattle.base_grammar.specs.declared.token.Token.TheVariants as t
use Rattle.base_grammar.specs.declared.token.Placed.{Placed}
use Rattle.base_grammar.specs.declared.classes.Class.{Class}
use Rattle.base_grammar.specs.declared.classes.Class.TheVariants.{Blank, Letters, Digits, Quote, Other}
use Rattle.base_value.specs.Numerals.{is_within, is_digit, is_written_number}
use Rattle.base_value.specs.Dates.{is_written_day, is_written_moment}

-- What one language writes in its own way: the quote round a text, the piece that a character is behind a backslash, and the
-- marks of one character and of two.
pub record Lexis : Type 0 where
  pub is_quote : ℕ → Bool
  pub escape : ℕ → Option Piece
  pub is_mark : ℕ → Bool
  pub is_pair : ℕ → ℕ → Bool

-- ---- characters
-- space, tab, CR, LF
unfoldable pub is_blank : ℕ → Bool
is_blank c = (c == 32) || ((c == 9) || ((c == 13) || (c == 10)))

-- `A` to `Z`, `a` to `z`
unfoldable pub is_letter : ℕ → Bool
is_letter c = is_within 65 90 c || is_within 97 122 c

-- what goes on with a word: letters, digits and `_`
unfoldable pub in_word : ℕ → Bool
in_word c = is_letter c || (is_digit c || (c == 95))

-- what goes on with a run: letters, digits, `.`, `:`, `+` and `-`
unfoldable pub in_run : ℕ → Bool
in_run c = is_letter c || (is_digit c || ((c == 46) || ((c == 58) || ((c == 43) || (c == 45)))))

-- what begins a run: a digit, `+` and `-`
unfoldable pub begins_run : ℕ → Bool
begins_run c = is_digit c || ((c == 43) || (c == 45))

-- ---- words
-- the characters are this word, which is in UTF-8, with the case of ASCII letters ignored
unfoldable pub is_written : List ℕ → List ℕ → Bool
is_written word cs = bytes_eq (map to_ascii_lowercase word) (map to_ascii_lowercase (encode_utf8_all cs))

-- ---- the token of some characters
-- a run is good where it is a number, a day or a moment
unfoldable pub run_token : List ℕ → Token
run_token cs = if is_written_number cs || (is_written_day cs || is_written_moment cs) then t.Run cs else t.Bad

-- a piece and those that follow, where all are good
abbrev pub with_piece : Option Piece → Option (List Piece) → Option (List Piece)
with_piece None more = None
with_piece (Some piece) None = None
with_piece (Some piece) (Some more) = Some (piece ∷ more)

-- a text that has no pieces can follow nothing
abbrev pub pieces_token : Option (List Piece) → Token
pieces_token None = t.Bad
pieces_token (Some pieces) = t.Text pieces

-- every character passes the test
abbrev pub Passes : (ℕ → Bool) → List ℕ → Type 0
Passes test [] = Unit {0}
Passes test (c ∷ cs) = (test c ≡ true) × Passes test cs

-- how many bytes the characters take in UTF-8
abbrev pub byte_len : List ℕ → ℕ
byte_len cs = length (encode_utf8_all cs)

module _ (lexis : Lexis) where
  -- what a first character begins
  unfoldable pub class_of : ℕ → Class
  class_of c = if is_blank c then Blank else (if is_letter c then Letters else (if begins_run c then Digits else (if lexis.is_quote c then Quote else Other)))

  -- ---- texts between quotes
  -- what a character is behind no backslash, before the pieces that follow it: the closing quote, a backslash, or itself
  abbrev pub before_pieces : ℕ → Option (List Piece) → Option (List Piece)
  before_pieces c more = if lexis.is_quote c then Some [] else (if c == 92 then more else with_piece (Some (p.Plain c)) more)

  -- The pieces of a text, from what is behind its opening quote; none where an escape isn't one, or no quote closes it.
  -- `escaped` says that a backslash is before it.
  abbrev pub pieces_of : List ℕ → (escaped : Bool) → Option (List Piece)
  pieces_of [] escaped = None
  pieces_of (c ∷ cs) true = with_piece (lexis.escape c) (pieces_of cs false)
  pieces_of (c ∷ cs) false = before_pieces c (pieces_of cs (c == 92))

  -- the token of a text, from what is behind its opening quote
  unfoldable pub text_token : List ℕ → Token
  text_token cs = pieces_token (pieces_of cs false)

  -- how many characters behind the opening quote belong to the text: to the first quote behind no backslash, or all
  abbrev pub text_len : List ℕ → (escaped : Bool) → ℕ
  text_len [] escaped = 0
  text_len (c ∷ cs) true = 1 + text_len cs false
  text_len (c ∷ cs) false = if lexis.is_quote c then 1 else 1 + text_len cs (c == 92)

  -- ---- marks
  -- a character alone
  unfoldable pub single_token : ℕ → Token
  single_token c = if lexis.is_mark c then t.Mark c else t.Bad

  -- ---- the relation
  -- a character alone, or two that are a mark together
  abbrev pub IsMark : ℕ → List ℕ → Token → Type 0
  IsMark c [] token = token ≡ single_token c
  IsMark c (d ∷ []) token = (lexis.is_pair c d ≡ true) × (token ≡ t.Pair c d)
  IsMark c (d ∷ e ∷ cs) token = ⊥

  -- the first character is of this class, and with those behind it it is this token
  abbrev pub IsOfClass : Class → ℕ → List ℕ → Token → Type 0
  IsOfClass Blank c cs token = ⊥
  IsOfClass Letters c cs token = Passes in_word cs × (token ≡ t.Word (c ∷ cs))
  IsOfClass Digits c cs token = Passes in_run cs × (token ≡ run_token (c ∷ cs))
  IsOfClass Quote c cs token = (text_len cs false ≡ length cs) × (token ≡ text_token cs)
  IsOfClass Other c cs token = IsMark c cs token

  -- these characters are this token
  abbrev pub IsToken : List ℕ → Token → Type 0
  IsToken [] token = ⊥
  IsToken (c ∷ cs) token = IsOfClass (class_of c) c cs token

  -- of all beginnings of what is here the characters are the longest that are a token
  pub record IsLongest (chars rest : List ℕ) (token : Token) : Type 0 where
    pub is : IsToken chars token
    pub longest : (more after : List ℕ) (other : Token) → rest ≡ more ++ after → IsToken (chars ++ more) other → more ≡ []

  -- the text, which begins at this byte, has these tokens, with blanks between
  abbrev pub AreTokens : ℕ → List ℕ → List Placed → Type 0
  AreTokens at cs [] = Passes is_blank cs
  AreTokens at cs (first ∷ more) =
      (blanks : List ℕ) × (chars : List ℕ) × (rest : List ℕ) × (cs ≡ blanks ++ (chars ++ rest)) × Passes is_blank blanks
      × IsLongest chars rest first.token × (first.start ≡ at + byte_len blanks)
      × AreTokens (at + byte_len blanks + byte_len chars) rest more
