-- The tokens of a text, computed.
use Rattle.std.specs.Prelude.{◌≡◌, ℕ, zero, suc, ◌+◌, false, if◌then◌else◌, List, [], ◌∷◌, ◌++◌, length, take, drop, Option, Some, None}
use Rattle.std.specs.List.{prefix_len}
use Rattle.base_grammar.specs.declared.token.Piece.{Piece}
use Rattle.base_grammar.specs.declared.token.Token.{Token}
use Rattle.base_grammar.specs.declared.token.Token.TheVariants as t
use Rattle.base_grammar.specs.declared.token.Placed.{Placed}
use Rattle.base_grammar.specs.declared.classes.Class.{Class}
use Rattle.base_grammar.specs.declared.classes.Class.TheVariants.{Blank, Letters, Digits, Quote, Other}
use Rattle.base_grammar.specs.Tokens.{Lexis, is_blank, in_word, in_run, class_of, run_token, text_len, text_token, pieces_of, with_piece, single_token, byte_len}

module _ (lexis : Lexis) where
  -- how many characters behind a first one, which begins no other token, belong to a mark with it
  unfoldable pub mark_len : ℕ → List ℕ → ℕ
  mark_len c [] = 0
  mark_len c (d ∷ cs) = if lexis.is_pair c d then 1 else 0

  -- how many characters behind the first belong to its token
  unfoldable pub token_len : Class → ℕ → List ℕ → ℕ
  token_len Letters c cs = prefix_len in_word cs
  token_len Digits c cs = prefix_len in_run cs
  token_len Quote c cs = text_len lexis cs false
  token_len Other c cs = mark_len c cs
  token_len Blank c cs = 0

  -- the token of a first character alone, or with the one that belongs to it
  unfoldable pub mark_token : ℕ → List ℕ → Token
  mark_token c [] = single_token lexis c
  mark_token c (d ∷ cs) = t.Pair c d

  -- the token of a first character and those that belong to it
  unfoldable pub token_of : Class → ℕ → List ℕ → Token
  token_of Letters c cs = t.Word (c ∷ cs)
  token_of Digits c cs = run_token (c ∷ cs)
  token_of Quote c cs = text_token lexis cs
  token_of Other c cs = mark_token c cs
  token_of Blank c cs = t.Bad

  -- what follows in a text begins with this piece, and goes on with these characters; with none it holds no pieces
  abbrev pub GoesOn : List ℕ → Option (Piece × List ℕ) → Type 0
  GoesOn cs None = pieces_of lexis cs false ≡ None
  GoesOn cs (Some (piece, rest)) = pieces_of lexis cs false ≡ with_piece (Some piece) (pieces_of lexis rest false)

  -- how many characters the blank or the token at the front has
  unfoldable pub front_len : List ℕ → ℕ
  front_len [] = 0
  front_len (c ∷ cs) = 1 + token_len (class_of lexis c) c cs

  -- the token that these characters are, which begin at this byte; a blank is none
  unfoldable pub token_at : ℕ → List ℕ → List Placed
  token_at at [] = []
  token_at at (c ∷ cs) = if is_blank c then [] else record { start = at; token = token_of (class_of lexis c) c cs } ∷ []

  -- the tokens of a text of at most so many characters, which begins at this byte
  abbrev pub tokens_within : ℕ → ℕ → List ℕ → List Placed
  tokens_within zero at cs = []
  tokens_within (suc n) at [] = []
  tokens_within (suc n) at (c ∷ cs) =
      let front = take (front_len (c ∷ cs)) (c ∷ cs) in
      token_at at front ++ tokens_within n (at + byte_len front) (drop (front_len (c ∷ cs)) (c ∷ cs))

  -- the tokens of a text that begins at this byte
  unfoldable pub tokens_of : ℕ → List ℕ → List Placed
  tokens_of at cs = tokens_within (length cs) at cs
