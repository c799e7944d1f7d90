-- What tokens that are numbers and texts stand for.
-- Source: none. That a number is kept as a count of 10^-8 is this product's own.
use Rattle.std.specs.Prelude.{ℕ, if◌then◌else◌, List, [], ◌∷◌, Option, Some, None, option_map, ℤ}
use Rattle.base_value.specs.Numerals.{is_negative, is_written_number, signed, size_of, without_sign}
use Rattle.base_grammar.specs.declared.token.Piece.{Piece}
use Rattle.base_grammar.specs.declared.token.Piece.TheVariants.{Plain, Escaped}

-- the count of 10^-8 that a number spells, if the characters are one of at most 18 digits before the point and 8 after it
unfoldable pub number_count : List ℕ → Option ℤ
number_count cs = if is_written_number cs then option_map (signed (is_negative cs)) (size_of (without_sign cs)) else None

-- a piece and the text behind it
abbrev pub with_plain : Piece → Option (List ℕ) → Option (List ℕ)
with_plain (Plain c) more = option_map (λ cs. c ∷ cs) more
with_plain (Escaped c) more = None

-- the text of pieces that all stand for themselves
abbrev pub plain_text : List Piece → Option (List ℕ)
plain_text [] = Some []
plain_text (piece ∷ more) = with_plain piece (plain_text more)
