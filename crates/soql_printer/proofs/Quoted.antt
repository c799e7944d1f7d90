-- Texts and patterns between quotes.
use Rattle.std.proofs.Common.{◌≡◌, ◌==◌, ◌||◌, ℕ, ◌+◌, Bool, true, false, if◌then◌else◌, List, [], ◌∷◌, ◌++◌, length, map, Some, refl, ◌∙◌, ap, subst, append_assoc, length-append, arith}
use Rattle.std.specs.List.{flat_map}
use Rattle.std.proofs.lemmas.Bool.Decides.{nat_tests}
use Rattle.base_grammar.specs.declared.classes.Class.TheVariants.{Quote}
use Rattle.base_grammar.specs.declared.token.Piece.{Piece}
use Rattle.base_grammar.specs.declared.token.Piece.TheVariants.{Plain, Escaped}
use Rattle.base_grammar.specs.Counts.{plain_text}
use Rattle.base_grammar.specs.Tokens.{is_blank, is_letter, begins_run, class_of, with_piece, pieces_of, text_len, text_token}
use Rattle.base_grammar.specs.Lexing.{token_len, token_of}
use Rattle.base_value.specs.Numerals.{is_digit}
use Rattle.soql.specs.grammar.Grammar.{part_of, parts_of}
use Rattle.soql.specs.Lexis.{lexis, escaped}
use Rattle.soql.specs.grammar.Signs.{sign_of}
use Rattle.soql.specs.declared.query.LikePart.{LikePart}
use Rattle.soql.specs.declared.query.LikePart.TheVariants as like
use Rattle.soql.specs.declared.grammar.sign.Sign.{Sign}
use Rattle.soql.specs.declared.grammar.sign.Sign.TheVariants as sign
use Rattle.soql_printer.specs.Printing.{escaped_if, is_special, is_wildcard, printed_character, printed_part, quoted}
use Rattle.soql_printer.proofs.Lexed.{Reads, nothing, one_reads}

-- ---- one piece
-- these characters of a text are this piece, whatever follows
pub record IsPiece (cs : List ℕ) (piece : Piece) : Type 0 where
  pub len : (rest : List ℕ) → text_len lexis (cs ++ rest) false ≡ length cs + text_len lexis rest false
  pub pieces : (rest : List ℕ) → pieces_of lexis (cs ++ rest) false ≡ with_piece (Some piece) (pieces_of lexis rest false)

plain : (c : ℕ) → (c == 39) ≡ false → (c == 92) ≡ false → IsPiece (c ∷ []) (Plain c)
plain c q b = record { len = λ rest. rw (q, b) refl; pieces = λ rest. rw (q, b) refl }

behind_backslash : (c : ℕ) (piece : Piece) → escaped c ≡ Some piece → IsPiece (92 ∷ c ∷ []) piece
behind_backslash c piece e = record { len = λ rest. omega arith; pieces = λ rest. rw e refl }

special_is : (c : ℕ) → is_special c ≡ true → escaped c ≡ Some (Plain c)
unfolding escaped
special_is c h = go (c == 39) refl
  where
    go : (b : Bool) → (c == 39) ≡ b → escaped c ≡ Some (Plain c)
    go true e = let same : c ≡ 39 = grind (arith, nat_tests) in rw same refl
    go false e = let other : (c == 92) ≡ true = rw e at h in let same : c ≡ 92 = grind (arith, nat_tests) in rw same refl

wildcard_is : (c : ℕ) → is_wildcard c ≡ true → escaped c ≡ Some (Escaped c)
unfolding escaped
wildcard_is c h = go (c == 37) refl
  where
    go : (b : Bool) → (c == 37) ≡ b → escaped c ≡ Some (Escaped c)
    go true e = let same : c ≡ 37 = grind (arith, nat_tests) in rw same refl
    go false e = let other : (c == 95) ≡ true = rw e at h in let same : c ≡ 95 = grind (arith, nat_tests) in rw same refl

not_special : (c : ℕ) → is_special c ≡ false → ((c == 39) ≡ false) × ((c == 92) ≡ false)
not_special c h = go (c == 39) (c == 92) refl refl h
  where
    go : (a b : Bool) → (c == 39) ≡ a → (c == 92) ≡ b → (a || b) ≡ false → ((c == 39) ≡ false) × ((c == 92) ≡ false)
    go true b e f h = absurd (cc)
    go false true e f h = absurd (cc)
    go false false e f h = (e, f)

character_is : (c : ℕ) → IsPiece (printed_character c) (Plain c)
unfolding printed_character
character_is c = go (is_special c) refl
  where
    go : (b : Bool) → is_special c ≡ b → IsPiece (escaped_if b c) (Plain c)
    go true e = behind_backslash c (Plain c) (special_is c e)
    go false e = let n = not_special c e in plain c n.0 n.1

-- the piece that a part of a pattern is written as
abbrev pub piece_of : LikePart → Piece
piece_of like.One = Plain 95
piece_of like.Many = Plain 37
piece_of (like.Exact c) = if is_wildcard c then Escaped c else Plain c

part_is : (part : LikePart) → IsPiece (printed_part part) (piece_of part)
unfolding printed_part
part_is like.One = plain 95 refl refl
part_is like.Many = plain 37 refl refl
part_is (like.Exact c) = go (is_special c) (is_wildcard c) refl refl
  where
    both : is_special c ≡ true → is_wildcard c ≡ true → ⊥
    both e f = grind (arith, nat_tests)

    go : (a b : Bool) → is_special c ≡ a → is_wildcard c ≡ b → IsPiece (escaped_if (a || b) c) (if b then Escaped c else Plain c)
    go true true e f = absurd (both e f)
    go true false e f = behind_backslash c (Plain c) (special_is c e)
    go false true e f = behind_backslash c (Escaped c) (wildcard_is c f)
    go false false e f = let n = not_special c e in plain c n.0 n.1

part_back : (part : LikePart) → part_of (piece_of part) ≡ part
unfolding part_of
part_back like.One = refl
part_back like.Many = refl
part_back (like.Exact c) = go (c == 37) (c == 95) refl refl
  where
    go : (a b : Bool) → (c == 37) ≡ a → (c == 95) ≡ b → part_of (if (a || b) then Escaped c else Plain c) ≡ like.Exact c
    go true b e f = refl
    go false true e f = refl
    go false false e f = rw (e, f) refl

pub parts_back : (parts : List LikePart) → parts_of (map piece_of parts) ≡ parts
parts_back [] = refl
parts_back (part ∷ parts) = (λ i. part_back part i ∷ parts_back parts i)

pub plain_back : (cs : List ℕ) → plain_text (map Plain cs) ≡ Some cs
plain_back [] = refl
plain_back (c ∷ cs) = rw (plain_back cs) refl

-- ---- all of a text
module _ {A : Type 0} (print : A → List ℕ) (piece : A → Piece) (is : (a : A) → IsPiece (print a) (piece a)) where
  all_len : (all : List A) (rest : List ℕ) → text_len lexis (flat_map print all ++ 39 ∷ rest) false ≡ length (flat_map print all) + 1
  all_len [] rest = omega arith
  all_len (a ∷ all) rest =
      ap (λ z. text_len lexis z false) (append_assoc (print a) (flat_map print all) (39 ∷ rest))
      ∙ (is a).len (flat_map print all ++ 39 ∷ rest) ∙ omega (arith, all_len all rest, length-append (print a) (flat_map print all))

  all_pieces : (all : List A) → pieces_of lexis (flat_map print all ++ 39 ∷ []) false ≡ Some (map piece all)
  all_pieces [] = refl
  all_pieces (a ∷ all) =
      ap (λ z. pieces_of lexis z false) (append_assoc (print a) (flat_map print all) (39 ∷ []))
      ∙ (is a).pieces (flat_map print all ++ 39 ∷ []) ∙ ap (λ z. with_piece (Some (piece a)) z) (all_pieces all)

  pub quoted_reads : (all : List A) → Reads nothing (quoted (flat_map print all)) (sign.Text (map piece all) ∷ [])
  unfolding class_of is_blank is_letter begins_run is_digit token_len token_of text_token
  quoted_reads all =
      let pieces : sign_of (token_of lexis Quote 39 (flat_map print all ++ 39 ∷ [])) ≡ sign.Text (map piece all) = rw (all_pieces all) refl in
      let P : Sign → Type 0 = λ s. Reads nothing (quoted (flat_map print all)) (s ∷ []) in
      subst P pieces (one_reads nothing 39 (flat_map print all ++ 39 ∷ []) Quote refl (λ x. cc) (λ rest f. len rest))
    where
      len : (rest : List ℕ) → token_len lexis Quote 39 ((flat_map print all ++ 39 ∷ []) ++ rest) ≡ length (flat_map print all ++ 39 ∷ [])
      len rest =
          ap (λ z. text_len lexis z false) (append_assoc (flat_map print all) (39 ∷ []) rest)
          ∙ all_len all rest ∙ omega (arith, length-append (flat_map print all) (39 ∷ []))

pub text_reads : (cs : List ℕ) → Reads nothing (quoted (flat_map printed_character cs)) (sign.Text (map Plain cs) ∷ [])
text_reads cs = quoted_reads printed_character Plain character_is cs

pub pattern_reads : (parts : List LikePart) → Reads nothing (quoted (flat_map printed_part parts)) (sign.Text (map piece_of parts) ∷ [])
pattern_reads parts = quoted_reads printed_part piece_of part_is parts
