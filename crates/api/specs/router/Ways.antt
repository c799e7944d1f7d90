-- A table of lines, each with a method and a pattern, and what it answers: the request of the first line that has both, or why there is none.
use Rattle.std.specs.Prelude.{ℕ, List, [], ◌∷◌, Bool, true, false, cond, Option, Some, None, is_some, ◌&&◌, ◌||◌, bytes_eq}
use Rattle.std.specs.Option.{option_map}
use Rattle.matchit.specs.Seek.{same_text}
use Rattle.api.specs.router.Pick.{Piece, text, param}
use Rattle.api.specs.router.Find.{path_parts}

-- a method, a pattern, and the request of the parts
abbrev pub MethodWay : Type 0 → Type 0
MethodWay R = List ℕ × (List Piece × (List (List ℕ) → R))

-- two patterns are the same
abbrev pub same_pieces : List Piece → List Piece → Bool
same_pieces [] [] = true
same_pieces [] (y ∷ q) = false
same_pieces (x ∷ p) [] = false
same_pieces (text a ∷ p) (text b ∷ q) = same_text a b && same_pieces p q
same_pieces (text a ∷ p) (param ∷ q) = false
same_pieces (param ∷ p) (text b ∷ q) = false
same_pieces (param ∷ p) (param ∷ q) = same_pieces p q

-- no path has both patterns
abbrev pub never_both : List Piece → List Piece → Bool
never_both [] [] = false
never_both [] (y ∷ q) = true
never_both (x ∷ p) [] = true
never_both (text a ∷ p) (text b ∷ q) = cond (same_text a b) (never_both p q) true
never_both (text a ∷ p) (param ∷ q) = false
never_both (param ∷ p) (text b ∷ q) = false
never_both (param ∷ p) (param ∷ q) = never_both p q

module _ {R : Type 0} where
  abbrev pub or_way : Option R → Option R → Option R
  or_way None other = other
  or_way (Some r) other = Some r

  abbrev pub by_method : Bool → Option R → Option R
  by_method b r = cond b r None

  -- the request of the first line that has the method and the pattern
  abbrev pub first_by_path : List ℕ → List (List ℕ) → List (MethodWay R) → Option R
  first_by_path method path [] = None
  first_by_path method path ((m, (q, made)) ∷ r) =
      or_way (by_method (bytes_eq method m) (option_map made (path_parts q path))) (first_by_path method path r)

  abbrev pub any_by_path : List (List ℕ) → List (MethodWay R) → Bool
  any_by_path path [] = false
  any_by_path path ((m, (q, made)) ∷ r) = is_some (path_parts q path) || any_by_path path r

  -- the same by the lines of one pattern, whose parts are known
  abbrev pub first_by_pattern : List ℕ → List (List ℕ) → List Piece → List (MethodWay R) → Option R
  first_by_pattern method parts p [] = None
  first_by_pattern method parts p ((m, (q, made)) ∷ r) =
      cond (same_pieces p q) (or_way (by_method (bytes_eq method m) (Some (made parts))) (first_by_pattern method parts p r)) (first_by_pattern method parts p r)

  abbrev pub any_by_pattern : List Piece → List (MethodWay R) → Bool
  any_by_pattern p [] = false
  any_by_pattern p ((m, (q, made)) ∷ r) = cond (same_pieces p q) true (any_by_pattern p r)

  -- each line has this pattern, or one that no path has with it
  abbrev pub decides : List Piece → List (MethodWay R) → Bool
  decides p [] = true
  decides p ((m, (q, made)) ∷ r) = cond (same_pieces p q) true (never_both p q) && decides p r

module _ {K : Type 0} where
  -- each line's pattern is the one of what it leads to
  abbrev pub agrees : (K → List Piece) → List (List Piece × K) → Bool
  agrees f [] = true
  agrees f ((ps, k) ∷ r) = same_pieces (f k) ps && agrees f r

  -- some line has this pattern
  abbrev pub has_pattern : List (List Piece × K) → List Piece → Bool
  has_pattern [] q = false
  has_pattern ((ps, k) ∷ r) q = cond (same_pieces ps q) true (has_pattern r q)

module _ {K R : Type 0} where
  -- the table has each line's pattern
  abbrev pub has_patterns : List (List Piece × K) → List (MethodWay R) → Bool
  has_patterns ls [] = true
  has_patterns ls ((m, (q, made)) ∷ r) = has_pattern ls q && has_patterns ls r
