-- The line of a path in a table of which no two lines meet a segment both as a text and as a parameter.
use Rattle.std.specs.Prelude.{ℕ, List, [], ◌∷◌, Bool, true, false, cond, Option, Some, None, is_some, ◌&&◌, ◌+◌}
use Rattle.std.specs.Option.{option_map}
use Rattle.matchit.specs.Seek.{same_text}
use Rattle.api.specs.router.Pick.{Piece, text, param, PatternOf}

-- a part of a path isn't empty
abbrev pub with_part : List ℕ → Option (List (List ℕ)) → Option (List (List ℕ))
with_part [] more = None
with_part (b ∷ s) more = option_map (λ parts. (b ∷ s) ∷ parts) more

-- the parts of a path that has the pattern
abbrev pub path_parts : List Piece → List (List ℕ) → Option (List (List ℕ))
path_parts [] [] = Some []
path_parts [] (s ∷ ss) = None
path_parts (p ∷ ps) [] = None
path_parts (text t ∷ ps) (s ∷ ss) = cond (same_text t s) (path_parts ps ss) None
path_parts (param ∷ ps) (s ∷ ss) = with_part s (path_parts ps ss)

-- the two patterns part, if at all, at texts, or one of them ends
abbrev pub clear_of : List Piece → List Piece → Bool
clear_of [] q = true
clear_of (x ∷ p) [] = true
clear_of (text a ∷ p) (text b ∷ q) = cond (same_text a b) (clear_of p q) true
clear_of (text a ∷ p) (param ∷ q) = false
clear_of (param ∷ p) (text b ∷ q) = false
clear_of (param ∷ p) (param ∷ q) = clear_of p q

module _ {K : Type 0} where
  -- the first line whose pattern the path has
  abbrev pub find : List (PatternOf K) → List (List ℕ) → Option K
  find [] path = None
  find ((ps, k) ∷ r) path = cond (is_some (path_parts ps path)) (Some k) (find r path)

  abbrev pub clear_of_all : List Piece → List (PatternOf K) → Bool
  clear_of_all p [] = true
  clear_of_all p ((q, k) ∷ r) = clear_of p q && clear_of_all p r

  abbrev pub all_clear : List (PatternOf K) → Bool
  all_clear [] = true
  all_clear ((p, k) ∷ r) = clear_of_all p r && all_clear r

-- how many parameters a pattern has
abbrev pub arity : List Piece → ℕ
arity [] = 0
arity (text t ∷ ps) = arity ps
arity (param ∷ ps) = arity ps + 1
