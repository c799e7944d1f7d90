-- The rests of a text, and which of them the parts of a pattern take whole. The text is given backwards.
use Rattle.std.specs.Prelude.{ℕ, Bool, true, false, ◌&&◌, ◌==◌, List, [], ◌∷◌, map, zip, Option, Some, None}
use Rattle.std.specs.List.{list_any}
use Rattle.soql.specs.Like.{take_whole, rest_behind}
use Rattle.soql.specs.declared.query.LikePart.{LikePart}

-- a rest of a text and all longer ones, the shortest first, by the characters before it, the nearest first
abbrev pub rests_from : List ℕ → List ℕ → List (List ℕ)
rests_from rest [] = rest ∷ []
rests_from rest (c ∷ before) = rest ∷ rests_from (c ∷ rest) before

-- what a test says of each rest, the shortest first
abbrev pub row : (List ℕ → Bool) → List ℕ → List Bool
row test backwards = map test (rests_from [] backwards)

-- whether these parts take each rest whole
abbrev pub row_of : List LikePart → List ℕ → List Bool
row_of parts = row (take_whole parts)

-- whether a prefix and then these parts take each rest whole
abbrev pub row_behind : List ℕ → List LikePart → List ℕ → List Bool
row_behind prefix parts = row (λ rest. list_any (take_whole parts) (rest_behind prefix rest))

-- whether a character is the wanted one, if one is wanted
abbrev pub suits : Option ℕ → ℕ → Bool
suits None c = true
suits (Some wanted) c = wanted == c

-- the row of one more character before each rest: the empty rest has none
abbrev pub with_one : Option ℕ → List ℕ → List Bool → List Bool
with_one wanted backwards taken = false ∷ map (λ p. suits wanted p.0 && p.1) (zip backwards taken)
