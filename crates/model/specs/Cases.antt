-- What is made of a thing that may be missing, and lists whose elements are looked at with those before them.
use Rattle.std.specs.Prelude.{List, [], ◌∷◌, Option, Some, None}

-- what is made of the thing, if there is one, and else this
abbrev pub in_case : {A B : Type 0} → Option A → B → (A → B) → B
in_case None otherwise make = otherwise
in_case (Some x) otherwise make = make x

-- something in a list, and what is before it there, the nearest first
pub record Placed (X : Type 0) : Type 0 where
  pub before : List X
  pub it : X

-- each of a list, where these are before the first
abbrev pub with_before : {X : Type 0} → List X → List X → List (Placed X)
with_before before [] = []
with_before before (x ∷ xs) = record { before = before; it = x } ∷ with_before (x ∷ before) xs
