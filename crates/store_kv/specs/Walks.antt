-- What the layers above say of a walk over a table.
use Rattle.std.specs.Prelude.{ℕ, List, [], ◌∷◌, ◌++◌}

-- the least key above a key: that key and a byte 00
abbrev pub next_above : List ℕ → List ℕ
next_above key = key ++ 0 ∷ []
