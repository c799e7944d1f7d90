-- What a slot holds.
use Rattle.std.specs.Prelude.{ℕ, zero, suc, List, [], ◌∷◌, Option, None}

-- what slots have at a place, or nothing where there is no such slot
abbrev pub slot_in : List (Option (List ℕ)) → ℕ → Option (List ℕ)
slot_in [] n = None
slot_in (t ∷ ts) zero = t
slot_in (t ∷ ts) (suc n) = slot_in ts n
