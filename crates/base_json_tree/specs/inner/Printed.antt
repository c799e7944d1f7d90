-- The parts of a value that is written.
use Rattle.std.specs.Prelude.{◌≡◌, ℕ, zero, suc, List, [], ◌∷◌, ◌++◌, encode_utf8_all, map, Result, OnOk}
use Rattle.base_json.specs.Whole.{joined, printed, printed_member}
use Rattle.base_json.specs.declared.tree.Json.{Json}
use Rattle.base_json.specs.declared.tree.Member.{Member}

-- if it went well, these characters are behind what was there, in UTF-8
abbrev pub Wrote : {A E : Type 0} → Result A E → (old new : List ℕ) → (characters : List ℕ) → Type 0
Wrote result old new characters = OnOk result (new ≡ old ++ encode_utf8_all characters)

-- the comma before all but the first
abbrev pub comma_at : ℕ → List ℕ
comma_at zero = []
comma_at (suc place) = 44 ∷ []

-- what is between the brackets of a list in which so many may be open, its own among them
abbrev pub items_at : ℕ → List Json → List ℕ
items_at zero items = []
items_at (suc levels) items = joined (map (printed levels) items)

-- what is between the braces of an object
abbrev pub members_at : ℕ → List Member → List ℕ
members_at zero members = []
members_at (suc levels) members = joined (map (printed_member (printed levels)) members)

-- a list
abbrev pub in_list : ℕ → List Json → List ℕ
in_list levels items = 91 ∷ (items_at levels items ++ 93 ∷ [])

-- an object
abbrev pub in_object : ℕ → List Member → List ℕ
in_object levels members = 123 ∷ (members_at levels members ++ 125 ∷ [])
