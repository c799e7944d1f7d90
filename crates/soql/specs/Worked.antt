-- Words of the worked rows of LIKE.
use Rattle.std.specs.Prelude.{ℕ, List, [], ◌∷◌, ◌++◌, map, codes}
use Rattle.soql.specs.declared.query.LikePart.{LikePart}
use Rattle.soql.specs.declared.query.LikePart.TheVariants as part

-- a part for each of these characters
abbrev pub exactly : List ℕ → List LikePart
exactly = map part.Exact

-- `a%b`
abbrev pub a_to_b : List LikePart
a_to_b = exactly (codes "a") ++ part.Many ∷ exactly (codes "b")

-- `ß`, whose folding is `ss`
abbrev pub sharp_s : List ℕ
sharp_s = 0xDF ∷ []

-- `Straße`
abbrev pub street : List ℕ
street = codes "Stra" ++ sharp_s ++ codes "e"

-- the Greek letter sigma: a capital one, and a small one at the end of a word
abbrev pub sigma : List ℕ
sigma = 0x3A3 ∷ []

abbrev pub final_sigma : List ℕ
final_sigma = 0x3C2 ∷ []

-- `é` as one character, and as `e` with an accent behind it
abbrev pub accented_e : List ℕ
accented_e = 0xE9 ∷ []

abbrev pub e_and_accent : List ℕ
e_and_accent = codes "e" ++ 0x301 ∷ []
