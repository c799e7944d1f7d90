-- Texts that are like a pattern.
-- Source: Salesforce, "SOQL and SOSL Reference", "Comparison Operators": in LIKE `%` takes any characters, also none, and `_` one, and
-- case is ignored. That case is ignored by folding, so that `ß` is two characters, is this product's own.
use Rattle.std.specs.Prelude.{ℕ, Bool, true, false, if◌then◌else◌, nat_eq, List, [], ◌∷◌, length, drop}
use Rattle.std.specs.List.{list_any, starts_with}
use Rattle.caseless.specs.Caseless.{default_case_fold}
use Rattle.soql.specs.declared.query.LikePart.{LikePart}
use Rattle.soql.specs.declared.query.LikePart.TheVariants as part

-- what is behind a prefix, if the characters begin with it
abbrev pub rest_behind : List ℕ → List ℕ → List (List ℕ)
rest_behind prefix cs = if starts_with nat_eq cs prefix then drop (length prefix) cs ∷ [] else []

-- what is behind each prefix, the empty one included
abbrev pub rests : List ℕ → List (List ℕ)
rests [] = [] ∷ []
rests (c ∷ cs) = (c ∷ cs) ∷ rests cs

-- what may be left of folded characters when a part has taken its own: one character, any run, or the folding of a character
abbrev pub left_by : LikePart → List ℕ → List (List ℕ)
left_by part.One [] = []
left_by part.One (c ∷ cs) = cs ∷ []
left_by part.Many cs = rests cs
left_by (part.Exact c) cs = rest_behind (default_case_fold (c ∷ [])) cs

-- whether some parts take folded characters whole: no parts take none, and the others take something that the first part leaves
abbrev pub take_whole : List LikePart → List ℕ → Bool
take_whole [] [] = true
take_whole [] (c ∷ cs) = false
take_whole (first ∷ parts) cs = list_any (take_whole parts) (left_by first cs)

-- whether a text is like a pattern of these parts
abbrev pub like : List LikePart → List ℕ → Bool
like parts characters = take_whole parts (default_case_fold characters)
