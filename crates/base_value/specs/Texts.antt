-- Texts in lower case, and texts that are compared folded.
-- Source of the folding: The Unicode Standard, section 3.13, toCasefold.
use Rattle.std.specs.Prelude.{ℕ, Bool, true, not, ◌&&◌, List, [], ◌∷◌, map, bytes_eq}
use Rattle.std.specs.List.{list_any}
use Rattle.std.specs.Char.{to_ascii_lowercase}
use Rattle.std.specs.declared.cmp.Ordering.{Ordering}
use Rattle.std.specs.Ordering.{nat_cmp}
use Rattle.std.specs.Cmp.Lexicographic.{slice_cmp}
use Rattle.caseless.specs.Caseless.{default_case_fold}

-- a text with its ASCII letters in lower case
abbrev pub lower : List ℕ → List ℕ
lower = map to_ascii_lowercase

-- no two texts are equal
abbrev pub texts_differ : List (List ℕ) → Bool
texts_differ [] = true
texts_differ (x ∷ xs) = not (list_any (bytes_eq x) xs) && texts_differ xs

-- the order of texts: that of their folded characters, number by number
abbrev pub text_cmp : List ℕ → List ℕ → Ordering
text_cmp a b = slice_cmp nat_cmp (default_case_fold a) (default_case_fold b)
