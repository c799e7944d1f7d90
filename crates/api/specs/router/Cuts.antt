-- A path cut at its slashes.
use Rattle.std.specs.Prelude.{◌≡◌, ℕ, Bool, ◌==◌, List, [], ◌∷◌, ◌++◌, Option, None}
use Rattle.std.specs.List.{slice_split}
use Rattle.std.specs.Str.{IsUtf8}
use Rattle.matchit.specs.Seek.{slash}
use Rattle.api.specs.router.Pick.{AllPlain, IsPlain, PatternOf, slashed}
use Rattle.api.specs.router.Find.{find}

abbrev pub is_slash : ℕ → Bool
is_slash b = b == slash

abbrev pub AllUtf8 : List (List ℕ) → Type 0
AllUtf8 [] = Unit {0}
AllUtf8 (s ∷ ss) = IsUtf8 s × AllUtf8 ss

-- what is before the first slash of a path, and its segments: what is behind each slash, up to the next
pub record Cut (path : List ℕ) : Type 0 where
  pub front : List ℕ
  pub segments : List (List ℕ)
  pub are : slice_split is_slash path ≡ front ∷ segments
  pub whole : path ≡ front ++ slashed segments
  pub plain : IsPlain front
  pub all_plain : AllPlain segments
  pub text : IsUtf8 front
  pub all_text : AllUtf8 segments

-- the first pattern that a path has: it has none if anything is before its first slash
abbrev pub find_from : {K : Type 0} → List (PatternOf K) → (front : List ℕ) → (segments : List (List ℕ)) → Option K
find_from ls [] segments = find ls segments
find_from ls (b ∷ s) segments = None
