-- Routing by whole segments, each a text or a parameter.
use Rattle.std.specs.Prelude.{Bool, true, ltb, not, ◌==◌, ◌&&◌, ◌≢◌, ℕ, ◌<◌, List, [], ◌∷◌, ◌++◌, Option, Some, None, cond}
use Rattle.matchit.specs.Rows.{RowsOf, param_token}
use Rattle.matchit.specs.Seek.{slash, same_text, or_else}

-- a piece of a pattern: a text, or a parameter, which takes a segment of at least one byte
pub data Piece : Type 0 where
  text : List ℕ → Piece
  param : Piece

abbrev pub piece_tokens : Piece → List ℕ
piece_tokens (text t) = t
piece_tokens param = param_token ∷ []

-- the tokens of a pattern: a slash in front of each piece
abbrev pub tokens : List Piece → List ℕ
tokens [] = []
tokens (p ∷ ps) = slash ∷ (piece_tokens p ++ tokens ps)

-- the bytes of a path: a slash in front of each segment
abbrev pub slashed : List (List ℕ) → List ℕ
slashed [] = []
slashed (s ∷ ss) = slash ∷ (s ++ slashed ss)

-- bytes without a slash
abbrev pub IsPlain : List ℕ → Type 0
IsPlain [] = Unit {0}
IsPlain (b ∷ bs) = (b < 256) × (b ≢ 47) × IsPlain bs

abbrev pub AllPlain : List (List ℕ) → Type 0
AllPlain [] = Unit {0}
AllPlain (s ∷ ss) = IsPlain s × AllPlain ss

abbrev pub IsPlainPattern : List Piece → Type 0
IsPlainPattern [] = Unit {0}
IsPlainPattern (text t ∷ ps) = IsPlain t × IsPlainPattern ps
IsPlainPattern (param ∷ ps) = IsPlainPattern ps

-- the same as a test
abbrev pub is_plain_text : List ℕ → Bool
is_plain_text [] = true
is_plain_text (b ∷ bs) = ltb b 256 && (not (b == 47) && is_plain_text bs)

abbrev pub is_plain_pattern : List Piece → Bool
is_plain_pattern [] = true
is_plain_pattern (text t ∷ ps) = is_plain_text t && is_plain_pattern ps
is_plain_pattern (param ∷ ps) = is_plain_pattern ps

-- a pattern and what it leads to
abbrev pub PatternOf : Type 0 → Type 0
PatternOf K = List Piece × K

module _ {K : Type 0} where
  abbrev pub ArePlain : List (PatternOf K) → Type 0
  ArePlain [] = Unit {0}
  ArePlain ((ps, k) ∷ r) = IsPlainPattern ps × ArePlain r

  abbrev pub are_plain : List (PatternOf K) → Bool
  are_plain [] = true
  are_plain ((ps, k) ∷ r) = is_plain_pattern ps && are_plain r

  -- the rows of a router with these patterns
  abbrev pub router_rows : List (PatternOf K) → RowsOf K
  router_rows [] = []
  router_rows ((ps, k) ∷ r) = (tokens ps, k) ∷ router_rows r

  -- the first line that ends here
  abbrev pub ends_here : List (PatternOf K) → Option K
  ends_here [] = None
  ends_here (([], k) ∷ r) = Some k
  ends_here ((p ∷ ps, k) ∷ r) = ends_here r

  -- the lines that go on with this text, with it gone
  abbrev pub past_text : List ℕ → List (PatternOf K) → List (PatternOf K)
  past_text s [] = []
  past_text s (([], k) ∷ r) = past_text s r
  past_text s ((text t ∷ ps, k) ∷ r) = cond (same_text t s) ((ps, k) ∷ past_text s r) (past_text s r)
  past_text s ((param ∷ ps, k) ∷ r) = past_text s r

  -- the lines that go on with a parameter, with it gone
  abbrev pub past_param : List (PatternOf K) → List (PatternOf K)
  past_param [] = []
  past_param (([], k) ∷ r) = past_param r
  past_param ((text t ∷ ps, k) ∷ r) = past_param r
  past_param ((param ∷ ps, k) ∷ r) = (ps, k) ∷ past_param r

  -- a parameter takes no empty segment
  abbrev pub if_some : List ℕ → Option K → Option K
  if_some [] x = None
  if_some (b ∷ s) x = x

  -- the line of a path, by segments
  abbrev pub pick : List (PatternOf K) → List (List ℕ) → Option K
  pick rs [] = ends_here rs
  pick rs (s ∷ ss) = or_else (pick (past_text s rs) ss) (if_some s (pick (past_param rs) ss))
