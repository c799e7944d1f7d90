-- What a reader of a whole text returns: the one value that the text spells, or the place of the first token that can't follow.
use Rattle.std.specs.Prelude.{◌≡◌, ℕ, ◌≤◌, ◌-◌, ◌==◌, if◌then◌else◌, List, [], ◌∷◌, length, map, take, slice_index_or, Option, Some, None, Result, Ok, Err}
use Rattle.base_grammar.specs.Part.{Part}
use Rattle.base_grammar.specs.Reader.{Outcome}
use Rattle.base_grammar.specs.declared.fail.ParseFail.{ParseFail}
use Rattle.base_grammar.specs.declared.fail.ParseFail.TheVariants.{Malformed, Memory}
use Rattle.base_grammar.specs.declared.token.Placed.{Placed}

-- The greatest number of tokens that open the part, and the place of the token behind them, or the end of the text.
pub record IsPlace {K A : Type 0} (part : Part K A) (tokens : List K) (starts : List ℕ) (end place : ℕ) : Type 0 where
  pub count : ℕ
  pub within : count ≤ length tokens
  pub opens : part.opens (take count tokens)
  pub greatest : (more : ℕ) → more ≤ length tokens → part.opens (take more tokens) → more ≤ count
  pub at : place ≡ slice_index_or starts count end

-- this value, unless out of memory
abbrev pub IsOrMemory : {A : Type 0} → Result A ParseFail → A → Type 0
IsOrMemory (Ok found) a = found ≡ a
IsOrMemory (Err (Malformed place)) a = ⊥
IsOrMemory (Err Memory) a = Unit {0}

-- each place that is returned is such
abbrev pub OnMalformed : {A : Type 0} → Result A ParseFail → (ℕ → Type 0) → Type 0
OnMalformed (Ok found) P = Unit {0}
OnMalformed (Err (Malformed place)) P = P place
OnMalformed (Err Memory) P = Unit {0}

-- the value that is returned, or the place, is such
abbrev pub UnlessMemory : {A : Type 0} → Result A ParseFail → (Result A ℕ → Type 0) → Type 0
UnlessMemory (Ok found) P = P (Ok found)
UnlessMemory (Err (Malformed place)) P = P (Err place)
UnlessMemory (Err Memory) P = Unit {0}

-- where some tokens begin
abbrev pub starts : List Placed → List ℕ
starts all = map (λ placed. placed.start) all

-- what a whole text reads as, once so much of its tokens was read: the value if no token is left, or the place of the first
-- that can't follow; the text ends at this byte
abbrev pub at_end : {K A : Type 0} → List ℕ → (end : ℕ) → Outcome K A → Result A ℕ
at_end starts end (Ok got) = if length got.1 == 0 then Ok got.0 else Err (slice_index_or starts (length starts - length got.1) end)
at_end starts end (Err left) = Err (slice_index_or starts (length starts - left) end)

-- what was read, if no token is left
abbrev pub if_last : {K A : Type 0} → A → List K → Option A
if_last a [] = Some a
if_last a (token ∷ more) = None

abbrev pub whole_of : {K A : Type 0} → Outcome K A → Option A
whole_of (Ok got) = if_last got.0 got.1
whole_of (Err left) = None
