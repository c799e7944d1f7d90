-- The first line of a file, by its first bytes.
use Rattle.std.specs.Prelude.{◌≡◌, ◌==◌, ◌⊎◌, ℕ, Bool, ◌||◌, nat_lt, true, List, [], ◌++◌, length, take, position}
use Rattle.std.specs.List.{list_any}
use Rattle.std.specs.Option.{option_map_or}
use Rattle.std.specs.Str.Lines.{strip_carriage_return}

abbrev pub is_feed : ℕ → Bool
is_feed c = c == 10

-- the bytes before the first line feed, and before a carriage return right before it; all of them if there is no line feed
abbrev pub first_line : List ℕ → List ℕ
first_line bytes = option_map_or (λ end. strip_carriage_return (take end bytes)) (position is_feed bytes) bytes

-- how many bytes a secret and its line end have at most
abbrev pub most_needed : ℕ
most_needed = 66

-- nothing behind these bytes matters: they have a line feed, or are more than a secret has
abbrev pub is_enough : List ℕ → Bool
is_enough front = nat_lt most_needed (length front) || list_any is_feed front

-- these are the first of all the bytes: so many that no other matters, or all
pub record IsFront (front all : List ℕ) : Type 0 where
  pub rest : List ℕ
  pub whole : all ≡ front ++ rest
  pub ends : (rest ≡ []) ⊎ (is_enough front ≡ true)

-- a line is the first one of such bytes
pub record IsLineOf (line all : List ℕ) : Type 0 where
  pub front : List ℕ
  pub is_front : IsFront front all
  pub line_is : line ≡ first_line front
