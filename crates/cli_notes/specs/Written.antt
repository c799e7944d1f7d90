-- Bytes that are written.
use Rattle.std.specs.Prelude.{◌==◌, filter, length, List, ℕ}

abbrev pub line_feeds : (bytes : List ℕ) → ℕ
line_feeds bytes = length (filter (λ c. c == 10) bytes)

-- how many of the first bytes are kept
abbrev pub first_room : ℕ
first_room = 32
