-- The keys that begin with one prefix are one interval.
use Rattle.std.specs.Prelude.{◌≡◌, ℕ, ◌+◌, ◌<◌, ◌==◌, if◌then◌else◌, List, [], ◌∷◌, ◌++◌, Option, Some, None, slice_index}

-- the key begins with these bytes
abbrev pub StartsWith : List ℕ → List ℕ → Type 0
StartsWith prefix key = (rest : List ℕ) × (key ≡ prefix ++ rest)

-- each number is a byte
abbrev pub AreBytes : List ℕ → Type 0
AreBytes key = (i : ℕ) → slice_index key i < 256

-- a byte before bytes that are raised to these; if they can't be, it is raised itself
abbrev pub raised_from : ℕ → Option (List ℕ) → Option (List ℕ)
raised_from byte (Some bytes) = Some (byte ∷ bytes)
raised_from byte None = if byte == 255 then None else Some ((byte + 1) ∷ [])

-- without the bytes 255 at the end, and the last byte one higher; none where all are 255
abbrev pub raised : List ℕ → Option (List ℕ)
raised [] = None
raised (byte ∷ bytes) = raised_from byte (raised bytes)
