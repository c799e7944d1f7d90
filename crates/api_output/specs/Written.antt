-- What is written.
use Rattle.std.specs.Prelude.{◌≡◌, ℕ, List, ◌++◌, encode_utf8_all, Result, OnOk}

-- if it went well, these characters are behind what was there, in UTF-8
abbrev pub Wrote : {A E : Type 0} → Result A E → (old new : List ℕ) → (characters : List ℕ) → Type 0
Wrote result old new characters = OnOk result (new ≡ old ++ encode_utf8_all characters)
