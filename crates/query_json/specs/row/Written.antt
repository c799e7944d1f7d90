-- What is written.
use Rattle.std.specs.Prelude.{◌≡◌, ℕ, List, ◌++◌, Result, Ok, Err}
use Rattle.store_codec.specs.declared.fail.CodecFail.{CodecFail}
use Rattle.store_codec.specs.declared.fail.CodecFail.TheVariants.{Damaged, Memory}

-- these bytes were appended, or it is out of memory
abbrev pub Puts : (bytes : List ℕ) → (old new : List ℕ) → Result (Unit {0}) CodecFail → Type 0
Puts bytes old new (Ok x) = new ≡ old ++ bytes
Puts bytes old new (Err Damaged) = ⊥
Puts bytes old new (Err Memory) = Unit {0}
