-- What is given of a record.
use Rattle.std.specs.Prelude.{◌≡◌, Result, Ok, Err}
use Rattle.store_codec.specs.declared.fail.CodecFail.{CodecFail}
use Rattle.store_codec.specs.declared.fail.CodecFail.TheVariants.{Damaged, Memory}

-- this was given, or it is out of memory: the record isn't damaged
abbrev pub GivesJust : {X : Type 0} → X → Result X CodecFail → Type 0
GivesJust x (Ok y) = y ≡ x
GivesJust x (Err Damaged) = ⊥
GivesJust x (Err Memory) = Unit {0}

-- the same for a value that contracts see by `view`
abbrev pub GivesBy : {X Y : Type 0} → (X → Y) → Y → Result X CodecFail → Type 0
GivesBy view y (Ok x) = view x ≡ y
GivesBy view y (Err Damaged) = ⊥
GivesBy view y (Err Memory) = Unit {0}
