-- What a reader answers is what the grammar gives, unless memory ran out.
use Rattle.std.specs.Prelude.{◌≡◌, Option, Some, None, Result, Ok, Err}
use Rattle.store_codec.specs.declared.fail.CodecFail.{CodecFail}
use Rattle.store_codec.specs.declared.fail.CodecFail.TheVariants.{Damaged, Memory}

-- `Damaged` comes exactly where the grammar gives nothing
abbrev pub Fails : {Y : Type 0} → CodecFail → Option Y → Type 0
Fails Memory read = Unit {0}
Fails Damaged read = read ≡ None

-- the same for a value that contracts see by `view`
abbrev pub GivesBy : {X Y : Type 0} → (X → Y) → Result X CodecFail → Option Y → Type 0
GivesBy view (Ok x) read = read ≡ Some (view x)
GivesBy view (Err e) read = Fails e read

abbrev pub Gives : {X : Type 0} → Result X CodecFail → Option X → Type 0
Gives (Ok x) read = read ≡ Some x
Gives (Err e) read = Fails e read
