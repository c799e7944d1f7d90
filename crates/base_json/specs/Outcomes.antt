-- What a reading function of the code returns.
use Rattle.std.specs.Prelude.{◌≡◌, ℕ, List, ◌++◌, Result, Ok, Err, Option, Some, None}
use Rattle.base_json.specs.declared.JsonFail.{JsonFail}
use Rattle.base_json.specs.declared.JsonFail.TheVariants.{NotJson, Memory}

-- nothing is read, unless memory ran out
abbrev pub Misses : {Y : Type 0} → JsonFail → Option Y → Type 0
Misses NotJson read = read ≡ None
Misses Memory read = Unit {0}

-- what a function returned, seen by view, is what reading gives, unless memory ran out
abbrev pub Gives : {X Y : Type 0} → (X → Y) → Result X JsonFail → Option Y → Type 0
Gives view (Ok x) read = read ≡ Some (view x)
Gives view (Err e) read = Misses e read

-- the same of an Option
abbrev pub Finds : {X Y : Type 0} → (X → Y) → Option X → Option Y → Type 0
Finds view (Some x) read = read ≡ Some (view x)
Finds view None read = read ≡ None

-- bytes that begin with these
abbrev pub BeginsWith : (bytes front : List ℕ) → Type 0
BeginsWith bytes front = (more : List ℕ) × (bytes ≡ front ++ more)
