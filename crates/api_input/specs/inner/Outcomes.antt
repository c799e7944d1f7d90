-- What a reading function of the code returns.
use Rattle.std.specs.Prelude.{◌≡◌, Result, Ok, Err, Option, Some, None, alloc_error}
use Rattle.std.specs.declared.alloc.AllocError.{AllocError}
use Rattle.api_input.specs.declared.fail.BodyFail.{BodyFail}
use Rattle.api_input.specs.declared.fail.BodyFail.TheVariants.{Form, Memory}

-- the definition gives none, unless memory ran out
abbrev pub Misses : {Y : Type 0} → BodyFail → Option Y → Type 0
Misses Form said = said ≡ None
Misses Memory said = Unit {0}

-- what a function returned, seen by view, is what the definition gives, unless memory ran out
abbrev pub Gives : {X Y : Type 0} → (X → Y) → Result X BodyFail → Option Y → Type 0
Gives view (Ok x) said = said ≡ Some (view x)
Gives view (Err e) said = Misses e said

-- what isn't of its form is none
abbrev pub outcome : {X : Type 0} → Result X BodyFail → Result (Option X) AllocError
outcome (Ok x) = Ok (Some x)
outcome (Err Form) = Ok None
outcome (Err Memory) = Err alloc_error
