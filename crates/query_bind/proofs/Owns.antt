-- What is so of everything is so of what was returned.
use Rattle.std.specs.Prelude.{Result, Ok, Err, IfOk}

pub any_ok : {A E : Type 0} {Q : A → Type 0} (r : Result A E) → ((x : A) → Q x) → IfOk r Q
any_ok (Ok x) f = f x
any_ok (Err e) f = tt
