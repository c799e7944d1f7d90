-- Inputs that a source may have had.
use Rattle.std.proofs.Common.{◌≡◌, ◌<◌, length, inr, ℕ, suc, Bool, List, [], replicate, Option, Some, None, pos, refl, ap, arith}
use Rattle.std.proofs.lemmas.List.{length-replicate}
use Rattle.std.specs.Prelude.{IfSome}
use Rattle.cmd_load.specs.Batches.{MayTell}
use Rattle.cmd_csvq.specs.Outcomes.{input_outcome}
use Rattle.cmd_csvq.proofs.Turns.{too_large}
use Rattle.model.specs.declared.refusal.Refusal.TheVariants.{InputTooLarge}
use Rattle.soql.specs.declared.query.Query.{Query}
use Rattle.commands.specs.Csvq.{outcome_printout}
use Rattle.commands.specs.Printed.{refused}
use Rattle.commands.specs.Statuses.{MayBe}

-- some bytes that a source may have had
pub some_input : (used : Bool) (left : Option (List ℕ)) → (bytes : List ℕ) × MayBe used left bytes
some_input used None = ([], inr tt)
some_input used (Some known) = (known, inr refl)

zeros : (n : ℕ) → List ℕ
zeros n = replicate (suc n) 0

longer : (n : ℕ) → n < length (zeros n)
unfolding zeros
longer n = let is = length-replicate {A = ℕ} (suc n) 0 in omega (arith, is)

-- an input that is too long
pub too_long_input : (n : ℕ) (left : Option (List ℕ)) → IfSome left (λ all. n < length all) → (bytes : List ℕ) × MayTell left bytes × (n < length bytes)
too_long_input n None long = (zeros n, tt, longer n)
too_long_input n (Some all) long = (all, refl, long)

pub too_long_printout : (q : Query) (now : ℕ) (bytes : List ℕ) → 67108864 < length bytes → refused InputTooLarge ≡ outcome_printout (input_outcome q (pos now) bytes)
too_long_printout q now bytes long = ap outcome_printout (too_large q now bytes long)
