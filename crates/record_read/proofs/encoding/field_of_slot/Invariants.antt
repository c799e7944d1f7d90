use Rattle.std.proofs.Common.{◌≡◌, ℕ, drop, eqb}
use Rattle.std.specs.List.{enumerate_from, find}
use Rattle.store_abstraction.specs.declared.layout.FieldPlace.{FieldPlace}
use Rattle.record_read.proofs.encoding.field_of_slot.Given as goal

abbrev pub invariant-loop-number : goal.invariant-loop-number
invariant-loop-number l =
    find (λ (f : ℕ × FieldPlace). eqb f.1.slot l.slot) (enumerate_from l.number (drop l.number l.fields))
    ≡ find (λ (f : ℕ × FieldPlace). eqb f.1.slot l.slot) (enumerate_from 0 l.fields)
