-- What is made of what was read of a field.
use Rattle.std.proofs.Common.{◌≡◌, Option, Some, None, Result, Ok, Err, MatchResult, refl, ◌∙◌, ap}
use Rattle.base_value.specs.declared.value.Value.{Value}
use Rattle.model.specs.Given.{ReadOr}
use Rattle.record_input.specs.declared.unread.Unread.{Unread}
use Rattle.record_input.specs.declared.unread.Unread.TheVariants.{Refused, Memory}
use Rattle.record_input.specs.inner.Read.{JudgesValue, ReadsGiven}

pub some_judged : (g : Option ReadOr) (old : Value) (r : Result Value Unread) → ReadsGiven g (Some r) → JudgesValue g old r
some_judged g old (Ok v) (read, is, reads) = rw (is ∙ ap (λ (x : ReadOr). Some x) reads) (refl, refl)
some_judged g old (Err (Refused refusal)) (read, is, reads) = rw (is ∙ ap (λ (x : ReadOr). Some x) reads) refl
some_judged g old (Err Memory) reads = tt

pub none_judged : (g : Option ReadOr) (old : Value) (r : Result Value Unread)
    → g ≡ None → MatchResult r (λ v. v ≡ old) (λ e. e ≡ Memory) → JudgesValue g old r
none_judged g old (Ok v) none same = rw none (refl, same)
none_judged g old (Err Memory) none same = tt
none_judged g old (Err (Refused refusal)) none same = absurd cc
