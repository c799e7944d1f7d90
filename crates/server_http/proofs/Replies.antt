-- What of a whole reply goes to a message.
use Rattle.std.proofs.Common.{◌≡◌, ◌∙◌, ℕ, Bool, true, false, List, [], ◌++◌, length, take, ap, sym, arith, append-nil}
use Rattle.std.proofs.Math.Seq.{take-append_seam}
use Rattle.std.proofs.lemmas.List.{length-append}
use Rattle.std.specs.Prelude.{◌-◌, if◌then◌else◌}

-- without the last bytes, which are the body's, where it is left out
pub without_body : (alone : Bool) → alone ≡ true → (whole head body : List ℕ) (size : ℕ) → whole ≡ head ++ body → length body ≡ size
    → take (length whole - size) whole ≡ head ++ if◌then◌else◌ alone [] body
without_body false e whole head body size is has = absurd cc
without_body true e whole head body size is has =
    let n : length whole - size ≡ length head = omega (arith, ap length is, length-append head body, has) in
    ap (λ (k : ℕ). take k whole) n ∙ ap (take (length head)) is ∙ take-append_seam head body ∙ sym (append-nil head)
