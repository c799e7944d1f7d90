use Rattle.std.proofs.Common.{◌≡◌, ◌∙◌, ◌+◌, ◌-◌, ℕ, ap, take, arith}
use Rattle.cli_notes.proofs.Fronts.{pushed}
use Rattle.cli_notes.proofs.front.Front.push.Goals as goal

pub returns : goal.returns
returns c =
    let rest : c.self.inside.len + c.min.result - c.self.inside.len ≡ c.min.result = omega arith in
    pushed c.self.inside.bytes c.copy_from_slice.new.self c.args.bytes.now c.args.self.now c.self.inside.len c.min.result _
    c.self.told c.self.invariant c.min.ensures
    (c.copy_from_slice.ensures.after ∙ ap (λ (n : ℕ). take n c.args.bytes.now) rest)
    c.self.view_is
