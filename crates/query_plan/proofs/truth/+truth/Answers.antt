use Rattle.std.proofs.Common.{Bool, not, ◌∙◌, ap, sym}
use Rattle.query_plan.specs.declared.check.Check.{Check}
use Rattle.query_plan.specs.Checks.{check_holds}
use Rattle.query_plan.proofs.Within.{holds_not, holds_and, holds_or, gives_so}
use Rattle.query_plan.proofs.truth.+truth.Goals as goal

pub holds-returns-in_ok-holds-in-Not : goal.holds-returns-in_ok-holds-in-Not
holds-returns-in_ok-holds-in-Not g t c r is =
    let held : Check → Bool = λ k. check_holds c.args.far.now r k in
    ap not (c.in_ok-holds-in-Not.ensures r is ∙ ap held c.get.ensures) ∙ sym (holds_not c.args.far.now r c.in-Not.part) ∙ ap held (sym c.in-Not.is)

pub holds-returns-in-And : goal.holds-returns-in-And
holds-returns-in-And g t c r is =
    let held : Check → Bool = λ k. check_holds c.args.far.now r k in
    gives_so c.all_hold.result ((rw c.as_slice.ensures (sym (holds_and c.args.far.now r c.in-And.parts))) ∙ ap held (sym c.in-And.is)) (c.all_hold.ensures r is)

pub holds-returns-in-Or : goal.holds-returns-in-Or
holds-returns-in-Or g t c r is =
    let held : Check → Bool = λ k. check_holds c.args.far.now r k in
    gives_so c.some_hold.result ((rw c.as_slice-in-Or.ensures (sym (holds_or c.args.far.now r c.in-Or.parts))) ∙ ap held (sym c.in-Or.is)) (c.some_hold.ensures r is)
