use Rattle.std.proofs.Common.{◌≡◌, ◌∙◌, ◌<◌, Bool, true, false, List, count_by, not, sym, subst}
use Rattle.access_closure.specs.inner.Reached.{Closes, Works, any_moves}
use Rattle.access_closure.proofs.Spreading.{closes, fewer_passed, works_begun, works_passed}
use Rattle.access_closure.proofs.graph.pass_all.Goals as goal

pub passes-init : goal.passes-init
passes-init c = works_begun c.args.edges.now c.args.flags.now.items

pub returns-then-not-pass : goal.returns-then-not-pass
returns-then-not-pass c =
    let edges = c.args.edges.now in
    let none : any_moves c.passes.flags.items edges ≡ false = sym c.pass.ensures.moved ∙ c.if-not-pass.true in
    subst (λ (f : List Bool). Closes edges c.args.flags.now.items f) (sym c.pass.ensures.after)
    (closes edges c.args.flags.now.items c.passes.flags.items c.passes.invariant none)

pub passes-smaller : goal.passes-smaller
passes-smaller c =
    let edges = c.args.edges.now in
    let some : any_moves c.passes.flags.items edges ≡ true = sym c.pass.ensures.moved ∙ c.if-not-pass.false in
    subst (λ (f : List Bool). count_by not f < count_by not c.passes.flags.items) (sym c.pass.ensures.after) (fewer_passed c.passes.flags.items edges some)

pub passes-preserved : goal.passes-preserved
passes-preserved c =
    let edges = c.args.edges.now in
    subst (λ (f : List Bool). Works edges c.args.flags.now.items f) (sym c.pass.ensures.after)
    (works_passed edges c.args.flags.now.items c.passes.flags.items c.passes.invariant)
