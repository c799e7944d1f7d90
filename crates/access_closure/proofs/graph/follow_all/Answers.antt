use Rattle.std.proofs.Common.{◌≡◌, ◌∙◌, Bool, List, Some, sym, subst}
use Rattle.std.specs.Prelude.{slice_get}
use Rattle.access_closure.specs.inner.Reached.{Works}
use Rattle.access_closure.proofs.Spreading.{at_has, works_begun, works_followed}
use Rattle.access_closure.proofs.graph.follow_all.Goals as goal

pub edges-init : goal.edges-init
edges-init c = works_begun c.args.edges.now c.args.flags.now.items

pub edges-preserved : goal.edges-preserved
edges-preserved c =
    let edges = c.args.edges.now in
    let begun = c.args.flags.now.items in
    let at : slice_get edges c.edges.place ≡ Some c.in-Some.edge = sym c.edge_at.ensures ∙ c.in-Some.is in
    subst (λ (f : List Bool). Works edges begun f) (sym c.follow.ensures.after)
    (works_followed edges begun c.edges.flags.items c.in-Some.edge c.edges.invariant (at_has edges c.edges.place c.in-Some.edge at))
