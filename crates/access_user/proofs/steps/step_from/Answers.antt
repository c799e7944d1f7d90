use Rattle.std.proofs.Common.{ap, sym, ◌∙◌}
use Rattle.store_kv.specs.Draft.{tables_of}
use Rattle.access_user.specs.inner.Steps.{master_from}
use Rattle.access_user.proofs.Masters.{none_there}
use Rattle.access_user.proofs.Stepping.{stepped}
use Rattle.access_user.proofs.steps.step_from.Goals as goal

pub returns-in-Some-clause-finds : goal.returns-in-Some-clause-finds
returns-in-Some-clause-finds g c told =
    stepped (tables_of g.K.Keeper.state c.args.draft.now) c.args.layout.now c.in-Some.master
    (sym c.in-Some.is ∙ c.master_from.ensures ∙ ap (master_from 1) c.as_slice.ensures)
    c.layout_at.result (c.layout_at.ensures.finds told) c.step_to.result c.step_to.ensures

pub returns-in-None-clause-finds : goal.returns-in-None-clause-finds
returns-in-None-clause-finds g c told q t u s is =
    none_there q t c.args.layout.now is (sym c.in-None.is ∙ c.master_from.ensures ∙ ap (master_from 1) c.as_slice.ensures)
