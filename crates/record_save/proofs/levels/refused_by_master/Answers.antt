use Rattle.std.proofs.Common.{ℕ, List, Option, None, subst}
use Rattle.store_kv.specs.Draft.{tables_of}
use Rattle.model.specs.Cases.{in_case}
use Rattle.record_save.specs.inner.Levels.{below_there}
use Rattle.access_traits.specs.Rights.{FindsFor, Whose}
use Rattle.base_value.specs.declared.sharing.Level.TheVariants.{Edit}
use Rattle.record_save.proofs.levels.refused_by_master.Goals as goal

pub returns-in-Some-clause-finds : goal.returns-in-Some-clause-finds
returns-in-Some-clause-finds g c told =
    let whose : Whose = g.R.Rights.whose c.args.rights.now in
    let m = tables_of g.K.Keeper.state c.args.draft.now in
    subst (λ (x : Option (ℕ × List ℕ)). FindsFor c.args.layout.now.org whose (λ t u. in_case x None (λ it. below_there Edit it.0 it.1 t u)) m c.refused_below.result) c.in-Some.ensures
    (subst (λ (i : List ℕ). FindsFor c.args.layout.now.org whose (below_there Edit c.in-Some.object i) m c.refused_below.result) (cc c.in-Some.id-is) (c.refused_below.ensures.finds told))
