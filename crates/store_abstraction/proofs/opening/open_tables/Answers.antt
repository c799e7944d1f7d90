use Rattle.std.proofs.Common.{◌≡◌, length, rules}
use Rattle.std.specs.Prelude.{IfOk}
use Rattle.model.specs.World.{World}
use Rattle.store_abstraction.specs.Opening.{OpensAs}
use Rattle.store_abstraction.specs.Stands.{Stands}
use Rattle.store_abstraction.proofs.Opened.{after_opening}
use Rattle.store_abstraction.proofs.opening.open_tables.Goals as goal

pub returns-clause-opens : goal.returns-clause-opens
returns-clause-opens g c =
    after_opening g.K.Keeper.state c.args.keeper.now c.open.new.self c.new-draft.result c.count_organisations.new.draft _ (λ m. OpensAs m c.count_organisations.result)
    c.open.ensures.same c.new-draft.ensures.same c.new-draft.ensures.empty c.count_organisations.ensures.calls.reads (search rules) c.count_organisations.ensures.opens

pub returns-clause-counts : goal.returns-clause-counts
returns-clause-counts g c =
    after_opening g.K.Keeper.state c.args.keeper.now c.open.new.self c.new-draft.result c.count_organisations.new.draft _
    (λ m. (w : World) → Stands m w → IfOk c.count_organisations.result (λ n. n ≡ length w))
    c.open.ensures.same c.new-draft.ensures.same c.new-draft.ensures.empty c.count_organisations.ensures.calls.reads (search rules) c.count_organisations.ensures.counts
