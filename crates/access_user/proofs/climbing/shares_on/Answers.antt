use Rattle.std.proofs.Common.{List, ap, map, sym, ◌∙◌}
use Rattle.model.specs.Shares.{shares_of}
use Rattle.model.specs.Tenant.{Share}
use Rattle.store_abstraction.specs.Metadata.{row_of_share}
use Rattle.access_user.proofs.climbing.shares_on.Goals as goal

pub returns-else-shared-clause-lists : goal.returns-else-shared-clause-lists
returns-else-shared-clause-lists g c told q t s none =
    c.new.ensures ∙ sym (ap (λ (shares : List Share). map (row_of_share c.args.org) (shares_of c.args.id.now shares)) (none c.if-shared.false))
