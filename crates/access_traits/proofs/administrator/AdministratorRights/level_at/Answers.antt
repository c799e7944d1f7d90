use Rattle.store_kv.specs.Draft.{tables_of}
use Rattle.access_traits.proofs.Administered.{level_found}
use Rattle.access_traits.proofs.administrator.AdministratorRights.level_at.Goals as goal

pub returns-clause-finds : goal.returns-clause-finds
returns-clause-finds g c told =
    level_found c.administrator_laws.ensures.level c.args.org c.args.object c.args.id.now (tables_of g.K.Keeper.state c.args.draft.now) c.has_record.result c.level_if.result c.level_if.ensures
    (c.has_record.ensures.finds told)
