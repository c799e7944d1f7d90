use Rattle.store_kv.specs.Draft.{tables_of}
use Rattle.people_removal.specs.inner.Naming.{names}
use Rattle.people_removal.proofs.Seeking.{SeekLaws, any_finds}
use Rattle.people_removal.proofs.shares.any_share.Goals as goal

pub returns-clause-finds : goal.returns-clause-finds
returns-clause-finds g c told =
    let laws : SeekLaws = record {
      keys = record { under = c.table_laws.ensures.under; compares = c.shape_laws.ensures.compared; begins = c.shape_laws.ensures.begins; makes = c.id_laws.ensures.made; same = c.principal_laws.ensures.same };
      apart = c.table_laws.ensures.apart;
      ends = c.table_laws.ensures.ends;
      lists = c.walk_laws.ensures.is_listing;
      under = c.local_laws.ensures.under;
      listed = c.local_laws.ensures.listed;
    } in
    any_finds laws (tables_of g.K.Keeper.state c.args.draft.now) c.args.org (names c.args.named.now) c.is_any_kept.result (c.is_any_kept.ensures.scans told)
