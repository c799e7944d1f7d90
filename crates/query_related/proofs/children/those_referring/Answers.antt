use Rattle.std.proofs.Common.{◌∙◌, refl}
use Rattle.store_kv.specs.Draft.{tables_of}
use Rattle.query_related.proofs.Referring.{by_none}
use Rattle.query_related.proofs.children.those_referring.Goals as goal

pub returns-in-None-clause-finds : goal.returns-in-None-clause-finds
returns-in-None-clause-finds g c told org q a s all who =
    c.new.ensures
    ∙ by_none c.args.layouts.now (g.R.Rights.whose c.args.rights.now) (tables_of g.K.Keeper.state c.args.draft.now) c.args.step c.args.target.now
    (λ org q t all. (c.in-None.ensures.missing org q t all).0 refl) org q a s all who
