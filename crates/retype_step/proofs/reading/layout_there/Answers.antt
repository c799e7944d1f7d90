use Rattle.std.proofs.Common.{◌≡◌, Option, subst}
use Rattle.std.specs.Prelude.{Ok}
use Rattle.retype_step.proofs.PagesRead.{layout_found}
use Rattle.retype_step.proofs.reading.layout_there.Goals as goal
use Rattle.store_kv.specs.Draft.{tables_of}
use Rattle.store_abstraction.specs.declared.layout.Layout.{Layout}

pub returns-in-Ok-Some-clause-finds : goal.returns-in-Ok-Some-clause-finds
returns-in-Ok-Some-clause-finds g c told q t s =
    layout_found c.args.org c.args.object (tables_of g.K.Keeper.state c.args.draft.now) c.layout_at.result c.in-Ok-Some.layout
    (subst (λ (x : Option Layout). c.layout_at.result ≡ Ok x) c.in-Ok-Some.field-0-is c.in-Ok-Some.is) (c.layout_at.ensures.finds told) q t s
