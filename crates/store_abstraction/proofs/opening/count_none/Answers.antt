use Rattle.std.proofs.Common.{◌∙◌, Ok, ap, subst}
use Rattle.store_kv.specs.Draft.{tables_of}
use Rattle.store_abstraction.proofs.Versions.{ReadsFirst, first_failed, opens_first, opens_none}
use Rattle.store_abstraction.proofs.opening.count_none.Goals as goal

pub returns-in-Ok-None-clause-opens : goal.returns-in-Ok-None-clause-opens
returns-in-Ok-None-clause-opens g c told e =
    let m = tables_of g.K.Keeper.state c.args.draft.now in
    opens_none m e (subst (ReadsFirst m) (c.in-Ok-None.is ∙ ap Ok c.in-Ok-None.field-0-is) (c.row_at.ensures.row told))

pub returns-in-Ok-Some-clause-opens : goal.returns-in-Ok-Some-clause-opens
returns-in-Ok-Some-clause-opens g c told e =
    let m = tables_of g.K.Keeper.state c.args.draft.now in
    opens_first m c.in-Ok-Some._first e (subst (ReadsFirst m) (c.in-Ok-Some.is ∙ ap Ok c.in-Ok-Some.field-0-is) (c.row_at.ensures.row told))

pub returns-in-Err-clause-opens : goal.returns-in-Err-clause-opens
returns-in-Err-clause-opens g c told e =
    let m = tables_of g.K.Keeper.state c.args.draft.now in
    first_failed m c.in-Err.fail e (subst (ReadsFirst m) c.in-Err.is (c.row_at.ensures.row told))
