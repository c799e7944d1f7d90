use Rattle.std.proofs.Common.{Some, subst}
use Rattle.store_kv.specs.Draft.{tables_of}
use Rattle.model.specs.Rules.{Rule}
use Rattle.store_edit.specs.Judging.{Passes}
use Rattle.access_shares.proofs.Readable.{detail_by_row, row_failed}
use Rattle.access_shares.proofs.shareable.check_detail.Goals as goal

pub returns-in-Ok-clause-passes : goal.returns-in-Ok-clause-passes
returns-in-Ok-clause-passes g c told q t r s there =
    subst (λ (x : Rule). Passes x (λ (y : Unit {0}). Unit {0}) c.check_object.result)
    (detail_by_row t s.sound c.args.id.now c.object_number.result c.object_number.ensures r there c.args.org c.in-Ok.row ((c.in-Ok.ensures.finds told).0 q (Some t) s)) c.check_object.ensures.passes

pub returns-in-Err-clause-passes : goal.returns-in-Err-clause-passes
returns-in-Err-clause-passes g c told q t r s there =
    row_failed t s.sound c.args.id.now c.object_number.result c.object_number.ensures r there c.args.org q (tables_of g.K.Keeper.state c.args.draft.now) c.in-Err.fail (c.in-Err.ensures.finds told).0 s
