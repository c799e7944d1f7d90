use Rattle.std.proofs.Common.{Ok, refl}
use Rattle.store_kv.specs.Draft.{tables_of}
use Rattle.model_reads.specs.CallerJson.{limits_json}
use Rattle.store_abstraction.specs.Layouts.{own_row}
use Rattle.store_abstraction.specs.Metadata.{org_of}
use Rattle.api_read.proofs.CallerReads.{failed_so, no_memory, unfound}
use Rattle.api_read.proofs.CallerTold.{limits_told}
use Rattle.api_read.proofs.caller.limits.Goals as goal

pub returns-in_err-row-clause-tells : goal.returns-in_err-row-clause-tells
returns-in_err-row-clause-tells g c told q t s =
    let org = c.args.org in
    let m = tables_of g.K.Keeper.state c.args.draft.now in
    let e = c.in_err-row.field-0.0 in
    failed_so (Ok (limits_json t)) c.from_residual.result e c.from_residual.ensures.1 (unfound org q m t (own_row org) (org_of org t) c.org_there.result e refl (c.org_there.ensures.finds told).0 c.in_err-row.was s)

pub returns-in_err-told_limits-clause-tells : goal.returns-in_err-told_limits-clause-tells
returns-in_err-told_limits-clause-tells g c told q t s = no_memory (Ok (limits_json t)) c.from_residual-in_err-told_limits.result c.from_residual-in_err-told_limits.ensures.1

pub returns-clause-tells : goal.returns-clause-tells
returns-clause-tells g c told q t s =
    limits_told c.args.org q (tables_of g.K.Keeper.state c.args.draft.now) t c.org_there.result c.in_ok-row.row c.in_ok-told_limits.field-0 s (c.org_there.ensures.finds told).0 c.in_ok-row.was c.in_ok-told_limits.ensures
