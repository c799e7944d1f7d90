use Rattle.std.proofs.Common.{subst}
use Rattle.store_kv.specs.Draft.{tables_of}
use Rattle.store_kv.specs.Tables.{Tables}
use Rattle.store_abstraction.specs.Layouts.{own_row}
use Rattle.store_abstraction.specs.Local.{FindsThere}
use Rattle.record_save.proofs.Objects.{are_of, missed, read_failed, unseen}
use Rattle.record_save.proofs.object.read_counts.Goals as goal

pub returns-in_err-object-clause-reads : goal.returns-in_err-object-clause-reads
returns-in_err-object-clause-reads g c told q t o s at =
    let l = c.args.layout.now in
    let e = c.in_err-object.field-0.0 in
    read_failed l.org t o e c.from_residual.result c.from_residual.ensures.1
    (missed l.org q t o (tables_of g.K.Keeper.state c.args.draft.now) s l at c.object_there.result e (c.object_there.ensures.finds told).0 c.in_err-object.was)

pub returns-in_err-row-clause-reads : goal.returns-in_err-row-clause-reads
returns-in_err-row-clause-reads g c told q t o s at =
    let l = c.args.layout.now in
    let e = c.in_err-row.field-0.0 in
    let tells = c.draft_laws.ensures.both 0 0 c.args.draft.now c.object_there.new.draft c.org_there.new.draft c.object_there.ensures.calls.reads c.org_there.ensures.calls.reads told in
    read_failed l.org t o e c.from_residual-in_err-row.result c.from_residual-in_err-row.ensures.1
    (unseen l.org q t o (tables_of g.K.Keeper.state c.args.draft.now) s l at c.org_there.result e
    (subst (λ (x : Tables). FindsThere l.org (own_row l.org) x c.org_there.result) tells.2 (c.org_there.ensures.finds tells.1).0) c.in_err-row.was)

pub returns-clause-reads : goal.returns-clause-reads
returns-clause-reads g c told q t o s at =
    let l = c.args.layout.now in
    let tells = c.draft_laws.ensures.both 0 0 c.args.draft.now c.object_there.new.draft c.org_there.new.draft c.object_there.ensures.calls.reads c.org_there.ensures.calls.reads told in
    are_of l.org q t o (tables_of g.K.Keeper.state c.args.draft.now) s l at c.org_there.result c.in_ok-row.row c.object_there.result c.in_ok-object.object
    (subst (λ (x : Tables). FindsThere l.org (own_row l.org) x c.org_there.result) tells.2 (c.org_there.ensures.finds tells.1).0) c.in_ok-row.was
    (c.object_there.ensures.finds tells.0).0 c.in_ok-object.was
