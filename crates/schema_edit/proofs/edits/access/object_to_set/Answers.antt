use Rattle.std.specs.Str.{chars}
use Rattle.store_kv.specs.Draft.{tables_of}
use Rattle.model.specs.Metadata.{set_object}
use Rattle.store_abstraction.specs.Layouts.{own_layout_named}
use Rattle.schema_edit.proofs.AccessEdits.{layout_seen, read_failed}
use Rattle.schema_edit.proofs.edits.access.object_to_set.Goals as goal

pub returns-in_err-layout-clause-accepts : goal.returns-in_err-layout-clause-accepts
returns-in_err-layout-clause-accepts g c told q t access s =
    let m = tables_of g.K.Keeper.state c.args.draft.now in
    let name = chars c.args.name.now in
    read_failed c.args.org (own_layout_named c.args.org name) m c.layout_named.result c.in_err-layout.field-0.0 t name (set_object t name access) c.from_residual.result q (c.layout_named.ensures.finds told) c.in_err-layout.was c.from_residual.ensures.1 s

pub returns-clause-accepts : goal.returns-clause-accepts
returns-clause-accepts g c told q t access s =
    let m = tables_of g.K.Keeper.state c.args.draft.now in
    let name = chars c.args.name.now in
    c.judge_change.ensures.accepts t access (layout_seen m c.args.org name q t c.layout_named.result c.in_ok-layout.layout c.in_ok-layout.was (c.layout_named.ensures.finds told) s)
