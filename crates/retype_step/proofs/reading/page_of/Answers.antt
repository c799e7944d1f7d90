use Rattle.std.proofs.Common.{◌+◌, ◌∙◌, Bor, ap, subst}
use Rattle.std.specs.Option.{option_map}
use Rattle.retype_step.proofs.Decided.{copied_id}
use Rattle.retype_step.proofs.PagesRead.{layout_is, no_layout, no_page, page_fails, page_read}
use Rattle.retype_step.proofs.reading.page_of.Goals as goal
use Rattle.record_read.specs.Rows.{FindsRows}
use Rattle.store_kv.specs.Draft.{removals_of, tables_of}
use Rattle.store_kv.specs.Tables.{Tables}
use Rattle.store_rows.specs.declared.job.JobRow.{JobRow}
use Rattle.store_abstraction.specs.Layouts.{records_after}
use Rattle.base_value.specs.declared.id.Id.{Id}

pub returns-in_err-layout-clause-finds : goal.returns-in_err-layout-clause-finds
returns-in_err-layout-clause-finds g c told q t j s is busy its =
    let m = tables_of g.K.Keeper.state c.args.draft.now in
    let e = c.in_err-layout.field-0.0 in
    page_fails c.args.org q t j c.from_residual.result e c.from_residual.ensures.1
    (no_layout c.args.org m q t j s is c.args.row.object (ap (λ (x : JobRow). x.object) its) c.layout_there.result e c.in_err-layout.was (c.layout_there.ensures.finds told))

pub returns-in_err-rows-clause-finds : goal.returns-in_err-rows-clause-finds
returns-in_err-rows-clause-finds g c told q t j s is busy its =
    let state = g.K.Keeper.state in
    let a = c.args.draft.now in
    let b = c.layout_there.new.draft in
    let org = c.args.org in
    let m = tables_of state a in
    let l = c.in_ok-layout.layout in
    let e = c.in_err-rows.field-0.0 in
    let after = option_map {T = Bor Id} {U = Id} (λ id. id.now) c.as_ref.result in
    let tell = c.draft_laws.ensures.both 0 (100 + removals_of state 7 b) a b c.walk_rows.new.draft c.layout_there.ensures.calls.reads c.walk_rows.ensures.calls.reads told in
    let same = layout_is org m q t j s is c.args.row.object (ap (λ (x : JobRow). x.object) its) c.layout_there.result l c.in_ok-layout.was (c.layout_there.ensures.finds tell.0) in
    let finds = subst (λ (z : Tables). FindsRows l (records_after l.object after 100) z c.walk_rows.result) tell.2 (c.walk_rows.ensures.finds tell.1) in
    page_fails org q t j c.from_residual-in_err-rows.result e c.from_residual-in_err-rows.ensures.1
    (no_page org m q t j s is c.args.row l after c.walk_rows.result e its same (copied_id c.as_ref.result ∙ c.as_ref.ensures.value) c.in_err-rows.was finds)

pub returns-clause-finds : goal.returns-clause-finds
returns-clause-finds g c told q t j s is busy its =
    let state = g.K.Keeper.state in
    let a = c.args.draft.now in
    let b = c.layout_there.new.draft in
    let org = c.args.org in
    let m = tables_of state a in
    let l = c.in_ok-layout.layout in
    let after = option_map {T = Bor Id} {U = Id} (λ id. id.now) c.as_ref.result in
    let tell = c.draft_laws.ensures.both 0 (100 + removals_of state 7 b) a b c.walk_rows.new.draft c.layout_there.ensures.calls.reads c.walk_rows.ensures.calls.reads told in
    let same = layout_is org m q t j s is c.args.row.object (ap (λ (x : JobRow). x.object) its) c.layout_there.result l c.in_ok-layout.was (c.layout_there.ensures.finds tell.0) in
    let finds = subst (λ (z : Tables). FindsRows l (records_after l.object after 100) z c.walk_rows.result) tell.2 (c.walk_rows.ensures.finds tell.1) in
    page_read org m q t j s is c.args.row l after c.walk_rows.result c.in_ok-rows.rows c.from_vec.result its busy same (copied_id c.as_ref.result ∙ c.as_ref.ensures.value) c.in_ok-rows.was c.from_vec.ensures finds
