use Rattle.std.proofs.Common.{◌≡◌, None, Ok, sym, ap, subst, ◌∙◌}
use Rattle.std.specs.Prelude.{option_copied}
use Rattle.std.specs.List.{list_any}
use Rattle.std.specs.Option.{option_map}
use Rattle.base_lemmas.proofs.Results.{err_from_parts as returned}
use Rattle.store_kv.specs.Draft.{tables_of}
use Rattle.store_rows.specs.declared.share.ShareRow.{ShareRow}
use Rattle.store_abstraction.specs.Calls.{done}
use Rattle.people_removal.specs.inner.Naming.{names}
use Rattle.people_removal.specs.inner.Scanning.{FitsParts, Scans, kept_after, parts_bytes}
use Rattle.people_removal.proofs.Scanned.{all_passed, last_of, more_come, page_failed, page_found, page_read}
use Rattle.people_removal.proofs.shares.is_any_kept.Goals as goal

pub returns-in_err-rows-clause-scans : goal.returns-in_err-rows-clause-scans
returns-in_err-rows-clause-scans g c told =
    let a = c.args.draft.now in
    let b = c.pages.draft in
    let m = tables_of g.K.Keeper.state a in
    let org = c.args.org in
    let sought = names c.args.named.now in
    let before = c.pages.invariant in
    let tell = c.draft_laws.ensures.both 0 0 a b c.page_after.new.draft before.calls.reads c.page_after.ensures.calls.reads told in
    let e = c.in_err-rows.field-0.0 in
    let read = page_read org m (tables_of g.K.Keeper.state b) tell.2 c.as_ref.result c.pages.last c.as_ref.ensures.value c.page_after.result (c.page_after.ensures.rows tell.1) in
    subst (Scans (kept_after m org None) sought) (sym (returned c.from_residual.result e c.from_residual.ensures))
    (page_failed (kept_after m org None) sought (kept_after m org (option_map parts_bytes c.pages.last)) (before.rest tell.0) c.page_after.result e c.in_err-rows.was read)

pub returns-in_default-clause-scans : goal.returns-in_default-clause-scans
returns-in_default-clause-scans g c told =
    let a = c.args.draft.now in
    let b = c.pages.draft in
    let m = tables_of g.K.Keeper.state a in
    let org = c.args.org in
    let before = c.pages.invariant in
    let tell = c.draft_laws.ensures.both 0 0 a b c.page_after.new.draft before.calls.reads c.page_after.ensures.calls.reads told in
    let rows = c.in_ok-rows.rows in
    let read = page_read org m (tables_of g.K.Keeper.state b) tell.2 c.as_ref.result c.pages.last c.as_ref.ensures.value (Ok rows) (c.in_ok-rows.ensures.rows tell.1) in
    let none : last_of rows.items ≡ None = ap last_of (sym c.deref.ensures.value) ∙ sym c.last.ensures.value ∙ ap option_copied (c.in_default.is) in
    all_passed c.walk_laws.ensures.page_step c.walk_laws.ensures.page_end c.table_laws.ensures.apart m org (names c.args.named.now) c.pages.last rows.items read (before.rest tell.0) none

pub returns-then-is_one_with-clause-scans : goal.returns-then-is_one_with-clause-scans
returns-then-is_one_with-clause-scans g c told =
    let a = c.args.draft.now in
    let b = c.pages.draft in
    let m = tables_of g.K.Keeper.state a in
    let org = c.args.org in
    let sought = names c.args.named.now in
    let before = c.pages.invariant in
    let tell = c.draft_laws.ensures.both 0 0 a b c.page_after.new.draft before.calls.reads c.page_after.ensures.calls.reads told in
    let rows = c.in_ok-rows.rows in
    let read = page_read org m (tables_of g.K.Keeper.state b) tell.2 c.as_ref.result c.pages.last c.as_ref.ensures.value (Ok rows) (c.in_ok-rows.ensures.rows tell.1) in
    let any = ap (list_any (λ (row : ShareRow). sought row.to)) (sym c.as_slice.ensures.value) ∙ sym c.is_one_with.ensures ∙ c.if-is_one_with.true in
    page_found (kept_after m org None) sought (kept_after m org (option_map parts_bytes c.pages.last)) (before.rest tell.0) rows.items read any

pub pages-preserved : goal.pages-preserved
pages-preserved g c =
    let a = c.args.draft.now in
    let b = c.pages.draft in
    let d = c.page_after.new.draft in
    let m = tables_of g.K.Keeper.state a in
    let org = c.args.org in
    let sought = names c.args.named.now in
    let before = c.pages.invariant in
    let rows = c.in_ok-rows.rows in
    record {
      calls = c.call_laws.ensures.then 0 0 done a b d before.calls c.in_ok-rows.ensures.calls;
      last = subst FitsParts (sym c.key_of.ensures.is) c.key_of.ensures.fits;
      rest = λ told.
          let tell = c.draft_laws.ensures.both 0 0 a b d before.calls.reads c.page_after.ensures.calls.reads told in
          let read = page_read org m (tables_of g.K.Keeper.state b) tell.2 c.as_ref.result c.pages.last c.as_ref.ensures.value (Ok rows) (c.in_ok-rows.ensures.rows tell.1) in
          more_come c.walk_laws.ensures.page_step c.walk_laws.ensures.page_end c.table_laws.ensures.apart m org sought c.pages.last rows.items read (before.rest tell.0) c.in-Some.row.now
          (ap last_of (sym c.deref.ensures.value) ∙ sym c.in-Some.ensures.value) c.key_of.result c.key_of.ensures.is
          (ap (list_any (λ (row : ShareRow). sought row.to)) (sym c.as_slice.ensures.value) ∙ sym c.is_one_with.ensures ∙ c.if-is_one_with.false);
    }
