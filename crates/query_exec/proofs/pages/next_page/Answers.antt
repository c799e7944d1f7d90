use Rattle.std.proofs.Common.{◌∙◌, ℕ, List, Option, ap, sym, subst}
use Rattle.store_kv.specs.Draft.{tables_of}
use Rattle.query_exec.specs.inner.Reading.{FindsPage, last_of, pages_left}
use Rattle.query_exec.proofs.Turning.{copied_same, reads_page, ok_items}
use Rattle.query_exec.proofs.pages.next_page.Goals as goal

pub returns-in-Ok-clause-page : goal.returns-in-Ok-clause-page
returns-in-Ok-clause-page g c told =
    let m = tables_of g.K.Keeper.state c.args.draft.now in
    let l = c.args.layout.now in
    let a = c.args.pages.now in
    let rows = c.page_after-rows.result in
    let found = subst (λ (after : Option (List ℕ)). FindsPage l after m rows) (copied_same c.as_ref.result a.after c.as_ref.ensures.value) (c.page_after-rows.ensures.page told) in
    reads_page l m a (record { after = c.last_of-pages.result; left = c.pages_left-pages.result }) c.record_laws.ensures.rise c.requires rows found (λ v same.
    let items = ok_items c.in-Ok.rows v (sym c.in-Ok.is ∙ same) in
    (c.last_of-pages.ensures ∙ ap (last_of a.after) (c.as_slice.ensures.value ∙ items), c.pages_left-pages.ensures ∙ ap (pages_left a.left) (c.as_slice-in-Ok.ensures.value ∙ items)))

pub returns-in_default-clause-page : goal.returns-in_default-clause-page
returns-in_default-clause-page g c told =
    let m = tables_of g.K.Keeper.state c.args.draft.now in
    let l = c.args.layout.now in
    let a = c.args.pages.now in
    let rows = c.page_after-rows.result in
    let found = subst (λ (after : Option (List ℕ)). FindsPage l after m rows) (copied_same c.as_ref.result a.after c.as_ref.ensures.value) (c.page_after-rows.ensures.page told) in
    reads_page l m a a c.record_laws.ensures.rise c.requires rows found (λ v same. absurd (c.in_default.not-Ok v same))
