use Rattle.std.proofs.Common.{◌≡◌, ◌++◌, ◌∷◌, ◌+◌, ◌-◌, [], ℕ, List, option_copied, length, take, sym, ap, ◌∙◌}
use Rattle.std.specs.List.{slice_get}
use Rattle.store_kv.specs.declared.keeper.KeptRow.{KeptRow}
use Rattle.store_kv.specs.Tables.{rows_between}
use Rattle.store_kv.specs.Draft.{removals_of, rise, tables_of}
use Rattle.store_kv.specs.State.{data_rows, seen}
use Rattle.store_kv.proofs.Paging.{page_on}
use Rattle.store_kv.proofs.Alone.{alone_on}
use Rattle.store_kv.proofs.Calls.{both_tell, rows_rise}
use Rattle.store_kv.proofs.paged.all_rows.Goals as goal

pub pages-preserved : goal.pages-preserved
pages-preserved g c =
    let state = g.K.Keeper.state in
    let first = c.args.draft.now in
    let mid = c.pages.draft in
    let after = c.scan.new.self in
    let t = c.args.table in
    let below = c.args.below.now in
    let rows = c.in_ok-rows.rows.items in
    let last = c.in-Some.last.now in
    let shown = rise state first mid in
    let later = seen c.args.page c.scan.result + removals_of state t mid in
    let more = c.scan.ensures.reads in
    record {
      reads = rows_rise state t shown later first mid after c.pages.invariant.reads more;
      shown = alone_on t later (state first.keeper.now) (state mid.keeper.now) (state after.keeper.now) c.pages.invariant.shown c.scan.ensures.shown;
      quiet = c.in_ok-rows.ensures.quiet (λ failed. absurd cc) ∙ c.pages.invariant.quiet;
      rows = λ told.
          let tell = both_tell state (data_rows t shown) (data_rows t later) first mid after c.pages.invariant.reads more told in
          let m = tables_of state first in
          let is : rows ≡ take c.args.page (rows_between m t c.pages.next below)
          = c.in_ok-rows.ensures.rows tell.1 ∙ (λ i. take c.args.page (rows_between (tell.2 i) t (c.as_slice.ensures i) below)) in
          let at = ap (λ (l : List KeptRow). slice_get l (length l - 1)) (sym c.deref.ensures.value) ∙ sym c.last.ensures.value ∙ ap option_copied c.in-Some.is in
          let next : c.in_ok-next-2.next ≡ last.key ++ 0 ∷ [] = c.in_ok-next-2.ensures ∙ ap (λ (k : List ℕ). k ++ 0 ∷ []) c.as_slice-in-pages.ensures in
          ap (λ from. c.add_all.new.all.items ++ rows_between m t from below) next
          ∙ page_on m t c.pages.next below c.args.page rows last c.pages.all.items c.add_all.new.all.items (rows_between m t c.args.from.now below) is at c.in_ok-add_all.ensures (c.pages.invariant.rows tell.0);
    }
