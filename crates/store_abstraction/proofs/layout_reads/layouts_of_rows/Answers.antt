use Rattle.std.proofs.Common.{subst, sym}
use Rattle.store_kv.specs.Tables.{Tables}
use Rattle.store_abstraction.specs.Calls.{done}
use Rattle.store_abstraction.specs.Local.{StandsIn}
use Rattle.store_abstraction.proofs.LayoutReads.{more_layouts}
use Rattle.store_abstraction.proofs.layout_reads.layouts_of_rows.Goals as goal

pub loop-row-preserved : goal.loop-row-preserved
loop-row-preserved g c =
    let a = c.args.draft.now in
    let b = c.loop-row.draft in
    let d = c.layout_of_row.new.draft in
    let org = c.args.org in
    let before = c.loop-row.invariant in
    record {
      calls = c.call_laws.ensures.then 0 0 done a b d before.calls c.in_ok-layout.ensures.calls;
      found = λ told q t s.
          let tell = c.draft_laws.ensures.both 0 0 a b d before.calls.reads c.layout_of_row.ensures.calls.reads told in
          let stands = subst (λ (m : Tables). StandsIn org q m t) (sym tell.2) s in
          more_layouts org q t c.args.change.now c.loop-row.yielded c.in-Some.row c.loop-row.all c.push.new.self c.in_ok-layout.layout c.in_ok-push.ensures.ok (before.found tell.0 q t s) (c.in_ok-layout.ensures.finds tell.1 q t stands);
    }
