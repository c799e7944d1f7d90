use Rattle.std.proofs.Common.{◌<◌, Some, arith, length, subst, sym}
use Rattle.std.proofs.lemmas.List.{take_all}
use Rattle.std.specs.Prelude.{List}
use Rattle.store_kv.specs.Tables.{Tables}
use Rattle.model.specs.declared.record_bodies.Assignment.{Assignment}
use Rattle.store_abstraction.specs.Calls.{done}
use Rattle.store_abstraction.specs.Local.{StandsIn}
use Rattle.cmd_load_row.specs.inner.Parents.{AllFound}
use Rattle.cmd_load_row.proofs.Adding.{found_on}
use Rattle.cmd_load_row.proofs.parents.parents_by.Goals as goal

pub loop-x-preserved : goal.loop-x-preserved
loop-x-preserved g c =
    let a = c.args.draft.now in
    let b = c.loop-x.draft in
    let d = c.parent_for.new.draft in
    let l = c.args.layout.now in
    let given = c.args.given.now in
    let i = c.loop-x.x-index in
    let before = c.loop-x.invariant in
    let lt : i < length given = omega arith in
    record {
      calls = c.call_laws.ensures.then 0 0 done a b d before.calls c.in_ok-found.ensures.calls;
      found = λ told q t s.
          let tell = c.draft_laws.ensures.both 0 0 a b d before.calls.reads c.parent_for.ensures.calls.reads told in
          found_on t l c.loop-x.parents given i c.x-item.result c.in_ok-found.found c.add_parent.new.parents lt c.x-item.is (before.found tell.0 q t s)
          (c.in_ok-found.ensures.finds tell.1 q t (subst (λ (m : Tables). StandsIn l.org q m (Some t)) (sym tell.2) s)) c.in_ok-add_parent.ensures;
    }

pub returns-clause-finds : goal.returns-clause-finds
returns-clause-finds g c told q t s =
    let given = c.args.given.now in
    subst (λ (xs : List Assignment). AllFound t c.args.layout.now c.loop-x.parents xs) (take_all c.loop-x.x-index given (omega arith)) (c.loop-x.invariant.found told q t s)
