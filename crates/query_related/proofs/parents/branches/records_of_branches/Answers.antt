use Rattle.std.proofs.Common.{◌≡◌, ◌+◌, ◌*◌, Some, sym, subst, ℕ, arith}
use Rattle.store_kv.specs.Tables.{Tables}
use Rattle.store_abstraction.specs.Calls.{Calls, done}
use Rattle.store_abstraction.specs.Local.{StandsIn}
use Rattle.query_related.proofs.Branching.{all_done, one_done}
use Rattle.query_related.proofs.parents.branches.records_of_branches.Goals as goal

pub loop-branch-preserved : goal.loop-branch-preserved
loop-branch-preserved g c =
    let state = g.K.Keeper.state in
    let a = c.args.draft.now in
    let b = c.loop-branch.draft in
    let d = c.branch_of.new.draft in
    let i = c.loop-branch.branch-index in
    let so_far = c.loop-branch.invariant in
    let more : 5 * i + 5 ≡ 5 * (i + 1) = omega arith in
    record {
      calls = subst (λ (shown : ℕ). Calls state shown done a d) more (c.call_laws.ensures.then (5 * i) 5 done a b d so_far.calls c.in_ok-found.ensures.calls);
      found = λ told org q w r s all who has its.
          let tell = c.draft_laws.ensures.both (5 * i) 5 a b d so_far.calls.reads c.branch_of.ensures.calls.reads told in
          let stands = subst (λ (m : Tables). StandsIn org q m (Some w.tenant)) (sym tell.2) s in
          one_done w r c.args.branches.now i _ c.loop-branch-test.true c.loop-branch.records (so_far.found tell.0 org q w r s all who has its)
          c.as_slice.result.now c.as_slice.ensures c.in_ok-found.found (c.in_ok-found.ensures.finds tell.1 org q w r stands all who has its) c.push.new.self c.in_ok-push.ensures.ok;
    }

pub returns-clause-finds : goal.returns-clause-finds
returns-clause-finds g c told org q w r s all who has its =
    all_done w r c.args.branches.now c.loop-branch.branch-index c.loop-branch-test.false c.loop-branch.records (c.loop-branch.invariant.found told org q w r s all who has its)
