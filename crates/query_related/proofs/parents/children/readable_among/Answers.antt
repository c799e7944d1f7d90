use Rattle.std.proofs.Common.{◌≡◌, ◌+◌, ◌*◌, arith, sym, subst, ◌∙◌, ℕ}
use Rattle.store_kv.specs.Tables.{Tables}
use Rattle.std.specs.Prelude.{Some}
use Rattle.store_abstraction.specs.Calls.{Calls, done}
use Rattle.store_abstraction.specs.Local.{StandsIn}
use Rattle.query_related.proofs.Among.{one_more}
use Rattle.query_related.proofs.parents.children.readable_among.Goals as goal

pub loop-id-preserved : goal.loop-id-preserved
loop-id-preserved g c =
    let state = g.K.Keeper.state in
    let a = c.args.draft.now in
    let b = c.loop-id.draft in
    let d = c.readable_by_id.new.draft in
    let l = c.args.layout.now in
    let i = c.loop-id.id-index in
    let before = c.loop-id.invariant in
    let more : 5 * i + 5 ≡ 5 * (i + 1) = omega arith in
    record {
      calls = subst (λ (shown : ℕ). Calls state shown done a d) more (c.call_laws.ensures.then (5 * i) 5 done a b d before.calls c.in_ok-found.ensures.calls);
      found = λ told q t u s its who.
          let tell = c.draft_laws.ensures.both (5 * i) 5 a b d before.calls.reads c.readable_by_id.ensures.calls.reads told in
          let stands = subst (λ (m : Tables). StandsIn l.org q m (Some t)) (sym tell.2) s in
          c.in_ok-add_found.ensures ∙ one_more t u l.object c.args.ids.now i c.id-item.result c.loop-id-test.true c.id-item.is c.loop-id.records (before.found tell.0 q t u s its who) c.in_ok-found.found (c.in_ok-found.ensures.finds tell.1 q t u stands its who);
    }
