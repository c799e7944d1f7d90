use Rattle.std.proofs.Common.{◌≡◌, ◌<◌, ◌-◌, ◌+◌, ◌++◌, ◌∷◌, sym, ap, ◌∙◌, arith}
use Rattle.std.specs.Ordering.{is_gt}
use Rattle.store_kv.specs.Tables.{place_cmp}
use Rattle.store_kv.specs.Laid.{Entry, gap}
use Rattle.store_kv.specs.inner.Merging.{front}
use Rattle.store_kv.proofs.Ranges.{within_of, front_none, front_step, within_none, forward, append_none, append_one}
use Rattle.store_kv.proofs.rows.held_in.Goals as goal

pub returns-then-not-rises-clause-held : goal.returns-then-not-rises-clause-held
returns-then-not-rises-clause-held c =
    c.new-held.ensures.items ∙ sym (ap (front c.args.most) (within_none c.args.table c.args.from.now c.args.below.now c.args.rows.now.entries (sym c.rises.ensures ∙ c.if-not-rises.true)))

pub range-place-items-requires : goal.range-place-items-requires
range-place-items-requires c =
    ap (λ p. is_gt (place_cmp p c.in_ok-end.end)) c.in_ok-first.ensures ∙ ap (λ p. is_gt (place_cmp (c.args.table, c.args.from.now) p)) c.in_ok-end.ensures ∙ forward c.args.table c.args.from.now c.args.below.now (sym c.rises.ensures ∙ c.if-not-rises.false)

pub loop-place-init : goal.loop-place-init
loop-place-init c =
    let all = c.into_iter-place-iterator.result in
    let z : c.args.most - 0 ≡ c.args.most = omega arith in
    (ap (λ l. l ++ front (c.args.most - 0) all) c.new-held.ensures.items ∙ ap (λ n. front n all) z, omega arith)

pub returns-then-shown-most-clause-held : goal.returns-then-shown-most-clause-held
returns-then-shown-most-clause-held c =
    let all = c.into_iter-place-iterator.result in
    let z : c.args.most - c.loop-place.shown ≡ 0 = omega arith in
    let whole = within_of c.args.table c.args.from.now c.args.below.now c.in_ok-first.first c.in_ok-end.end c.args.rows.now.entries all c.in_ok-first.ensures c.in_ok-end.ensures
    (c.into_iter-place-iterator.ensures.into_iter_gives ∙ c.range-place-items.ensures.between tt) in
    sym (append_none c.loop-place.held.items _ (front_none (c.args.most - c.loop-place.shown) c.loop-place.place-iterator z)) ∙ c.loop-place.invariant.0 ∙ ap (front c.args.most) whole

pub loop-place-preserved : goal.loop-place-preserved
loop-place-preserved c =
    let e : Entry = (c.in-Some.place.now, c.in-Some.row.now) in
    let rest = c.next.new.self in
    let low : 0 < c.args.most - c.loop-place.shown = omega arith in
    let n : c.args.most - (c.loop-place.shown + (1 - c.gap.result)) ≡ (c.args.most - c.loop-place.shown) - (1 - gap e.1) = omega (arith, c.gap.ensures) in (
      ap (λ l. l ++ front (c.args.most - (c.loop-place.shown + (1 - c.gap.result))) rest) c.in_ok-push.ensures.items ∙ append_one c.loop-place.held.items e _
          ∙ ap (λ m. c.loop-place.held.items ++ e ∷ front m rest) n ∙ ap (λ l. c.loop-place.held.items ++ l) (sym (front_step (c.args.most - c.loop-place.shown) e rest low))
          ∙ ap (λ l. c.loop-place.held.items ++ front (c.args.most - c.loop-place.shown) l) (sym c.in-Some.ensures.steps) ∙ c.loop-place.invariant.0,
      omega arith,
    )

pub returns-clause-held : goal.returns-clause-held
returns-clause-held c =
    let all = c.into_iter-place-iterator.result in
    let whole = within_of c.args.table c.args.from.now c.args.below.now c.in_ok-first.first c.in_ok-end.end c.args.rows.now.entries all c.in_ok-first.ensures c.in_ok-end.ensures
    (c.into_iter-place-iterator.ensures.into_iter_gives ∙ c.range-place-items.ensures.between tt) in
    sym (append_none c.loop-place.held.items _ (ap (front (c.args.most - c.loop-place.shown)) c.in-None.ensures.steps.0)) ∙ c.loop-place.invariant.0 ∙ ap (front c.args.most) whole
