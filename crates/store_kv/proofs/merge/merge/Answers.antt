use Rattle.std.proofs.Common.{◌+◌, ◌++◌, drop, sym, ap, ◌∙◌, arith}
use Rattle.store_kv.specs.inner.Merging.{merged, shown_first}
use Rattle.store_kv.specs.inner.Turns.{next_turn}
use Rattle.store_kv.proofs.Turning.{head, lent_head, entry_at, both_at, entry_some, both_some, low_of}
use Rattle.store_kv.proofs.merge.merge.Goals as goal

pub turns-preserved-in-Both : goal.turns-preserved-in-Both
turns-preserved-in-Both c =
    let ks = c.turns.rows.items in
    let held = c.args.held.now in
    let at = c.turns.at in
    let e = c.index-held-at.result in
    let is = ap (λ o. next_turn o (head (drop at held))) (sym (lent_head ks 0 c.front.result c.front.ensures.item)) ∙ ap (next_turn _) (sym (lent_head held at c.get.result c.get.ensures.lookup)) ∙ sym c.next_turn.ensures ∙ c.in-Both.is in
    let low = low_of held at (both_some ks (drop at held) is) in (
      c.in_ok-show-in-Both.ensures.items (merged c.pop_front-in-Both.new.self.items (drop (at + 1) held))
          ∙ ap (λ l. c.turns.out.items ++ shown_first e (merged l (drop (at + 1) held))) c.pop_front-in-Both.ensures.rest
          ∙ ap (λ l. c.turns.out.items ++ l) (sym (both_at ks held at e low c.index-held-at.is is)) ∙ c.turns.invariant.0,
      omega (arith, c.in_ok-show-in-Both.ensures.len),
      omega (arith, low),
    )

pub turns-preserved : goal.turns-preserved
turns-preserved c =
    let ks = c.turns.rows.items in
    let held = c.args.held.now in
    let at = c.turns.at in
    let e = c.index-held-at-in-Entry.result in
    let is = ap (λ o. next_turn o (head (drop at held))) (sym (lent_head ks 0 c.front.result c.front.ensures.item)) ∙ ap (next_turn _) (sym (lent_head held at c.get.result c.get.ensures.lookup)) ∙ sym c.next_turn.ensures ∙ c.in-Entry.is in
    let low = low_of held at (entry_some ks (drop at held) is) in
    (c.in_ok-show-in-Entry.ensures.items (merged ks (drop (at + 1) held)) ∙ ap (λ l. c.turns.out.items ++ l) (sym (entry_at ks held at e low c.index-held-at-in-Entry.is is)) ∙ c.turns.invariant.0, omega (arith, c.in_ok-show-in-Entry.ensures.len), omega (arith, low))
