use Rattle.std.proofs.Common.{◌≡◌, ◌-◌, suc, ◌∙◌, List, ℕ, sym, ap, option_map, arith}
use Rattle.std.specs.Borrow.{Bor}
use Rattle.store_view.proofs.Turns.{are, breaks, front_of, goes_on, no_front, none_left}
use Rattle.store_view.proofs.slots.+are_slots.Goals as goal

pub returns-then-count-eq0 : goal.returns-then-count-eq0
returns-then-count-eq0 t c =
    let n : c.args.count ≡ 0 = omega (arith, c.if-count-eq0.true) in
    c.is_empty.ensures ∙ sym (ap (λ k. are k c.args.bytes.now) n ∙ none_left c.args.bytes.now)

pub returns-in-Some : goal.returns-in-Some
returns-in-Some t c =
    let n : c.args.count ≡ suc (c.args.count - 1) = omega (arith, c.if-count-eq0.false) in
    let e = sym c.behind_optional_text.ensures ∙ ap (option_map (λ (r : Bor (List ℕ)). r.now)) c.in-Some.is in
    let at = front_of c.args.bytes.now c.in-Some.rest.now e in
    c.are_slots.ensures ∙ sym (ap (λ k. are k c.args.bytes.now) n ∙ goes_on (c.args.count - 1) c.args.bytes.now c.in-Some.rest.now at.0 at.1)

pub returns-in-None : goal.returns-in-None
returns-in-None t c =
    let n : c.args.count ≡ suc (c.args.count - 1) = omega (arith, c.if-count-eq0.false) in
    let e = sym c.behind_optional_text.ensures ∙ ap (option_map (λ (r : Bor (List ℕ)). r.now)) c.in-None.is in
    sym (ap (λ k. are k c.args.bytes.now) n ∙ breaks (c.args.count - 1) c.args.bytes.now (no_front c.args.bytes.now e))
