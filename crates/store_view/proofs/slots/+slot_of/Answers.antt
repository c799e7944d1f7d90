use Rattle.std.proofs.Common.{◌≡◌, ◌-◌, suc, ◌∙◌, sym, ap, List, ℕ, option_map, arith}
use Rattle.std.specs.Borrow.{Bor}
use Rattle.store_codec.specs.Composed.{in_turn_at}
use Rattle.store_codec.specs.Plain.{optional_at, text_at}
use Rattle.store_view.specs.Slots.{slot_in}
use Rattle.store_view.proofs.Turns.{no_slots, turn}
use Rattle.store_view.proofs.slots.+slot_of.Goals as goal

pub returns-then-count-eq0 : goal.returns-then-count-eq0
returns-then-count-eq0 t c = λ texts h.
    let n : c.args.count ≡ 0 = omega (arith, c.if-count-eq0.true) in
    sym (no_slots c.args.bytes.now texts c.args.wanted (ap (λ k. in_turn_at (optional_at text_at) k c.args.bytes.now) (sym n) ∙ h))

pub returns-then-wanted-eq0 : goal.returns-then-wanted-eq0
returns-then-wanted-eq0 t c = λ texts h.
    let n : c.args.count ≡ suc (c.args.count - 1) = omega (arith, c.if-count-eq0.false) in
    let w : c.args.wanted ≡ 0 = omega (arith, c.if-wanted-eq0.true) in
    let at = turn (c.args.count - 1) c.args.bytes.now texts (ap (λ k. in_turn_at (optional_at text_at) k c.args.bytes.now) (sym n) ∙ h) in
    c.first_slot.ensures at.text at.rest at.here ∙ sym (ap (slot_in texts) w ∙ ap (λ ts. slot_in ts 0) at.same)

pub returns-in-Some : goal.returns-in-Some
returns-in-Some t c = λ texts h.
    let n : c.args.count ≡ suc (c.args.count - 1) = omega (arith, c.if-count-eq0.false) in
    let w : c.args.wanted ≡ suc (c.args.wanted - 1) = omega (arith, c.if-wanted-eq0.false) in
    let at = turn (c.args.count - 1) c.args.bytes.now texts (ap (λ k. in_turn_at (optional_at text_at) k c.args.bytes.now) (sym n) ∙ h) in
    let found = sym (ap (option_map (λ (r : Bor (List ℕ)). r.now)) c.in-Some.is) ∙ c.after_slot.ensures at.text at.rest at.here in
    let rest : c.in-Some.rest.now ≡ at.rest = cc in
    c.slot_of.ensures at.others (ap (in_turn_at (optional_at text_at) (c.args.count - 1)) rest ∙ at.there)
    ∙ sym (ap (slot_in texts) w ∙ ap (λ ts. slot_in ts (suc (c.args.wanted - 1))) at.same)

pub returns-in-None : goal.returns-in-None
returns-in-None t c = λ texts h.
    let n : c.args.count ≡ suc (c.args.count - 1) = omega (arith, c.if-count-eq0.false) in
    let at = turn (c.args.count - 1) c.args.bytes.now texts (ap (λ k. in_turn_at (optional_at text_at) k c.args.bytes.now) (sym n) ∙ h) in
    let found = sym (ap (option_map (λ (r : Bor (List ℕ)). r.now)) c.in-None.is) ∙ c.after_slot.ensures at.text at.rest at.here in
    absurd (cc)
