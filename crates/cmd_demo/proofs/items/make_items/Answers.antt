use Rattle.std.proofs.Common.{◌+◌, arith, refl, rules}
use Rattle.model.specs.Creates.{create}
use Rattle.model.specs.Paths.{Asked}
use Rattle.cmd_sandbox.specs.Making.{IsOwned}
use Rattle.cmd_demo.specs.Demos.{comes_to, given_amount, item_object, with_items}
use Rattle.cmd_demo.proofs.Coming.{come_ok}
use Rattle.cmd_demo.proofs.Counting.{items_end, items_next, items_stop}
use Rattle.cmd_demo.proofs.items.make_items.Goals as goal

pub loop-place-init : goal.loop-place-init
unfolding with_items
loop-place-init c a made = (a, refl, made)

pub loop-place-preserved : goal.loop-place-preserved
loop-place-preserved c a made =
    let now = c.args.now in
    let place = c.loop-place.place in
    let so_far = c.loop-place.invariant a made in
    let b = so_far.0 in
    let h = come_ok (λ (x : Asked) (u : Unit {0}). IsOwned now c.make_item.new.draft x) (comes_to b (create b item_object (given_amount (place + 1)))) tt (c.in_ok-make_item.ensures b so_far.2) in
    (h.0, items_next place a b so_far.1 h.0 h.1, h.2)

pub returns-in_err-make_item : goal.returns-in_err-make_item
returns-in_err-make_item c a made =
    let so_far = c.loop-place.invariant a made in
    items_stop c.loop-place.place a so_far.0 so_far.1 c.args.now c.make_item.new.draft c.args.count (search rules)
    c.from_residual-in_err-make_item.result c.in_err-make_item.field-0.0 c.from_residual-in_err-make_item.ensures (c.in_err-make_item.ensures so_far.0 so_far.2)

pub returns : goal.returns
returns c a made =
    let so_far = c.loop-place.invariant a made in
    items_end c.args.now c.loop-place.draft c.loop-place.place c.args.count a so_far.0 so_far.1 (omega arith) so_far.2
