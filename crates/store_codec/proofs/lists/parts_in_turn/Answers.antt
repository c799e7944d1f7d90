use Rattle.store_codec.specs.Composed.{in_turn_at}
use Rattle.store_codec.proofs.PartLoops.{list_goes_on, list_ends, list_is_done}
use Rattle.store_codec.proofs.lists.parts_in_turn.Goals as goal

pub returns-in-Err : goal.returns-in-Err
returns-in-Err g c =
    let read = g.T.Part.reads in
    list_ends read c.args.count c.loop.counter c.loop.parts.items c.loop.rest.now (in_turn_at read c.args.count c.args.bytes.now) c.in-Err.fail c.loop-test.true c.in-Err.ensures c.loop.invariant

pub loop-preserved : goal.loop-preserved
loop-preserved g c =
    let read = g.T.Part.reads in
    list_goes_on read c.args.count c.loop.counter c.loop.parts.items c.push.new.self.items c.in-Ok.found.0 c.loop.rest.now c.in-Ok.found.1.now (in_turn_at read c.args.count c.args.bytes.now) c.loop-test.true
    c.in_ok-push.ensures.items c.in-Ok.ensures c.loop.invariant

pub returns : goal.returns
returns g c =
    let read = g.T.Part.reads in
    let done = list_is_done read c.args.count c.loop.counter c.loop.parts.items c.loop.rest.now (in_turn_at read c.args.count c.args.bytes.now) c.loop-test.false c.loop.invariant in
    cc c.from_vec.ensures
