use Rattle.std.proofs.Common.{◌≡◌, ◌≤◌, ◌∙◌, length, map, take, ap, sym, arith}
use Rattle.std.proofs.lemmas.List.{length-map, length-take, take-map}
use Rattle.std.specs.Vec.{vec_items}
use Rattle.base_io.specs.Doors.{outputs}
use Rattle.base_io.specs.Memory.{Entrance}
use Rattle.base_io.specs.inner.Places.{came}
use Rattle.base_io.proofs.Places.{outputs-came}
use Rattle.base_io.proofs.memory_door.MemoryDoor.outputs.Goals as goal

pub returns : goal.returns
returns c =
    let inside = c.self.inside in
    let outs = map vec_items inside.outputs.items in
    let size : length outs ≡ length inside.outputs.items = simp length-map in
    let within : came inside.ended inside.at ≤ length outs = omega (arith, c.self.invariant.within, c.self.invariant.outputs, inside.outputs.ok.0, size) in
    let all : outputs c.args.self.now.held ≡ take (came inside.ended inside.at) outs =
    ap (λ (e : Entrance). outputs e.held) (sym c.self.view_is) ∙ outputs-came inside.inputs.items outs inside.ended inside.at within in
    let count : c.came.result ≡ came inside.ended inside.at = omega (arith, c.came.ensures, ap length all, length-take (came inside.ended inside.at) outs, within) in
    rw (c.deref.ensures.value, count, ← take-map) (sym all)
