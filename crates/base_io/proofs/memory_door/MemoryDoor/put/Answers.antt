use Rattle.std.proofs.Common.{◌≡◌, ◌≤◌, ◌<◌, ◌∙◌, ◌+◌, ◌++◌, ℕ, [], true, not, is_ok, length, map, min, take, get_or, set, ap, sym, subst, arith, List, Vec, Global, vec_len}
use Rattle.std.specs.Option.{is_some}
use Rattle.std.specs.Vec.{vec_capacity, vec_items}
use Rattle.std.proofs.lemmas.List.{get_or-map, length-map, length-take, map-set}
use Rattle.std.proofs.lemmas.List.Elements.{All-get_or, All-set}
use Rattle.base_io.specs.Doors.{DoorState}
use Rattle.base_io.specs.Memory.{Entrance, with_written}
use Rattle.base_io.specs.inner.Places.{state_at}
use Rattle.base_io.proofs.Places.{came-present, puts, unused-set}
use Rattle.base_io.proofs.memory_door.MemoryDoor.put.Goals as goal

-- an output within its room, for which there is memory
abbrev Fits : ℕ → Vec ℕ Global → Type 0
Fits room v = (vec_len v ≤ room) × (room ≤ vec_capacity v)

-- what the calls made of the present output
record Put (c : goal.After-self-1) : Type 0 where
  present : is_some c.self.inside.at ≡ true
  place : c.self.inside.ended < length c.self.inside.outputs.items
  fits : Fits c.self.inside.room c.extend_from_slice.new.self
  items : vec_items c.extend_from_slice.new.self ≡ get_or (map vec_items c.self.inside.outputs.items) c.self.inside.ended [] ++ take c.min-count.result c.args.piece.now

put : (c : goal.After-self-1) → Put c
put c =
    let inside = c.self.inside in
    let inv = c.self.invariant in
    let old = c.index_mut-output.result.now in
    let call = c.extend_from_slice.ensures in
    let present : is_some inside.at ≡ true = c.is_none.ensures ∙ ap not c.if-is_none.false in
    let place : inside.ended < length inside.outputs.items = omega (arith, came-present inside.ended inside.at present, inv.within, inv.outputs, inside.outputs.ok.0) in
    let before : Fits inside.room old = subst (Fits inside.room) (sym c.index_mut-output.ensures.value) (All-get_or (Fits inside.room) inside.outputs.items inside.ended old place inv.room) in
    let part : length (take c.min-count.result c.args.piece.now) ≡ min c.min-count.result (length c.args.piece.now) = length-take c.min-count.result c.args.piece.now in
    let good : is_ok c.extend_from_slice.result ≡ true = call.succeeds (omega (arith, before.0, before.1, part)) in
    let size : vec_len c.extend_from_slice.new.self ≡ vec_len old + length (take c.min-count.result c.args.piece.now) = rw good at call.len in
    let first : vec_items old ≡ get_or (map vec_items inside.outputs.items) inside.ended [] =
    ap vec_items c.index_mut-output.ensures.value ∙ sym (get_or-map vec_items inside.outputs.items inside.ended old [] place) in
    record {
      present = present;
      place = place;
      fits = (omega (arith, size, before.0, part), omega (arith, before.1, call.capacity));
      items = rw good at call.items ∙ ap (λ (xs : List ℕ). xs ++ take c.min-count.result c.args.piece.now) first;
    }

pub invariant_of-self : goal.invariant_of-self
invariant_of-self c =
    let inside = c.self.inside in
    let inv = c.self.invariant in
    let new = c.extend_from_slice.new.self in
    let known = put c in
    record {
      within = inv.within;
      outputs = inv.outputs;
      read = inv.read;
      room = All-set (Fits inside.room) inside.outputs.items inside.ended new known.fits inv.room;
      unused = λ k h. rw map-set (unused-set (map vec_items inside.outputs.items) inside.ended inside.at (vec_items new) known.present inv.unused k h);
    }

-- a door with all but what it holds as it was
with_held : goal.After-self-1 → DoorState → Entrance
with_held c held = record {
  held = held;
  room = c.self.inside.room;
  calls = c.self.inside.schedule.made;
  failing = c.self.inside.schedule.failing;
  faults = c.self.inside.faults;
  line_faults = c.self.inside.line_faults;
}

pub returns-clause-after : goal.returns-clause-after
unfolding with_held
returns-clause-after c =
    let inside = c.self.inside in
    let outs = map vec_items inside.outputs.items in
    let bytes = take c.min-count.result c.args.piece.now in
    let known = put c in
    let written : map vec_items (set inside.outputs.items inside.ended c.extend_from_slice.new.self) ≡ set outs inside.ended (get_or outs inside.ended [] ++ bytes) =
    map-set vec_items inside.outputs.items inside.ended c.extend_from_slice.new.self ∙ ap (set outs inside.ended) known.items in
    let size : length outs ≡ length inside.outputs.items = simp length-map in
    let place : inside.ended < length outs = omega (arith, known.place, size) in
    ap (λ (o : List (List ℕ)). with_held c (state_at inside.inputs.items o inside.ended inside.at)) written
    ∙ ap (with_held c) (puts inside.inputs.items outs inside.ended inside.at bytes known.present place)
    ∙ ap (λ (e : Entrance). record e { held = with_written e.held bytes }) c.self.view_is
