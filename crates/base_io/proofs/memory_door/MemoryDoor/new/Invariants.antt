use Rattle.std.proofs.Common.{◌≡◌, ◌≤◌, ℕ, [], map, slice_index_or, take}
use Rattle.std.specs.List.{All}
use Rattle.std.specs.Vec.{vec_capacity, vec_items, vec_len}
use Rattle.base_io.proofs.memory_door.MemoryDoor.new.Given as goal

abbrev pub invariant-loop-connection : goal.invariant-loop-connection
invariant-loop-connection l = record {
  inputs : l.inputs.items ≡ take l.connection-index l.connections;
  outputs : vec_len l.outputs ≡ l.connection-index;
  room : All (λ v. (vec_len v ≤ l.room) × (l.room ≤ vec_capacity v)) l.outputs.items;
  unused : (k : ℕ) → slice_index_or (map vec_items l.outputs.items) k [] ≡ [];
}
