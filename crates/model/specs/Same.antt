-- The same, said of whole lists: that the numbers of ids differ.
use Rattle.std.specs.Prelude.{ℕ, List, ◌++◌, map}
use Rattle.model.specs.Known.{role_id, group_id}
use Rattle.model.specs.SoundRecords.{record_id}
use Rattle.model.specs.Tenant.{Tenant}
use Rattle.model.specs.World.{user_id}

-- the ids that were made of the counter's numbers
abbrev pub drawn_ids : Tenant → List (List ℕ)
drawn_ids t = map user_id t.users ++ (map role_id t.roles ++ (map group_id t.groups ++ map record_id t.records))
