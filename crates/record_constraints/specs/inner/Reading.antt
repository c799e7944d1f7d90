-- Records that can be read, by their ids. No public contract reaches these words.
use Rattle.std.specs.Prelude.{ℕ, Bool, false, List}
use Rattle.model.specs.Cases.{in_case}
use Rattle.model.specs.Levels.{can_read}
use Rattle.model.specs.Rights.{record_of_object}
use Rattle.model.specs.Tenant.{Tenant, User}

-- the object has a record with this id, and the user may read it
abbrev pub readable_there : Tenant → User → (object : ℕ) → (id : List ℕ) → Bool
readable_there t u object id = in_case (record_of_object t object id) false (can_read t u)
