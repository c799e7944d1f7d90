-- The key of an upsert, and the members of a body that are about it.
use Rattle.std.specs.Prelude.{◌≡◌, Bool, not, ◌&&◌, [], ◌∷◌, List, Option, Some, IsTrue}
use Rattle.model.specs.declared.record_bodies.Assignment.{Assignment}
use Rattle.model.specs.Edits.{bad_field}
use Rattle.model.specs.Fields.{same_name}
use Rattle.model.specs.Given.{read_given}
use Rattle.model.specs.Keys.{Key, other_key, reads_as}
use Rattle.model.specs.Rules.{Rule, first_refusal}
use Rattle.model.specs.Tenant.{Object, Tenant}
use Rattle.record_input.specs.Given.{IsKnown, has_key_type}
use Rattle.record_input.specs.declared.found.Found.{Found}
use Rattle.record_input.specs.declared.key.UpsertKey.{UpsertKey}

-- the key's type is a type
abbrev pub PlainKey : Option UpsertKey → Type 0
PlainKey key = (k : UpsertKey) → key ≡ Some k → IsTrue (has_key_type k)

-- if this gives the key by a record that is to be found, that record is told
abbrev pub KnowsKey : Tenant → List Found → Key → Assignment → Type 0
KnowsKey t found key x = IsTrue (same_name x.field key.column.name) → IsKnown t found key.column x.given

-- the same, where there is a key
abbrev pub KnowsKeyOf : Tenant → List Found → Option Key → Assignment → Type 0
KnowsKeyOf t found key x = (k : Key) → key ≡ Some k → KnowsKey t found k x

-- this gives the key another value
abbrev pub has_other : Tenant → Key → Assignment → Bool
has_other t key x = same_name x.field key.column.name && not (reads_as key.value (read_given t key.column x.given))

-- a member of a body is refused for its name, or for what it gives the key
abbrev pub bad_member : Tenant → Object → Option Key → Assignment → Rule
bad_member t o key x = first_refusal (bad_field o x ∷ other_key t key x ∷ [])
