-- The objects and records of a tenant, and how they are found.
-- Sources: Salesforce, "SOQL and SOSL Reference", of names, in which case is ignored; "ID Field Type", that an id's first
-- three characters tell its object. How they tell it is this product's own.
use Rattle.std.specs.Prelude.{ℕ, zero, suc, Bool, ◌==◌, List, [], ◌∷◌, ◌++◌, map, take, drop, filter, codes, Option, slice_get}
use Rattle.std.specs.List.{enumerate_from, find}
use Rattle.std.specs.Option.{option_and_then}
use Rattle.base_value.specs.Digits.{digits}
use Rattle.base_value.specs.Id.{digit62, number62}
use Rattle.model.specs.declared.record.Record.{Record}
use Rattle.model.specs.Fields.{same_name}
use Rattle.model.specs.Tenant.{Object, Tenant, User}
use Rattle.model.specs.World.{having_id, user_at}

-- ---- objects

-- an object and its number: its position among the tenant's objects, from 0
pub record Numbered : Type 0 where
  pub number : ℕ
  pub object : Object

-- objects with their numbers
abbrev pub numbered : List Object → List Numbered
numbered os = map (λ (o : ℕ × Object). record { number = o.0; object = o.1 }) (enumerate_from 0 os)

-- the object with this number
abbrev pub object_numbered : Tenant → ℕ → Option Object
object_numbered t n = slice_get t.objects n

-- the object with this name
unfoldable pub object_named : Tenant → List ℕ → Option Numbered
object_named t name = find (λ o. same_name o.object.name name) (numbered t.objects)

-- the one with this number, changed
abbrev pub change_at : {X : Type 0} → ℕ → (X → X) → List X → List X
change_at n change [] = []
change_at zero change (x ∷ xs) = change x ∷ xs
change_at (suc n) change (x ∷ xs) = x ∷ change_at n change xs

-- the tenant with one object changed
abbrev pub with_object_changed : ℕ → (Object → Object) → Tenant → Tenant
with_object_changed n change t = record t { objects = change_at n change t.objects }

-- ---- records

-- the prefix of the ids of an object's records: `a`, and the object's number in two digits
unfoldable pub record_prefix : ℕ → List ℕ
record_prefix n = codes "a" ++ map digit62 (digits 62 2 n)

-- the object's number that a record's id has
unfoldable pub object_number : List ℕ → ℕ
object_number id = number62 (take 2 (drop 1 id))

-- a record of the object with this number
abbrev pub is_of : ℕ → Record → Bool
is_of n r = object_number r.id == n

-- the object of a record
abbrev pub object_of_record : Tenant → Record → Option Object
object_of_record t r = object_numbered t (object_number r.id)

-- the records of an object, in the order of their ids
abbrev pub records_of : Tenant → ℕ → List Record
records_of t n = filter (is_of n) t.records

-- the record with this id
abbrev pub record_at : Tenant → List ℕ → Option Record
record_at t id = having_id (λ r. r.id) t.records id

-- the owner of a record
abbrev pub owner_of : Tenant → Record → Option User
owner_of t r = option_and_then (user_at t.users) r.owner
