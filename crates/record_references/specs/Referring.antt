-- The records of an object that refer to a record by one of its fields, and whether some refers to one of many.
use Rattle.std.specs.Prelude.{ℕ, ◌+◌, Bool, false, not, ◌&&◌, List, bytes_eq, filter, map, take, Option}
use Rattle.std.specs.Cmp.Lexicographic.{slice_cmp}
use Rattle.std.specs.List.{list_any}
use Rattle.std.specs.Ordering.{is_eq, nat_cmp}
use Rattle.formula.specs.Meaning.{value_at}
use Rattle.model.specs.declared.record.Record.{Record}
use Rattle.model.specs.Cases.{in_case}
use Rattle.model.specs.Fields.{ref_of}
use Rattle.model.specs.Jobs.{is_past}
use Rattle.model.specs.Objects.{records_of}
use Rattle.model.specs.Tenant.{Tenant}

-- the record has this id in the field with this number: the values begin with the name
abbrev pub refers_by : (number : ℕ) → (target : List ℕ) → Record → Bool
refers_by number target r = in_case (ref_of (value_at r.values (number + 1))) false (bytes_eq target)

-- the ids of at most so many of these, in their order: the first, or those after an id
unfoldable pub referring_after : (object number : ℕ) → (target : List ℕ) → Option (List ℕ) → (limit : ℕ) → Tenant → List (List ℕ)
referring_after n number target after limit t =
    map (λ r. r.id) (take limit (filter (λ r. is_past after r.id) (filter (refers_by number target) (records_of t n))))

-- the ids of all of them
unfoldable pub all_referring : (object number : ℕ) → (target : List ℕ) → Tenant → List (List ℕ)
all_referring n number target t = map (λ r. r.id) (filter (refers_by number target) (records_of t n))

-- an id is among these
abbrev pub is_among : List (List ℕ) → List ℕ → Bool
is_among ids id = list_any (λ i. is_eq (slice_cmp nat_cmp id i)) ids

-- the record isn't left out, and has the id of one of the targets in the field with this number
abbrev pub refers_to_one : (number : ℕ) → (targets without : List (List ℕ)) → Record → Bool
refers_to_one number targets without r =
    not (is_among without r.id) && in_case (ref_of (value_at r.values (number + 1))) false (is_among targets)

-- some record of the object isn't left out and has one
unfoldable pub any_referring : (object number : ℕ) → (targets without : List (List ℕ)) → Tenant → Bool
any_referring n number targets without t = list_any (refers_to_one number targets without) (records_of t n)
