-- What members give to fields.
use Rattle.std.specs.Prelude.{ℕ, List, Option, not, map, filter, bytes_eq, codes}
use Rattle.base_json.specs.Reading.{◌>>=◌}
use Rattle.model.specs.declared.record_bodies.Assignment.{Assignment}
use Rattle.model.specs.declared.record_bodies.Given.TheVariants as gives
use Rattle.model.specs.Members.{Body, assignments, body_in}

-- a value for each member but `attributes`
abbrev pub given_by : Body → List Assignment
given_by b = map (λ m. record { field = m.0; given = gives.Json m.1 }) (filter (λ m. not (bytes_eq m.0 (codes "attributes"))) b)

-- the values that the body gives
abbrev pub values_in : (bytes : List ℕ) → Option (List Assignment)
values_in bytes = body_in bytes >>= assignments
