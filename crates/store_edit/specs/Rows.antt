-- Changes of rows as data.
use Rattle.std.specs.Prelude.{◌≡◌, ◌<◌, ◌≤◌, ℕ, ◌+◌, List, [], ◌∷◌, length, map, Option, Some, None}
use Rattle.std.specs.List.{AllByRecursion}
use Rattle.store_kv.specs.State.{data_rows}
use Rattle.store_kv.specs.Tables.{Place}
use Rattle.store_kv.specs.declared.keeper.Change.{Change as Spelled}
use Rattle.store_kv.specs.declared.keeper.Change.TheVariants.{Put, Remove}
use Rattle.store_rows.specs.Forms.{Form, key_of, row_bytes}
use Rattle.store_rows.specs.Keys.{spell}
use Rattle.store_abstraction.specs.Changes.{Change}
use Rattle.store_abstraction.specs.Local.{IsIn}

-- this row in its place
abbrev pub change_to : {U : Type 0} → Form U → U → Change
change_to f u = (key_of f u, Some (row_bytes f u))

-- a change in bytes
abbrev pub spelled_at : Place → Option (List ℕ) → Spelled
spelled_at place (Some row) = Put place.0 place.1 row
spelled_at place None = Remove place.0 place.1

abbrev pub spelled : Change → Spelled
spelled c = spelled_at (spell c.0) c.1

-- these are the changes, in bytes
abbrev pub AreSpelled : List Change → List Spelled → Type 0
AreSpelled changes bytes = bytes ≡ map spelled changes

-- the data rows that such changes remove at most
abbrev pub gone_by : Spelled → ℕ
gone_by (Put table key row) = 0
gone_by (Remove table key) = data_rows table 1

abbrev pub gone_of : List Spelled → ℕ
gone_of [] = 0
gone_of (c ∷ cs) = gone_by c + gone_of cs

-- changes at keys of the organisation with this number
abbrev pub AreOf : (org : ℕ) → List Spelled → Type 0
AreOf n bytes = (changes : List Change) × AreSpelled changes bytes × AllByRecursion (IsIn n) changes

-- some changes, at most so many, which remove at most so many data rows
pub record AreFew (at_most at_most_gone : ℕ) (bytes : List Spelled) : Type 0 where
  pub some : 0 < length bytes
  pub most : length bytes ≤ at_most
  pub gone : gone_of bytes ≤ at_most_gone
