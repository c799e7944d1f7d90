-- Values, members and tables of the code as those of the definitions.
use Rattle.std.specs.Prelude.{ℕ, List, Option, map}
use Rattle.std.specs.Borrow.{Bor}
use Rattle.std.specs.Str.{chars}
use Rattle.base_json.specs.Reading.{◌>>=◌}
use Rattle.base_json.specs.declared.tree.Json.{Json}
use Rattle.base_json.specs.declared.tree.Member.{Member, out-Member}
use Rattle.model.specs.Members.{Body, all_there, as_text, entry_named, list_in, object_in, principal_in, text_in}
use Rattle.model.specs.declared.people_bodies.Spelled.{Spelled}

-- the members of an object
abbrev pub body_of : List Member → Body
body_of ms = map (λ m. ((out-Member m).name, (out-Member m).value)) ms

-- a table with the characters of its names
abbrev pub table_of : {X : Type 0} → List (Bor (List ℕ) × X) → List (List ℕ × X)
table_of rows = map (λ r. (chars r.0.now, r.1)) rows

-- what a table has under the text of a member
abbrev pub choice_member : {X : Type 0} → Body → (name : List ℕ) → (table : List (List ℕ × X)) → Option X
choice_member b name table = text_in b name >>= entry_named table

-- a member that is a list of texts
abbrev pub texts_in : Body → (name : List ℕ) → Option (List (List ℕ))
texts_in b name = list_in b name >>= λ items. all_there (map as_text items)

-- a member that is an object
abbrev pub member_object : Body → (name : List ℕ) → Option Body
member_object b name = entry_named b name >>= object_in

-- the principal that a value spells
abbrev pub as_principal : Json → Option Spelled
as_principal v = as_text v >>= principal_in

-- the principal that the text of a member spells
abbrev pub principal_member : Body → (name : List ℕ) → Option Spelled
principal_member b name = text_in b name >>= principal_in
