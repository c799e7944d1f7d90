-- Values of JSON put together, and the characters by which one is written.
-- Source: RFC 8259. That ids have their 18 characters is Salesforce's, "ID Field Type".
use Rattle.std.specs.Prelude.{ℕ, pos, ◌*◌, Bool, List, Option, Some, None, map}
use Rattle.base_json.specs.Grammar.{depth}
use Rattle.base_json.specs.Whole.{printed}
use Rattle.base_json.specs.declared.tree.Json.{Json}
use Rattle.base_json.specs.declared.tree.Json.TheVariants as json
use Rattle.base_json.specs.declared.tree.Member.{Member}
use Rattle.base_json.specs.declared.tree.Num.TheVariants.{Exact}
use Rattle.base_value.specs.Id.{print18}
use Rattle.base_value.specs.Printing.{scale}

-- a whole number
abbrev pub number : ℕ → Json
number n = json.Number (Exact (pos (n * scale)))

abbrev pub text : List ℕ → Json
text characters = json.Text characters

-- an id, in 18 characters
abbrev pub id_text : List ℕ → Json
id_text id = json.Text (print18 id)

abbrev pub truth : Bool → Json
truth b = json.Bool b

-- what is made of a thing, and null where there is none
abbrev pub or_null : {X : Type 0} → (X → Json) → Option X → Json
or_null make None = json.Null
or_null make (Some x) = make x

abbrev pub list : List Json → Json
list items = json.List items

-- texts, in their order
abbrev pub texts : List (List ℕ) → Json
texts items = list (map text items)

abbrev pub member : (name : List ℕ) → Json → Member
member name value = record { name = name; value = value }

abbrev pub object : List Member → Json
object members = json.Object members

-- the characters of a body that is this value
abbrev pub body : Json → List ℕ
body v = printed depth v
