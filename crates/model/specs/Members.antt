-- The members of a body in JSON, and the values that they may have. What isn't of the stated form is none.
-- Source of JSON: RFC 8259. Which members a body has is this product's own.
use Rattle.std.specs.Prelude.{ℕ, ◌/◌, ◌%◌, Bool, true, false, not, ◌&&◌, ◌==◌, if◌then◌else◌, List, [], ◌∷◌, ◌++◌, map, filter, bytes_eq, codes, Option, Some, None, pos}
use Rattle.std.specs.List.{find, list_any, list_all, before_first, after_first}
use Rattle.std.specs.Option.{option_map}
use Rattle.std.specs.Str.{chars, is_utf8}
use Rattle.base_json.specs.Reading.{◌>>=◌, text as json_in}
use Rattle.base_json.specs.declared.tree.Json.{Json, out-Json}
use Rattle.base_json.specs.declared.tree.Json.TheOpen.{Json-F}
use Rattle.base_json.specs.declared.tree.Json.TheVariants as json
use Rattle.base_json.specs.declared.tree.Member.{Member, out-Member}
use Rattle.base_json.specs.declared.tree.Num.TheVariants as num
use Rattle.base_value.specs.Printing.{scale}
use Rattle.base_value.specs.Texts.{lower, texts_differ}
use Rattle.base_value.specs.declared.sharing.Level.{Level}
use Rattle.base_value.specs.declared.sharing.Level.TheVariants as level
use Rattle.model.specs.Cases.{in_case}
use Rattle.model.specs.Given.{Assignment}
use Rattle.model.specs.declared.people_bodies.PrincipalKind.{PrincipalKind}
use Rattle.model.specs.declared.people_bodies.PrincipalKind.TheVariants as kind
use Rattle.model.specs.declared.record_bodies.Given.TheVariants as gives
use Rattle.model.specs.Principals.{Spelled}

-- the first entry under a name
abbrev pub entry_named : {X : Type 0} → List (List ℕ × X) → List ℕ → Option X
entry_named table name = option_map (λ x. x.1) (find (λ x. bytes_eq x.0 name) table)

-- ---- bodies

-- the members of an object, in their order
abbrev pub Body : Type 0
Body = List (List ℕ × Json)

abbrev pub members_in : Json-F Json Member → Option Body
members_in (Json-F.Object ms) = Some (map (λ m. ((out-Member m).name, (out-Member m).value)) ms)
members_in _ = None

-- the members of a value that is an object
abbrev pub object_in : Json → Option Body
object_in v = members_in (out-Json v)

-- the body of a request, in UTF-8: an object
unfoldable pub body_in : List ℕ → Option Body
body_in bytes = if is_utf8 bytes then json_in (chars bytes) >>= object_in else None

abbrev pub member_names : Body → List (List ℕ)
member_names b = map (λ m. m.0) b

abbrev pub is_one_of : List (List ℕ) → List ℕ → Bool
is_one_of names name = list_any (bytes_eq name) names

-- the body, if it has no member twice, all that are needed, and no other but optional ones
abbrev pub formed : (needed optional : List (List ℕ)) → Body → Option Body
formed needed optional b =
    if texts_differ (member_names b)
    && (list_all (is_one_of (needed ++ optional)) (member_names b) && list_all (is_one_of (member_names b)) needed)
    then Some b
    else None

-- the body says something
abbrev pub says_any : Body → Bool
says_any [] = false
says_any (m ∷ ms) = true

-- the body of a change: one at least of these members, none twice, and no other
abbrev pub changing : (members : List (List ℕ)) → Body → Option Body
changing members b = if says_any b then formed [] members b else None

-- ---- the JSON types of members

abbrev pub as_text : Json → Option (List ℕ)
as_text (json.Text text) = Some text
as_text _ = None

abbrev pub as_text_or_null : Json → Option (Option (List ℕ))
as_text_or_null (json.Text text) = Some (Some text)
as_text_or_null json.Null = Some None
as_text_or_null _ = None

abbrev pub as_truth : Json → Option Bool
as_truth (json.Bool truth) = Some truth
as_truth _ = None

-- a whole number, however it is written
abbrev pub as_whole : Json → Option ℕ
as_whole (json.Number (num.Exact (pos n))) = if n % scale == 0 then Some (n / scale) else None
as_whole _ = None

abbrev pub list_by : Json-F Json Member → Option (List Json)
list_by (Json-F.List items) = Some items
list_by _ = None

-- the members of these types
abbrev pub text_in : Body → List ℕ → Option (List ℕ)
text_in b name = entry_named b name >>= as_text

abbrev pub text_or_null_in : Body → List ℕ → Option (Option (List ℕ))
text_or_null_in b name = entry_named b name >>= as_text_or_null

abbrev pub truth_in : Body → List ℕ → Option Bool
truth_in b name = entry_named b name >>= as_truth

-- a truth value, false where it is left out
abbrev pub flag_in : Body → List ℕ → Option Bool
flag_in b name = in_case (entry_named b name) (Some false) as_truth

abbrev pub whole_in : Body → List ℕ → Option ℕ
whole_in b name = entry_named b name >>= as_whole

-- a member that may be left out, as it is read where it is there
abbrev pub if_any : {X : Type 0} → (Json → Option X) → Body → List ℕ → Option (Option X)
if_any read b name = in_case (entry_named b name) (Some None) (λ v. option_map Some (read v))

abbrev pub list_in : Body → List ℕ → Option (List Json)
list_in b name = entry_named b name >>= λ v. list_by (out-Json v)

-- all of them, if each is there
abbrev pub all_there : {X : Type 0} → List (Option X) → Option (List X)
all_there [] = Some []
all_there (None ∷ rest) = None
all_there (Some x ∷ rest) = option_map (λ xs. x ∷ xs) (all_there rest)

-- ---- levels and principals

abbrev pub levels : List (List ℕ × Level)
levels = (codes "Read", level.Read) ∷ (codes "Edit", level.Edit) ∷ []

abbrev pub kinds : List (List ℕ × PrincipalKind)
kinds = (codes "user", kind.User) ∷ (codes "role", kind.Role) ∷ (codes "subordinates", kind.Subordinates) ∷ (codes "group", kind.Group) ∷ []

-- `:`
abbrev pub is_colon : ℕ → Bool
is_colon c = c == 58

-- `user:ID`, `role:ID`, `subordinates:ID` or `group:ID`; whether ID is an id is judged later
unfoldable pub principal_in : List ℕ → Option Spelled
principal_in text =
    if list_any is_colon text
    then option_map (λ k. record { kind = k; text = after_first is_colon text }) (entry_named kinds (before_first is_colon text))
    else None

-- ---- values of fields: the member `attributes` is passed over, and no two names are the same whatever the case of their letters
unfoldable pub assignments : Body → Option (List Assignment)
assignments b =
    if texts_differ (map lower (member_names b))
    then Some (map (λ m. record { field = m.0; given = gives.Json m.1 }) (filter (λ m. not (bytes_eq m.0 (codes "attributes"))) b))
    else None
