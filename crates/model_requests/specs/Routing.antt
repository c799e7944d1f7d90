-- Which request a method and a target ask for. The routes are this product's own, after Salesforce's REST API.
use Rattle.std.specs.Prelude.{ℕ, ◌+◌, ◌*◌, ◌-◌, Bool, true, false, ◌==◌, ◌&&◌, nat_le, if◌then◌else◌, List, [], ◌∷◌, ◌++◌, take, drop, bytes_eq, codes, slice_index_or, Option, Some, None, is_some}
use Rattle.std.specs.List.{list_any, before_first, after_first}
use Rattle.std.specs.Option.{option_map}
use Rattle.form_urlencoded.specs.Form.{split}
use Rattle.model_reads.specs.declared.read.Read.{Read}
use Rattle.model_reads.specs.declared.read.Read.TheVariants as read
use Rattle.model_requests.specs.declared.route.Route.{Route}
use Rattle.model_requests.specs.declared.route.Route.TheVariants as route
use Rattle.model_requests.specs.declared.routed.Routed.{Routed}
use Rattle.model_requests.specs.declared.routed.Routed.TheVariants.{To, Reads, NotFound, NotAllowed}

-- ---- paths and patterns

-- what is between the `/` of a path
abbrev pub segments : List ℕ → List (List ℕ)
segments path = split 47 path

-- no characters
abbrev pub is_empty : List ℕ → Bool
is_empty [] = true
is_empty (c ∷ cs) = false

-- the parts of a path that has a pattern: `{}` in a pattern is a part, which isn't empty; all else is itself
abbrev pub parts_by : (pattern path : List (List ℕ)) → Option (List (List ℕ))
parts_by [] [] = Some []
parts_by (p ∷ ps) (s ∷ ss) =
    if bytes_eq p (codes "{}") then (if is_empty s then None else option_map (λ more. s ∷ more) (parts_by ps ss))
    else (if bytes_eq p s then parts_by ps ss else None)
parts_by _ _ = None

-- ---- the table

-- a line of the table: a method, a pattern, and the request, of the query string and the parts of the path
pub record Line : Type 0 where
  pub method : List ℕ
  pub pattern : List ℕ
  pub made : (query : List ℕ) → (parts : List (List ℕ)) → Routed

abbrev pub line : List ℕ → List ℕ → (List ℕ → List (List ℕ) → Route) → Line
line method pattern made = record { method = method; pattern = pattern; made = λ query parts. To (made query parts) }

-- the line of a read, which is asked for by GET
abbrev pub reading : List ℕ → (List ℕ → List (List ℕ) → Read) → Line
reading pattern made = record { method = codes "GET"; pattern = pattern; made = λ query parts. Reads (made query parts) }

-- part n of a path
abbrev pub part : ℕ → List (List ℕ) → List ℕ
part n parts = slice_index_or parts n []

unfoldable pub lines : List Line
lines =
    line (codes "GET") (codes "/services/data/v59.0/query") (λ q p. route.Query q)
    ∷ line (codes "GET") (codes "/services/data/v59.0/queryAll") (λ q p. route.Query q)
    ∷ line (codes "POST") (codes "/services/data/v59.0/sobjects/{}") (λ q p. route.Create (part 0 p))
    ∷ line (codes "PATCH") (codes "/services/data/v59.0/sobjects/{}/{}") (λ q p. route.Update (part 0 p) (part 1 p))
    ∷ line (codes "DELETE") (codes "/services/data/v59.0/sobjects/{}/{}") (λ q p. route.Delete (part 0 p) (part 1 p))
    ∷ line (codes "PATCH") (codes "/services/data/v59.0/sobjects/{}/{}/{}") (λ q p. route.Upsert (part 0 p) (part 1 p) (part 2 p))
    ∷ line (codes "POST") (codes "/services/data/v59.0/shares") (λ q p. route.Share)
    ∷ line (codes "DELETE") (codes "/services/data/v59.0/shares/{}/{}") (λ q p. route.Unshare (part 0 p) (part 1 p))
    ∷ line (codes "POST") (codes "/admin/objects") (λ q p. route.AddObject)
    ∷ line (codes "PATCH") (codes "/admin/objects/{}") (λ q p. route.SetObject (part 0 p))
    ∷ line (codes "POST") (codes "/admin/fields") (λ q p. route.AddField)
    ∷ line (codes "POST") (codes "/admin/validation-rules") (λ q p. route.AddValidationRule)
    ∷ line (codes "DELETE") (codes "/admin/validation-rules/{}/{}") (λ q p. route.RemoveValidationRule (part 0 p) (part 1 p))
    ∷ line (codes "POST") (codes "/admin/sharing-rules") (λ q p. route.AddSharingRule)
    ∷ line (codes "DELETE") (codes "/admin/sharing-rules/{}") (λ q p. route.RemoveSharingRule (part 0 p))
    ∷ line (codes "POST") (codes "/admin/users") (λ q p. route.AddUser)
    ∷ line (codes "PATCH") (codes "/admin/users/{}") (λ q p. route.SetUser (part 0 p))
    ∷ line (codes "POST") (codes "/admin/roles") (λ q p. route.AddRole)
    ∷ line (codes "PATCH") (codes "/admin/roles/{}") (λ q p. route.SetRole (part 0 p))
    ∷ line (codes "DELETE") (codes "/admin/roles/{}") (λ q p. route.RemoveRole (part 0 p))
    ∷ line (codes "POST") (codes "/admin/groups") (λ q p. route.AddGroup)
    ∷ line (codes "PATCH") (codes "/admin/groups/{}") (λ q p. route.SetGroup (part 0 p))
    ∷ line (codes "DELETE") (codes "/admin/groups/{}") (λ q p. route.RemoveGroup (part 0 p))
    ∷ line (codes "PATCH") (codes "/admin/organisation") (λ q p. route.SetOrganisation)
    ∷ line (codes "POST") (codes "/admin/retype") (λ q p. route.BeginRetype)
    ∷ line (codes "GET") (codes "/admin/retype") (λ q p. route.GetRetype)
    ∷ line (codes "DELETE") (codes "/admin/retype") (λ q p. route.CancelRetype)
    ∷ reading (codes "/services/oauth2/userinfo") (λ q p. read.Caller)
    ∷ reading (codes "/id/{}/{}") (λ q p. read.Caller)
    ∷ reading (codes "/services/data") (λ q p. read.Versions)
    ∷ reading (codes "/services/data/v59.0") (λ q p. read.Resources)
    ∷ reading (codes "/services/data/v59.0/limits") (λ q p. read.Limits)
    ∷ reading (codes "/services/data/v59.0/people") (λ q p. read.People)
    ∷ reading (codes "/services/data/v59.0/sobjects") (λ q p. read.Objects)
    ∷ reading (codes "/services/data/v59.0/sobjects/{}") (λ q p. read.Object (part 0 p))
    ∷ reading (codes "/services/data/v59.0/sobjects/{}/{}") (λ q p. read.Record (part 0 p) (part 1 p) q)
    ∷ reading (codes "/services/data/v59.0/sobjects/{}/{}/{}") (λ q p. read.RecordBy (part 0 p) (part 1 p) (part 2 p) q)
    ∷ reading (codes "/services/data/v59.0/shares/{}") (λ q p. read.Shares (part 0 p))
    ∷ reading (codes "/admin/users") (λ q p. read.Users)
    ∷ reading (codes "/admin/roles") (λ q p. read.Roles)
    ∷ reading (codes "/admin/groups") (λ q p. read.Groups)
    ∷ reading (codes "/admin/sharing-rules") (λ q p. read.SharingRules)
    ∷ reading (codes "/admin/objects") (λ q p. read.ObjectSettings)
    ∷ reading (codes "/admin/validation-rules/{}") (λ q p. read.ValidationRules (part 0 p))
    ∷ []

-- ---- routing

-- `?`
abbrev pub is_question : ℕ → Bool
is_question c = c == 63

-- one slash at the end of a path is no part of it
abbrev pub without_slash : List ℕ → List ℕ
without_slash [] = []
without_slash (c ∷ []) = if c == 47 then [] else c ∷ []
without_slash (c ∷ d ∷ cs) = c ∷ without_slash (d ∷ cs)

-- ---- versions

-- two digits that spell a number from 26 to 99
abbrev pub is_version : ℕ → ℕ → Bool
is_version c d = (nat_le 48 c && nat_le c 57) && ((nat_le 48 d && nat_le d 57) && nat_le 26 (10 * (c - 48) + (d - 48)))

-- the end of a path or of a part of it
abbrev pub is_part_end : List ℕ → Bool
is_part_end [] = true
is_part_end (c ∷ cs) = c == 47

-- the rest of a version behind its `v`: two digits and `.0`
abbrev pub begins_with_version : List ℕ → Bool
begins_with_version (c ∷ d ∷ e ∷ f ∷ rest) = is_version c d && ((e == 46) && ((f == 48) && is_part_end rest))
begins_with_version _ = false

-- a version from 26 on that a client knows is served as version 59
abbrev pub as_served : List ℕ → List ℕ
as_served path =
    if bytes_eq (take 16 path) (codes "/services/data/v") && begins_with_version (drop 16 path)
    then codes "/services/data/v59.0" ++ drop 20 path
    else path

-- the path of a target ends before the first `?`
abbrev pub path_of : List ℕ → List ℕ
path_of target = as_served (without_slash (before_first is_question target))

-- the query string of a target is behind it
abbrev pub query_of : List ℕ → List ℕ
query_of target = after_first is_question target

-- the parts of a target of this line's pattern
abbrev pub parts_of : List ℕ → Line → Option (List (List ℕ))
parts_of target l = parts_by (segments l.pattern) (segments (path_of target))

-- the request, where the target has the line's pattern and the method is the line's
abbrev pub route_by : (method target : List ℕ) → Line → Option Routed
route_by method target l = if bytes_eq method l.method then option_map (l.made (query_of target)) (parts_of target l) else None

-- the first of two, if there is one
abbrev pub or_else : Option Routed → Option Routed → Option Routed
or_else None other = other
or_else (Some r) other = Some r

-- the request of the first line that gives one
abbrev pub first_route : (method target : List ℕ) → List Line → Option Routed
first_route method target [] = None
first_route method target (l ∷ ls) = or_else (route_by method target l) (first_route method target ls)

-- a target of no line isn't found, another method isn't allowed
abbrev pub or_none : Bool → Option Routed → Routed
or_none is_path (Some r) = r
or_none true None = NotAllowed
or_none false None = NotFound

-- whether the target has the pattern of a line
abbrev pub is_path : List ℕ → List Line → Bool
is_path target ls = list_any (λ l. is_some (parts_of target l)) ls

-- the method by which a message is judged: HEAD asks for what GET does
-- Source: RFC 9110, 9.3.2.
abbrev pub judged_method : List ℕ → List ℕ
judged_method method = if bytes_eq method (codes "HEAD") then codes "GET" else method

-- the request of a line of the table, or why there is none
unfoldable pub routed_as : (method target : List ℕ) → Routed
routed_as method target = or_none (is_path target lines) (first_route method target lines)

-- the request that a method and a target ask for, or why there is none
abbrev pub routed : (method target : List ℕ) → Routed
routed method target = routed_as (judged_method method) target

-- requests that administrators alone may make: all but those on records
abbrev pub is_administration : Route → Bool
is_administration (route.Query pairs) = false
is_administration (route.Create object) = false
is_administration (route.Update object key) = false
is_administration (route.Delete object key) = false
is_administration (route.Upsert object key value) = false
is_administration route.Share = false
is_administration (route.Unshare item to) = false
is_administration _ = true
