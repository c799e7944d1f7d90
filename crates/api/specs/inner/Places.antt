-- The patterns of the table, and the routes of a router to which they are added.
use Rattle.std.specs.Prelude.{ℕ, ◌+◌, List, [], ◌∷◌, ◌++◌, Result, Ok, Err, codes, length, map}
use Rattle.std.specs.Borrow.{Bor}
use Rattle.matchit.specs.Order.{placed}
use Rattle.matchit.specs.Route.{Scan, parse_route}
use Rattle.matchit.specs.Router.{RouteOf, route_from}
use Rattle.matchit.specs.Rows.{RowsOf}
use Rattle.matchit.specs.declared.error.InsertError.{InsertError}
use Rattle.api.specs.router.Pick.{Piece, text, param, PatternOf, tokens}
use Rattle.api.specs.declared.place.Place.{Place}
use Rattle.api.specs.declared.place.Place.TheVariants as place

-- ---- patterns

-- the pieces of a pattern that begins with `/services/data/v59.0`, and of one that begins with `/admin`
abbrev pub in_data : List Piece → List Piece
in_data pieces = text (codes "services") ∷ text (codes "data") ∷ text (codes "v59.0") ∷ pieces

abbrev pub in_admin : List Piece → List Piece
in_admin pieces = text (codes "admin") ∷ pieces

-- the pattern of a place
abbrev pub pieces_of : Place → List Piece
pieces_of place.Query = in_data (text (codes "query") ∷ [])
pieces_of place.QueryAll = in_data (text (codes "queryAll") ∷ [])
pieces_of place.Object = in_data (text (codes "sobjects") ∷ param ∷ [])
pieces_of place.Record = in_data (text (codes "sobjects") ∷ param ∷ param ∷ [])
pieces_of place.External = in_data (text (codes "sobjects") ∷ param ∷ param ∷ param ∷ [])
pieces_of place.Shares = in_data (text (codes "shares") ∷ [])
pieces_of place.Share = in_data (text (codes "shares") ∷ param ∷ param ∷ [])
pieces_of place.Objects = in_admin (text (codes "objects") ∷ [])
pieces_of place.ObjectNamed = in_admin (text (codes "objects") ∷ param ∷ [])
pieces_of place.Fields = in_admin (text (codes "fields") ∷ [])
pieces_of place.ValidationRules = in_admin (text (codes "validation-rules") ∷ [])
pieces_of place.ValidationRule = in_admin (text (codes "validation-rules") ∷ param ∷ param ∷ [])
pieces_of place.SharingRules = in_admin (text (codes "sharing-rules") ∷ [])
pieces_of place.SharingRule = in_admin (text (codes "sharing-rules") ∷ param ∷ [])
pieces_of place.Users = in_admin (text (codes "users") ∷ [])
pieces_of place.User = in_admin (text (codes "users") ∷ param ∷ [])
pieces_of place.Roles = in_admin (text (codes "roles") ∷ [])
pieces_of place.Role = in_admin (text (codes "roles") ∷ param ∷ [])
pieces_of place.Groups = in_admin (text (codes "groups") ∷ [])
pieces_of place.Group = in_admin (text (codes "groups") ∷ param ∷ [])
pieces_of place.Organisation = in_admin (text (codes "organisation") ∷ [])
pieces_of place.Retype = in_admin (text (codes "retype") ∷ [])
pieces_of place.UserInfo = text (codes "services") ∷ text (codes "oauth2") ∷ text (codes "userinfo") ∷ []
pieces_of place.Identity = text (codes "id") ∷ param ∷ param ∷ []
pieces_of place.Versions = text (codes "services") ∷ text (codes "data") ∷ []
pieces_of place.Version = in_data []
pieces_of place.Limits = in_data (text (codes "limits") ∷ [])
pieces_of place.People = in_data (text (codes "people") ∷ [])
pieces_of place.DescribedObjects = in_data (text (codes "sobjects") ∷ [])
pieces_of place.RecordShares = in_data (text (codes "shares") ∷ param ∷ [])
pieces_of place.ObjectRules = in_admin (text (codes "validation-rules") ∷ param ∷ [])

-- ---- how a router spells a pattern

-- the text of a pattern, whose parameters are `{a}`, `{b}` and so on, from a letter on
abbrev pub spelled_from : (letter : ℕ) → List Piece → List ℕ
spelled_from letter [] = []
spelled_from letter (text t ∷ pieces) = codes "/" ++ (t ++ spelled_from letter pieces)
spelled_from letter (param ∷ pieces) = codes "/{" ++ (letter ∷ (codes "}" ++ spelled_from (letter + 1) pieces))

abbrev pub spelled : List Piece → List ℕ
spelled pieces = spelled_from 97 pieces

-- from where to where the letters are in such a text, counted from a place on
abbrev pub names_from : (at : ℕ) → List Piece → List (ℕ × ℕ)
names_from at [] = []
names_from at (text t ∷ pieces) = names_from (at + 1 + length t) pieces
names_from at (param ∷ pieces) = (at + 2, at + 3) ∷ names_from (at + 4) pieces

abbrev pub route_of : Place → PatternOf (RouteOf Place)
route_of p = (
  pieces_of p,
  record {
    pattern = tokens (pieces_of p);
    text = spelled (pieces_of p);
    names = names_from 0 (pieces_of p);
    value = p;
  },
)

-- ---- the table

-- the places, in the order in which they are added
abbrev pub places : List Place
places =
    place.Query ∷ place.QueryAll ∷ place.Object ∷ place.Record ∷ place.External ∷ place.Shares ∷ place.Share
    ∷ place.Objects ∷ place.ObjectNamed ∷ place.Fields ∷ place.ValidationRules ∷ place.ValidationRule
    ∷ place.SharingRules ∷ place.SharingRule
    ∷ place.Users ∷ place.User ∷ place.Roles ∷ place.Role ∷ place.Groups ∷ place.Group ∷ place.Organisation
    ∷ place.Retype
    ∷ place.UserInfo ∷ place.Identity ∷ place.Versions ∷ place.Version ∷ place.Limits ∷ place.People
    ∷ place.DescribedObjects ∷ place.RecordShares ∷ place.ObjectRules ∷ []

-- in the order of a router: byte by byte, and a longer pattern before one that is its beginning
abbrev pub ordered_places : List Place
ordered_places =
    place.Fields ∷ place.Group ∷ place.Groups ∷ place.ObjectNamed ∷ place.Objects ∷ place.Organisation ∷ place.Retype
    ∷ place.Role ∷ place.Roles
    ∷ place.SharingRule ∷ place.SharingRules ∷ place.User ∷ place.Users
    ∷ place.ValidationRule ∷ place.ObjectRules ∷ place.ValidationRules
    ∷ place.Identity
    ∷ place.Limits ∷ place.People ∷ place.QueryAll ∷ place.Query
    ∷ place.Share ∷ place.RecordShares ∷ place.Shares
    ∷ place.External ∷ place.Record ∷ place.Object ∷ place.DescribedObjects
    ∷ place.Version ∷ place.Versions ∷ place.UserInfo ∷ []

unfoldable pub patterns : List (List ℕ × Place)
patterns = map (λ p. (spelled (pieces_of p), p)) places

unfoldable pub table : List (PatternOf (RouteOf Place))
table = map route_of ordered_places

-- ---- a router to which patterns are added

-- a pattern's text with its place
abbrev pub pattern_of : Bor (List ℕ) × Place → List ℕ × Place
pattern_of p = (p.0.now, p.1)

-- the routes with one more
abbrev pub with_read : Result Scan InsertError → Place → RowsOf (RouteOf Place) → RowsOf (RouteOf Place)
with_read (Ok s) value old = placed (s.pattern, route_from s value) old
with_read (Err e) value old = old

-- the routes with each of these
abbrev pub added : RowsOf (RouteOf Place) → List (List ℕ × Place) → RowsOf (RouteOf Place)
added old [] = old
added old ((spelled, value) ∷ rest) = added (with_read (parse_route spelled) value old) rest

-- ---- parameters

-- what the parameters took
abbrev pub taken : List (List ℕ × List ℕ) → List (List ℕ)
taken parts = map (λ p. p.1) parts
