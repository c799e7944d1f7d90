-- The lines of the table: a method, a place, and the kind of the request.
use Rattle.std.specs.Prelude.{ℕ, cond, ◌&&◌, List, [], ◌∷◌, bytes_eq, codes, Option, Some, None}
use Rattle.model_reads.specs.declared.read.Read.{Read}
use Rattle.model_reads.specs.declared.read.Read.TheVariants as read
use Rattle.model_requests.specs.declared.route.Route.{Route}
use Rattle.model_requests.specs.declared.route.Route.TheVariants as route
use Rattle.model_requests.specs.declared.routed.Routed.{Routed}
use Rattle.model_requests.specs.declared.routed.Routed.TheVariants.{To, Reads, NotAllowed}
use Rattle.model_requests.specs.Routing as model
use Rattle.api.specs.router.Ways.{same_pieces}
use Rattle.api.specs.declared.kind.Kind.{Kind}
use Rattle.api.specs.declared.kind.Kind.TheVariants as kind
use Rattle.api.specs.declared.read_kind.ReadKind.{ReadKind}
use Rattle.api.specs.declared.read_kind.ReadKind.TheVariants as read_kind
use Rattle.api.specs.declared.route_kind.RouteKind.{RouteKind}
use Rattle.api.specs.declared.route_kind.RouteKind.TheVariants as route_kind
use Rattle.api.specs.declared.place.Place.{Place}
use Rattle.api.specs.declared.place.Place.TheVariants as place
use Rattle.api.specs.inner.Places.{pieces_of}

-- the request of a kind, with a query string and as many parts of the path as it takes
abbrev pub made_route : RouteKind → (query first second third : List ℕ) → Route
made_route route_kind.Query q a b c = route.Query q
made_route route_kind.Create q a b c = route.Create a
made_route route_kind.Update q a b c = route.Update a b
made_route route_kind.Delete q a b c = route.Delete a b
made_route route_kind.Upsert q a b c = route.Upsert a b c
made_route route_kind.Share q a b c = route.Share
made_route route_kind.Unshare q a b c = route.Unshare a b
made_route route_kind.AddObject q a b c = route.AddObject
made_route route_kind.SetObject q a b c = route.SetObject a
made_route route_kind.AddField q a b c = route.AddField
made_route route_kind.AddValidationRule q a b c = route.AddValidationRule
made_route route_kind.RemoveValidationRule q a b c = route.RemoveValidationRule a b
made_route route_kind.AddSharingRule q a b c = route.AddSharingRule
made_route route_kind.RemoveSharingRule q a b c = route.RemoveSharingRule a
made_route route_kind.AddUser q a b c = route.AddUser
made_route route_kind.SetUser q a b c = route.SetUser a
made_route route_kind.AddRole q a b c = route.AddRole
made_route route_kind.SetRole q a b c = route.SetRole a
made_route route_kind.AddGroup q a b c = route.AddGroup
made_route route_kind.SetGroup q a b c = route.SetGroup a
made_route route_kind.RemoveRole q a b c = route.RemoveRole a
made_route route_kind.RemoveGroup q a b c = route.RemoveGroup a
made_route route_kind.SetOrganisation q a b c = route.SetOrganisation
made_route route_kind.BeginRetype q a b c = route.BeginRetype
made_route route_kind.GetRetype q a b c = route.GetRetype
made_route route_kind.CancelRetype q a b c = route.CancelRetype

-- the same of a read
abbrev pub made_read : ReadKind → (query first second third : List ℕ) → Read
made_read read_kind.Caller q a b c = read.Caller
made_read read_kind.People q a b c = read.People
made_read read_kind.Versions q a b c = read.Versions
made_read read_kind.Resources q a b c = read.Resources
made_read read_kind.Limits q a b c = read.Limits
made_read read_kind.Objects q a b c = read.Objects
made_read read_kind.Object q a b c = read.Object a
made_read read_kind.Record q a b c = read.Record a b q
made_read read_kind.RecordBy q a b c = read.RecordBy a b c q
made_read read_kind.Shares q a b c = read.Shares a
made_read read_kind.Users q a b c = read.Users
made_read read_kind.Roles q a b c = read.Roles
made_read read_kind.Groups q a b c = read.Groups
made_read read_kind.SharingRules q a b c = read.SharingRules
made_read read_kind.ObjectSettings q a b c = read.ObjectSettings
made_read read_kind.ValidationRules q a b c = read.ValidationRules a

-- the same of any kind
abbrev pub made_with : Kind → (query first second third : List ℕ) → Routed
made_with (kind.To k) q a b c = To (made_route k q a b c)
made_with (kind.Reads k) q a b c = Reads (made_read k q a b c)

-- the same, with the parts as a list
abbrev pub made_by : Kind → (query : List ℕ) → (parts : List (List ℕ)) → Routed
made_by k q p = made_with k q (model.part 0 p) (model.part 1 p) (model.part 2 p)

abbrev pub KindLine : Type 0
KindLine = List ℕ × (Place × Kind)

abbrev pub kind_line : List ℕ → Place → RouteKind → KindLine
kind_line method p k = (method, (p, kind.To k))

-- the line of a read
abbrev pub read_line : Place → ReadKind → KindLine
read_line p k = (codes "GET", (p, kind.Reads k))

unfoldable pub kind_lines : List KindLine
kind_lines =
    kind_line (codes "GET") place.Query route_kind.Query
    ∷ kind_line (codes "GET") place.QueryAll route_kind.Query
    ∷ kind_line (codes "POST") place.Object route_kind.Create
    ∷ kind_line (codes "PATCH") place.Record route_kind.Update
    ∷ kind_line (codes "DELETE") place.Record route_kind.Delete
    ∷ kind_line (codes "PATCH") place.External route_kind.Upsert
    ∷ kind_line (codes "POST") place.Shares route_kind.Share
    ∷ kind_line (codes "DELETE") place.Share route_kind.Unshare
    ∷ kind_line (codes "POST") place.Objects route_kind.AddObject
    ∷ kind_line (codes "PATCH") place.ObjectNamed route_kind.SetObject
    ∷ kind_line (codes "POST") place.Fields route_kind.AddField
    ∷ kind_line (codes "POST") place.ValidationRules route_kind.AddValidationRule
    ∷ kind_line (codes "DELETE") place.ValidationRule route_kind.RemoveValidationRule
    ∷ kind_line (codes "POST") place.SharingRules route_kind.AddSharingRule
    ∷ kind_line (codes "DELETE") place.SharingRule route_kind.RemoveSharingRule
    ∷ kind_line (codes "POST") place.Users route_kind.AddUser
    ∷ kind_line (codes "PATCH") place.User route_kind.SetUser
    ∷ kind_line (codes "POST") place.Roles route_kind.AddRole
    ∷ kind_line (codes "PATCH") place.Role route_kind.SetRole
    ∷ kind_line (codes "DELETE") place.Role route_kind.RemoveRole
    ∷ kind_line (codes "POST") place.Groups route_kind.AddGroup
    ∷ kind_line (codes "PATCH") place.Group route_kind.SetGroup
    ∷ kind_line (codes "DELETE") place.Group route_kind.RemoveGroup
    ∷ kind_line (codes "PATCH") place.Organisation route_kind.SetOrganisation
    ∷ kind_line (codes "POST") place.Retype route_kind.BeginRetype
    ∷ kind_line (codes "GET") place.Retype route_kind.GetRetype
    ∷ kind_line (codes "DELETE") place.Retype route_kind.CancelRetype
    ∷ read_line place.UserInfo read_kind.Caller
    ∷ read_line place.Identity read_kind.Caller
    ∷ read_line place.Versions read_kind.Versions
    ∷ read_line place.Version read_kind.Resources
    ∷ read_line place.Limits read_kind.Limits
    ∷ read_line place.People read_kind.People
    ∷ read_line place.DescribedObjects read_kind.Objects
    ∷ read_line place.Object read_kind.Object
    ∷ read_line place.Record read_kind.Record
    ∷ read_line place.External read_kind.RecordBy
    ∷ read_line place.RecordShares read_kind.Shares
    ∷ read_line place.Users read_kind.Users
    ∷ read_line place.Roles read_kind.Roles
    ∷ read_line place.Groups read_kind.Groups
    ∷ read_line place.SharingRules read_kind.SharingRules
    ∷ read_line place.Objects read_kind.ObjectSettings
    ∷ read_line place.ObjectRules read_kind.ValidationRules
    ∷ []

-- the kind of the first line with the method and the place's pattern
abbrev pub kind_in : (method : List ℕ) → Place → List KindLine → Option Kind
kind_in method p [] = None
kind_in method p ((m, (q, k)) ∷ lines) =
    cond (same_pieces (pieces_of p) (pieces_of q) && bytes_eq method m) (Some k) (kind_in method p lines)

-- what a path with a pattern of the table comes to, by the kind of the method there
abbrev pub routed_at : Option Kind → (query : List ℕ) → (parts : List (List ℕ)) → Routed
routed_at None query parts = NotAllowed
routed_at (Some k) query parts = made_by k query parts
