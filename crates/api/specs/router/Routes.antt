-- Tables of routes, as a router keeps them.
use Rattle.std.specs.Prelude.{Bool, true, ltb, ◌&&◌, ◌==◌, List, [], ◌∷◌, length}
use Rattle.matchit.specs.Router.{RouteOf}
use Rattle.matchit.specs.Seek.{same_text}
use Rattle.api.specs.router.Pick.{Piece, PatternOf, tokens}
use Rattle.api.specs.router.Find.{arity}
use Rattle.api.specs.router.Ways.{same_pieces}

module _ {V : Type 0} where
  -- a route with this pattern: its tokens, and a name for each parameter
  abbrev pub is_route_of : List Piece → RouteOf V → Bool
  is_route_of ps r = same_text r.pattern (tokens ps) && ((length r.names == arity ps) && ltb (length (tokens ps)) 18446744073709551615)

  -- each pattern is the route's to which it leads, and the one of the route's value
  abbrev pub are_routes : (V → List Piece) → List (PatternOf (RouteOf V)) → Bool
  are_routes of [] = true
  are_routes of ((ps, r) ∷ rest) = (same_pieces (of r.value) ps && is_route_of ps r) && are_routes of rest
