-- The table of patterns, by computing.
use Rattle.std.proofs.Common.{◌≡◌, [], true, refl}
use Rattle.matchit.specs.Route.{scan}
use Rattle.api.specs.router.Find.{all_clear}
use Rattle.api.specs.router.Pick.{ArePlain, are_plain, router_rows}
use Rattle.api.specs.router.Routes.{are_routes}
use Rattle.api.proofs.Plain.{plain-patterns}
use Rattle.api.specs.inner.Places.{added, patterns, pieces_of, table}

-- the router to which the patterns are added has the table's routes
pub made : added [] patterns ≡ router_rows table
unfolding scan patterns table
made = refl

tested : are_plain table ≡ true
unfolding table
tested = refl

pub table-plain : ArePlain table
table-plain = plain-patterns table tested

pub table-clear : all_clear table ≡ true
unfolding table
table-clear = refl

pub table-routes : are_routes pieces_of table ≡ true
unfolding table
table-routes = refl
