use Rattle.std.proofs.Common.{◌≡◌, [], drop, take}
use Rattle.api_read.specs.inner.Columns.{sites_named}
use Rattle.api_read.proofs.ColumnsNamed.{behind}
use Rattle.api_read.proofs.records.columns.sites_named.Given as goal

-- those of the names so far are found
abbrev pub invariant-loop-place : goal.invariant-loop-place
invariant-loop-place l = sites_named l.layout [] l.names ≡ behind l.sites (sites_named l.layout (take l.place l.names) (drop l.place l.names))
