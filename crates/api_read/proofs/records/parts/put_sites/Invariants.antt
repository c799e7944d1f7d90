use Rattle.std.proofs.Common.{◌≡◌, ◌++◌, map, take}
use Rattle.api_read.specs.inner.RecordParts.{site_member}
use Rattle.api_read.proofs.records.parts.put_sites.Given as goal

-- the members of the sites so far are behind those that were there
abbrev pub invariant-loop-site : goal.invariant-loop-site
invariant-loop-site l = l.members ≡ l.fn.members ++ map (site_member l.layout l.item) (take l.site-index l.sites)
