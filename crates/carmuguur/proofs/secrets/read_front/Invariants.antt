use Rattle.std.proofs.Common.{◌+◌, ◌-◌, vec_len}
use Rattle.std.specs.Io.KnownBytes.{Keeps, prepend_known}
use Rattle.carmuguur.specs.FirstLine.{most_needed}
use Rattle.carmuguur.proofs.secrets.read_front.Given as goal

-- what was read, and what is left, are together what there was
abbrev pub invariant-loop-source : goal.invariant-loop-source
invariant-loop-source g l = Keeps (g.S.Source.left l.fn.source) (prepend_known l.front.items (g.S.Source.left l.source))

abbrev pub decreases-loop-source : goal.decreases-loop-source
decreases-loop-source g l = most_needed + 1 - vec_len l.front
