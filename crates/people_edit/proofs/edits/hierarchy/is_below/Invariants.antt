use Rattle.std.proofs.Common.{◌≡◌, suc, length}
use Rattle.model.specs.Membership.{is_below_within}
use Rattle.people_edit.specs.inner.Changing.{above_in}
use Rattle.people_edit.proofs.edits.hierarchy.is_below.Given as goal

abbrev pub invariant-steps : goal.invariant-steps
invariant-steps l = is_below_within (suc l.left) (above_in l.roles) l.at l.other ≡ is_below_within (suc (length l.roles)) (above_in l.roles) l.role l.other

abbrev pub decreases-steps : goal.decreases-steps
decreases-steps l = l.left
