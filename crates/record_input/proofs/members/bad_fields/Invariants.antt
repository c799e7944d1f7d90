use Rattle.std.proofs.Common.{length}
use Rattle.model.specs.Tenant.{Tenant}
use Rattle.schema_rules.specs.Objects.{object_of_layout}
use Rattle.record_input.specs.Given.{FindsAll, IsPlain}
use Rattle.record_input.proofs.BadMembers.{Passed}
use Rattle.record_input.proofs.members.bad_fields.Given as goal

abbrev pub invariant-names : goal.invariant-names
invariant-names l =
    IsPlain l.given → (t : Tenant) → FindsAll t (object_of_layout l.layout) l.given → Passed t (object_of_layout l.layout) l.given l.rest

abbrev pub decreases-names : goal.decreases-names
decreases-names l = length l.rest
