use Rattle.std.proofs.Common.{IsTrue, length}
use Rattle.std.specs.List.{list_all}
use Rattle.base_value.specs.Types.{is_type}
use Rattle.model.specs.Tenant.{Tenant}
use Rattle.record_input.specs.inner.Fields.{columns_from}
use Rattle.record_input.specs.inner.Found.{FindsAmong}
use Rattle.record_input.proofs.Judging.{Judged}
use Rattle.record_input.proofs.given.values_over.Given as goal

abbrev pub invariant-fields : goal.invariant-fields
invariant-fields l =
    IsTrue (list_all (λ f. is_type f.kind) l.fields) → (t : Tenant)
    → FindsAmong t l.given.found.now l.given.body.now (columns_from 1 l.fields)
    → Judged t l.given l.old l.fields l.fn.name l.rest l.values.items

abbrev pub decreases-fields : goal.decreases-fields
decreases-fields l = length l.rest
