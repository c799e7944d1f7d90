-- The first validation rule of an object that a record fails.
use Rattle.std.specs.Prelude.{ℕ, Option, None}
use Rattle.model.specs.declared.record.Record.{Record}
use Rattle.model.specs.Cases.{in_case}
use Rattle.model.specs.Edits.{validation_failed}
use Rattle.model.specs.Objects.{object_numbered}
use Rattle.model.specs.Paths.{Asked}
use Rattle.model.specs.Rules.{Rule}
use Rattle.model.specs.Tenant.{Tenant}

-- of the object with this number in a tenant; none where there is no such object
abbrev pub rule_failed : Asked → (object : ℕ) → (new : Record) → (old : Option Record) → Tenant → Rule
rule_failed a n new old t = in_case (object_numbered t n) None (λ o. validation_failed a o new old)
