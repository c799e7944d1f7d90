-- The records that requests name: found, readable, and with the level that the request needs.
-- Source: Salesforce, "Record-Level Security". That a record which the caller can't read counts as none is this product's own.
use Rattle.std.specs.Prelude.{ℕ, not, if◌then◌else◌, List, [], ◌∷◌, Option, Some, None}
use Rattle.std.specs.Option.{option_and_then}
use Rattle.base_value.specs.Id.{id_in}
use Rattle.base_value.specs.declared.sharing.Level.{Level}
use Rattle.model.specs.declared.record.Record.{Record}
use Rattle.model.specs.declared.refusal.Refusal.TheVariants.{MalformedId, NotFound, InsufficientAccess}
use Rattle.model.specs.Cases.{in_case}
use Rattle.model.specs.Levels.{at_least, level}
use Rattle.model.specs.Objects.{Numbered, is_of, record_at}
use Rattle.model.specs.Paths.{Asked, if_readable}
use Rattle.model.specs.Rules.{Rule, refuse_if}
use Rattle.model.specs.Tenant.{Tenant}
use Rattle.model.specs.Verdict.{Verdict, judged, refuse}

-- INSUFFICIENT_ACCESS_OR_READONLY: the user's level on the record is below this
abbrev pub denied : Asked → Level → Record → Rule
denied a least r = refuse_if (not (at_least least (level a.tenant a.user r))) InsufficientAccess

-- what it comes to on a record, if there is one that the user may read; NOT_FOUND otherwise
abbrev pub on_readable : Asked → Option Record → (Record → Verdict) → Verdict
on_readable a found verdict = in_case (option_and_then (if_readable a) found) (refuse a.tenant NotFound) verdict

-- the record with this id, if it is of the object with this number
abbrev pub record_of_object : Tenant → ℕ → List ℕ → Option Record
record_of_object t n id = option_and_then (λ r. if is_of n r then Some r else None) (record_at t id)

-- what it comes to on the object's record that a text names: MALFORMED_ID, NOT_FOUND, and then the level that is needed
abbrev pub on_named : Asked → Numbered → List ℕ → Level → (Record → Verdict) → Verdict
on_named a o text least verdict =
    in_case (id_in text) (refuse a.tenant (MalformedId text)) (λ id.
    on_readable a (record_of_object a.tenant o.number id) (λ r.
    judged a.tenant (denied a least r ∷ []) (verdict r)))
