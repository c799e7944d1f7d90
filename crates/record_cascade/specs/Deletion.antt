-- What the deletion of a record comes to: what goes with it and what loses a lookup, or the rule that refuses it.
use Rattle.std.specs.Prelude.{◌≡◌, ◌≢◌, List, ℕ, [], ◌∷◌, filter, map, None, Some, Result, Ok, Err}
use Rattle.record_cascade.specs.declared.deletion.Deletion.{Deletion}
use Rattle.store_rows.specs.declared.fail.StoreFail.TheVariants.{Damaged}
use Rattle.model.specs.declared.record.Record.{Record}
use Rattle.model.specs.Deletes.{cascade, has_id, loses_lookup, restricted_by, too_many}
use Rattle.model.specs.Rules.{Rule, first_refusal}
use Rattle.model.specs.Tenant.{Tenant}
use Rattle.store_abstraction.specs.declared.fail.EditFail.{EditFail}
use Rattle.store_abstraction.specs.declared.fail.EditFail.TheVariants.{Refused, Store}

-- the ids of the records that go, each once and in their order, and of those that lose a lookup
abbrev pub gone_ids : Tenant → (gone : List Record) → List (List ℕ)
gone_ids t gone = map (λ r. r.id) (filter (λ r. has_id gone r.id) t.records)

abbrev pub cleared_ids : Tenant → (gone : List Record) → List (List ℕ)
cleared_ids t gone = map (λ r. r.id) (filter (loses_lookup t gone) t.records)

-- the rules on it: DELETE_FAILED, then CASCADE_TOO_LARGE
abbrev pub deletion_rules : Tenant → (gone : List Record) → List Rule
deletion_rules t gone = restricted_by t gone ∷ too_many t gone ∷ []

-- no rule refuses that these go with the record and that these are cleared; or the refusal of the first that does, or why the work
-- on the tables stopped
abbrev pub DeletesWith : Tenant → Record → Result Deletion EditFail → Type 0
DeletesWith t r (Ok d) =
    (None ≡ first_refusal (deletion_rules t (cascade t r)))
    × (d.gone ≡ gone_ids t (cascade t r))
    × (d.cleared ≡ cleared_ids t (cascade t r))
DeletesWith t r (Err (Refused x)) = Some x ≡ first_refusal (deletion_rules t (cascade t r))
DeletesWith t r (Err (Store e)) = e ≢ Damaged
