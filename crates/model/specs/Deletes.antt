-- Deletion of a record: what goes with it, and what becomes of records that refer to it.
-- Source: Salesforce, "Object Relationships Overview": details go with their master; a lookup is cleared, or restricts. That a
-- deletion changes only so many records is this product's own.
use Rattle.std.specs.Prelude.{ℕ, zero, suc, ◌+◌, Bool, true, false, not, ◌&&◌, ◌==◌, nat_lt, if◌then◌else◌, List, [], ◌∷◌, ◌++◌, map, filter, length, bytes_eq, ℤ}
use Rattle.std.specs.List.{enumerate_from, list_any}
use Rattle.base_value.specs.declared.sharing.Level.TheVariants.{Full}
use Rattle.base_value.specs.declared.value.FieldType.{FieldType}
use Rattle.base_value.specs.declared.value.FieldType.TheVariants as type
use Rattle.base_value.specs.declared.value.OnDelete.TheVariants as on_delete
use Rattle.base_value.specs.declared.value.Value.{Value}
use Rattle.base_value.specs.declared.value.Value.TheVariants as value
use Rattle.model.specs.declared.limit.Limit.TheVariants as limit
use Rattle.model.specs.declared.record.Record.{Record}
use Rattle.model.specs.declared.refusal.Refusal.TheVariants.{CascadeTooLarge, DeleteFailed}
use Rattle.model.specs.Cases.{in_case}
use Rattle.model.specs.Limits.{deletion_limit, limit_number}
use Rattle.model.specs.Objects.{is_of, object_number, object_numbered}
use Rattle.model.specs.Paths.{Asked}
use Rattle.model.specs.Relationships.{Reference, master_of_object, named_id, references}
use Rattle.model.specs.Rights.{on_named}
use Rattle.model.specs.Rules.{Rule, refuse_if, first_of}
use Rattle.model.specs.Tenant.{Tenant}
use Rattle.model.specs.Verdict.{Verdict, accept, done, judged, on_object}

-- ---- what goes

-- a record with this id is among these
abbrev pub has_id : List Record → List ℕ → Bool
has_id rs id = list_any (λ r. bytes_eq r.id id) rs

-- the record refers by this field to one of these
abbrev pub refers_to_one_of : List Record → Reference → Record → Bool
refers_to_one_of rs f r = in_case (named_id f r) false (has_id rs)

-- the details whose masters are among these
abbrev pub details_of : Tenant → List Record → List Record
details_of t rs = filter (λ r. in_case (master_of_object t.objects (object_number r.id)) false (λ f. refers_to_one_of rs f r)) t.records

-- these, their details, the details of these, and so on through so many levels
abbrev pub and_details : ℕ → Tenant → List Record → List Record
and_details zero t rs = rs
and_details (suc n) t rs = rs ++ and_details n t (details_of t rs)

-- a record, and level by level all its details
unfoldable pub cascade : Tenant → Record → List Record
cascade t r = and_details (limit_number limit.DetailLevels) t (r ∷ [])

-- ---- what refers to it

-- a record that stays refers by this field to one that goes
abbrev pub refers_into : (gone : List Record) → Reference → Record → Bool
refers_into gone f r = not (has_id gone r.id) && (is_of f.object r && refers_to_one_of gone f r)

abbrev pub restricts : FieldType → Bool
restricts (type.Lookup object on_delete.Restrict) = true
restricts _ = false

abbrev pub is_cleared : FieldType → Bool
is_cleared (type.Lookup object on_delete.Clear) = true
is_cleared _ = false

-- the name of the object with this number
abbrev pub name_at : Tenant → ℕ → List ℕ
name_at t n = in_case (object_numbered t n) [] (λ o. o.name)

-- DELETE_FAILED: the first reference by which a record that stays holds one that goes
abbrev pub restricted_by : Tenant → (gone : List Record) → Rule
restricted_by t gone =
    first_of
    (λ f. refuse_if (restricts f.field.kind && list_any (refers_into gone f) t.records) (DeleteFailed (name_at t f.object) f.field.name))
    (references t.objects)

-- the lookups that a record loses
abbrev pub cleared_lookups : Tenant → (gone : List Record) → Record → List Reference
cleared_lookups t gone r = filter (λ f. is_cleared f.field.kind && refers_into gone f r) (references t.objects)

-- a record loses a lookup
abbrev pub loses_lookup : Tenant → (gone : List Record) → Record → Bool
loses_lookup t gone r = list_any (λ f. is_cleared f.field.kind && refers_into gone f r) (references t.objects)

-- CASCADE_TOO_LARGE: records deleted and records cleared are too many together
abbrev pub too_many : Tenant → (gone : List Record) → Rule
too_many t gone = refuse_if (nat_lt deletion_limit (length gone + length (filter (loses_lookup t gone) t.records))) CascadeTooLarge

-- ---- delete

-- values with null at these positions
abbrev pub null_at : List ℕ → List Value → List Value
null_at positions values = map (λ v. if list_any (λ p. p == v.0) positions then value.Null else v.1) (enumerate_from 0 values)

-- a record with the lookups that it loses null; then it is modified now
abbrev pub cleared : ℤ → Tenant → (gone : List Record) → Record → Record
cleared now t gone r =
    if loses_lookup t gone r then record r { modified = now; values = null_at (map (λ f. f.position) (cleared_lookups t gone r)) r.values } else r

-- without what goes and its shares, and with the lookups to it cleared
abbrev pub without : ℤ → (gone : List Record) → Tenant → Tenant
without now gone t =
    record t {
      records = map (cleared now t gone) (filter (λ r. not (has_id gone r.id)) t.records);
      shares = filter (λ s. not (has_id gone s.item)) t.shares;
    }

-- the deletion of this record
abbrev pub delete_record : Asked → Record → Verdict
delete_record a r =
    let gone = cascade a.tenant r in judged a.tenant (restricted_by a.tenant gone ∷ too_many a.tenant gone ∷ []) (accept done (without a.now gone a.tenant))

-- delete: rights are asked on the named record alone
abbrev pub delete : Asked → (object key : List ℕ) → Verdict
delete a object key = on_object a.tenant object (λ o. on_named a o key Full (delete_record a))
