-- Other values for records.
-- Source: Salesforce, REST API, "Update a Record"; "Record-Level Security", that a new owner ends manual shares. The order in
-- which one is judged is this product's own.
use Rattle.std.specs.Prelude.{ℕ, suc, Bool, false, not, ◌&&◌, ◌==◌, if◌then◌else◌, List, [], ◌∷◌, map, filter, bytes_eq, slice_get, Option, Some, None, is_none}
use Rattle.std.specs.Ordering.{nat_cmp, is_le}
use Rattle.std.specs.Cmp.Lexicographic.{slice_cmp}
use Rattle.base_value.specs.Conversion.{convert}
use Rattle.base_value.specs.Values.{same_value}
use Rattle.base_value.specs.declared.job.Phase.{Phase}
use Rattle.base_value.specs.declared.job.Phase.TheVariants as phase
use Rattle.base_value.specs.declared.sharing.Level.TheVariants.{Edit, Full}
use Rattle.formula.specs.Meaning.{value_at}
use Rattle.model.specs.declared.record.Record.{Record}
use Rattle.model.specs.declared.refusal.Refusal.TheVariants as refusal
use Rattle.model.specs.Cases.{in_case}
use Rattle.model.specs.Edits.{bad_target, bad_value, duplicate, required_missing, same_owner, validation_failed, with_given}
use Rattle.model.specs.Given.{Assignment}
use Rattle.model.specs.Keys.{Key, bad_fields, with_key}
use Rattle.model.specs.Objects.{Numbered}
use Rattle.model.specs.Paths.{Asked}
use Rattle.model.specs.Relationships.{master_of_object}
use Rattle.model.specs.Rights.{denied, on_named}
use Rattle.model.specs.Rules.{Rule, refuse_if}
use Rattle.model.specs.Tenant.{Job, Tenant}
use Rattle.model.specs.Verdict.{Verdict, accept, done, judged, on_object, upserted}

-- a change of owner needs Full
abbrev pub owner_denied : Asked → (old new : Record) → Rule
owner_denied a old new = if same_owner old new then None else denied a Full old

-- a detail keeps its master
abbrev pub master_changed : Tenant → Numbered → (old new : Record) → Rule
master_changed t o old new =
    in_case (master_of_object t.objects o.number) None (λ f.
    refuse_if (not (same_value (value_at old.values f.position) (value_at new.values f.position))) (refusal.InvalidField f.field.name))

-- ---- RETYPE_CONFLICT: once a record was copied, its value of the job's field must convert

-- a job that copies has come as far as this id
abbrev pub is_copied : Phase → (cursor : Option (List ℕ)) → List ℕ → Bool
is_copied phase.Copy (Some cursor) id = is_le (slice_cmp nat_cmp id cursor)
is_copied _ _ id = false

-- a record of the object has a value that doesn't convert, and was copied
abbrev pub conflicts : Numbered → Record → Job → Bool
conflicts o new j =
    (j.object == o.number) && (is_copied j.phase j.cursor new.id && is_none (convert j.to (value_at new.values (suc j.field))))

abbrev pub retype_conflict : Tenant → Numbered → (new : Record) → Rule
retype_conflict t o new =
    in_case t.job None (λ j. in_case (slice_get o.object.fields j.field) None (λ f.
    refuse_if (conflicts o new j) (refusal.RetypeConflict f.name)))

-- ---- update

-- the new record in place of the old; where the owner changed, the record's manual shares are gone
abbrev pub with_changed : (old new : Record) → Tenant → Tenant
with_changed old new t =
    record t {
      records = map (λ r. if bytes_eq r.id new.id then new else r) t.records;
      shares = if same_owner old new then t.shares else filter (λ s. not (bytes_eq s.item new.id)) t.shares;
    }

-- the rules of an update, from those of the body's names on
abbrev pub update_rules : Asked → Numbered → Option Key → List Assignment → (old new : Record) → List Rule
update_rules a o key given old new =
    bad_fields a.tenant o.object key given
    ∷ bad_value a.tenant o.object (with_key key given)
    ∷ owner_denied a old new
    ∷ required_missing o.object new
    ∷ bad_target a o old new
    ∷ master_changed a.tenant o old new
    ∷ retype_conflict a.tenant o new
    ∷ validation_failed a o.object new (Some old)
    ∷ duplicate a o new
    ∷ []

-- other values for this record, by an update or by an upsert with a key
abbrev pub update_on : Asked → Numbered → Option Key → List Assignment → Record → Verdict
update_on a o key given old =
    let new = with_given a o.object (with_key key given) old in
    judged a.tenant (update_rules a o key given old new)
    (accept (in_case key done (λ k. upserted old.id false)) (with_changed old new a.tenant))

-- update
abbrev pub update : Asked → (object key : List ℕ) → List Assignment → Verdict
update a object key given = on_object a.tenant object (λ o. on_named a o key Edit (update_on a o None given))
