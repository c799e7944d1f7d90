-- One step of a change of a field's type. Each request of a recognised caller first makes one, over only so many records.
-- It is this product's own.
use Rattle.std.specs.Prelude.{ℕ, suc, Bool, true, if◌then◌else◌, List, [], ◌∷◌, map, filter, take, slice_set, Option, Some, None, is_none}
use Rattle.std.specs.List.{find}
use Rattle.std.specs.Ordering.{nat_cmp, is_lt}
use Rattle.std.specs.Cmp.Lexicographic.{slice_cmp}
use Rattle.base_value.specs.Conversion.{convert}
use Rattle.base_value.specs.declared.job.Outcome.TheVariants as outcome
use Rattle.base_value.specs.declared.job.Phase.{Phase}
use Rattle.base_value.specs.declared.job.Phase.TheVariants as phase
use Rattle.base_value.specs.declared.value.Value.{Value}
use Rattle.formula.specs.Meaning.{value_at}
use Rattle.model.specs.declared.record.Record.{Record}
use Rattle.model.specs.Cases.{in_case}
use Rattle.model.specs.Limits.{step_records}
use Rattle.model.specs.Objects.{change_at, is_of, records_of}
use Rattle.model.specs.Retyping.{to_clear, with_job}
use Rattle.model.specs.Tenant.{Job, Tenant}

-- ---- the records of a step

-- an id is after the cursor
abbrev pub is_past : (cursor : Option (List ℕ)) → List ℕ → Bool
is_past cursor id = in_case cursor true (λ c. is_lt (slice_cmp nat_cmp c id))

-- the first records of the job's object after its cursor, as many as a step takes
abbrev pub next_hundred : Tenant → Job → List Record
next_hundred t j = take step_records (filter (λ r. is_past j.cursor r.id) (records_of t j.object))

-- the id of the last record
abbrev pub last_id : List Record → Option (List ℕ)
last_id [] = None
last_id (r ∷ []) = Some r.id
last_id (r ∷ s ∷ rs) = last_id (s ∷ rs)

-- the cursor moves to the last of these
abbrev pub moved : Job → List Record → Job
moved j rs = record j { cursor = last_id rs }

-- ---- copying

-- a record's value of the job's field in the new type, if it converts
abbrev pub new_value : Job → Record → Option Value
new_value j r = convert j.to (value_at r.values (suc j.field))

-- a record of the object with that value
abbrev pub converted : Job → Record → Record
converted j r =
    if is_of j.object r then in_case (new_value j r) r (λ v. record r { values = slice_set r.values (suc j.field) v }) else r

-- the switch: the field has its new type, and every record its converted value
abbrev pub switched : Job → Tenant → Tenant
switched j t =
    record t {
      objects = change_at j.object (λ o. record o { fields = change_at j.field (λ f. record f { kind = j.to }) o.fields }) t.objects;
      records = map (converted j) t.records;
      job = Some (to_clear outcome.Switched j);
    }

-- the job has failed at this record
abbrev pub failed_at : Job → Record → Job
failed_at j r = record (to_clear outcome.Failed j) { failed = Some r.id }

-- a record of the job's object can't take the new type
abbrev pub is_bad : Tenant → Job → Record → Bool
is_bad t j r = is_none (new_value j r)

-- no record is left: the switch; one is bad: the first such ends the copy; else the cursor moves
abbrev pub copy_step : Job → List Record → Tenant → Tenant
copy_step j [] t = switched j t
copy_step j (r ∷ rs) t =
    with_job (in_case (find (is_bad t j) (r ∷ rs)) (moved j (r ∷ rs)) (failed_at j)) t

-- ---- clearing

-- no record is left: done; else the cursor moves
abbrev pub clear_step : Job → List Record → Tenant → Tenant
clear_step j [] t = with_job (record j { phase = phase.Done }) t
clear_step j (r ∷ rs) t = with_job (moved j (r ∷ rs)) t

-- ---- one step, by the phase
abbrev pub step_in : Phase → Job → Tenant → Tenant
step_in phase.Copy j t = copy_step j (next_hundred t j) t
step_in phase.Clear j t = clear_step j (next_hundred t j) t
step_in phase.Done j t = t

unfoldable pub job_step : Tenant → Tenant
job_step t = in_case t.job t (λ j. step_in j.phase j t)
