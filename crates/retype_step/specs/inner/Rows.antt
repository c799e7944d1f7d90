-- The rows of a change and of its field that a step writes.
use Rattle.std.specs.Prelude.{ℕ, Bool, not, ◌&&◌, if◌then◌else◌, List, [], ◌∷◌, Option, None, Some}
use Rattle.store_edit.specs.Rows.{change_to}
use Rattle.store_rows.specs.declared.field.FieldRow.{FieldRow}
use Rattle.store_rows.specs.declared.job.JobRow.{JobRow}
use Rattle.store_rows.specs.Rows.{field_form, job_form}
use Rattle.model.specs.SoundJob.{is_switched}
use Rattle.store_abstraction.specs.Changes.{Change}
use Rattle.store_abstraction.specs.declared.layout.FieldPlace.{FieldPlace}
use Rattle.base_value.specs.Types.{is_reference, is_type}
use Rattle.base_value.specs.declared.job.Outcome.{Outcome}
use Rattle.base_value.specs.declared.job.Outcome.TheVariants as outcome
use Rattle.base_value.specs.declared.job.Phase.TheVariants as phase
use Rattle.base_value.specs.declared.value.FieldType.{FieldType}

-- a type within its bounds that is no reference
abbrev pub is_plain : FieldType → Bool
is_plain kind = is_type kind && not (is_reference kind)

-- ---- the row of the change afterwards

-- come to this record
abbrev pub moved_row : (org : ℕ) → (cursor : Option (List ℕ)) → JobRow → JobRow
moved_row org cursor row = record row { org = org; cursor = cursor }

-- with nothing more to copy, and all to clear
abbrev pub clearing_row : (org : ℕ) → Outcome → JobRow → JobRow
clearing_row org x row = record row { org = org; phase = phase.Clear; outcome = x; cursor = None }

-- failed at the record with this id
abbrev pub failed_row : (org : ℕ) → (id : List ℕ) → JobRow → JobRow
failed_row org id row = record (clearing_row org outcome.Failed row) { failed = Some id }

-- switched: what is in the field's slot has the field's type, and is to be cleared
abbrev pub switched_row : (org : ℕ) → FieldPlace → JobRow → JobRow
switched_row org f row = record (clearing_row org outcome.Switched row) { kind = f.kind; twin = f.slot }

-- done: a field that was switched has the new type
abbrev pub done_row : (org : ℕ) → FieldPlace → JobRow → JobRow
done_row org f row = record row { org = org; phase = phase.Done; kind = if is_switched row.outcome then f.kind else row.kind }

-- the row of the field that is switched: it has the new type, and the slot that was filled
abbrev pub switched_field : (org : ℕ) → FieldPlace → JobRow → FieldRow
switched_field org f row =
    record {
      org = org;
      object = row.object;
      field = row.field;
      name = f.name;
      kind = row.kind;
      flags = record { required = f.required; unique = f.unique; indexed = f.indexed };
      slot = row.twin;
      child = f.child;
    }

-- ---- changes

-- the row of the change alone
abbrev pub row_alone : JobRow → List Change
row_alone row = change_to job_form row ∷ []

abbrev pub switch_decided : (org : ℕ) → FieldPlace → JobRow → List Change
switch_decided org f row = change_to field_form (switched_field org f row) ∷ row_alone (switched_row org f row)
