-- What is in a slot of a record: the value of the field whose slot it is; beside the field whose type is being changed the
-- value in the new type, or the one that is left. All rows of a record are made from this.
-- Source: Weissman and Bobrowski, as in Plan, "Pivot Tables": indexes, unique values and relationships have rows of their own.
use Rattle.std.specs.Prelude.{ℕ, suc, Bool, true, false, not, ◌&&◌, ◌==◌, if◌then◌else◌, List, map, codes, bytes_eq, Option, Some, None, slice_get}
use Rattle.std.specs.List.{enumerate_from, find, range_with_len}
use Rattle.std.specs.Option.{option_and_then, option_map}
use Rattle.formula.specs.Meaning.{value_at}
use Rattle.store_rows.specs.declared.data.DataRow.{DataRow}
use Rattle.model.specs.declared.record.Record.{Record}
use Rattle.model.specs.Cases.{in_case}
use Rattle.model.specs.Fields.{is_null, ref_of}
use Rattle.model.specs.Jobs.{is_past}
use Rattle.model.specs.Tenant.{Field, Job, Object}
use Rattle.store_abstraction.specs.Plan.{OrgPlan, slot_count, type_there}
use Rattle.base_value.specs.Conversion.{convert}
use Rattle.base_value.specs.OrderKeys.{order_key}
use Rattle.base_value.specs.Printing.{print_value}
use Rattle.base_value.specs.declared.job.Phase.{Phase}
use Rattle.base_value.specs.declared.job.Phase.TheVariants as phase
use Rattle.base_value.specs.declared.value.FieldType.{FieldType}
use Rattle.base_value.specs.declared.value.Value.{Value}
use Rattle.base_value.specs.declared.value.Value.TheVariants as value

-- a value of a type, and whether its field is indexed, and unique
pub record Entry : Type 0 where
  pub kind : FieldType
  pub value : Value
  pub indexed : Bool
  pub unique : Bool

-- ---- which is in a slot

-- the field with this slot, and its number
abbrev pub slot_field : OrgPlan → (object : ℕ) → List Field → (slot : ℕ) → Option (ℕ × Field)
slot_field p n fields s = find (λ (f : ℕ × Field). p.slot n f.0 == s) (enumerate_from 0 fields)

-- a record's value of a field: the values begin with the name
abbrev pub field_entry : Record → ℕ × Field → Entry
field_entry r f = record { kind = f.1.kind; value = value_at r.values (suc f.0); indexed = f.1.indexed; unique = f.1.unique }

-- what a record has in the slot of a change: up to the cursor the value in the new type, and past it what is left
abbrev pub job_value : OrgPlan → Job → Phase → Record → Option Value
job_value p j phase.Copy r = if is_past j.cursor r.id then None else convert j.to (value_at r.values (suc j.field))
job_value p j phase.Clear r = if is_past j.cursor r.id then p.left r.id else None
job_value p j phase.Done r = None

abbrev pub job_entry : OrgPlan → Job → Record → Field → Option Entry
job_entry p j r f =
    option_map (λ v. record { kind = type_there p j; value = v; indexed = f.indexed; unique = f.unique }) (job_value p j j.phase r)

-- the same, where it is this slot of this object
abbrev pub other_entry : OrgPlan → Option Job → (object : ℕ) → Object → Record → (slot : ℕ) → Option Entry
other_entry p job n o r s =
    in_case job None (λ j.
    if (j.object == n) && (p.other == s) then option_and_then (job_entry p j r) (slice_get o.fields j.field) else None)

-- what is in a slot of a record of the object with this number
unfoldable pub slot_entry : OrgPlan → Option Job → (object : ℕ) → Object → Record → (slot : ℕ) → Option Entry
slot_entry p job n o r s = in_case (slot_field p n o.fields s) (other_entry p job n o r s) (λ f. Some (field_entry r f))

-- ---- what the rows have of it

-- the text of a value in its slot: an id has its fifteen characters, and null and false have none
abbrev pub slot_text : Value → Option (List ℕ)
slot_text value.Null = None
slot_text (value.Bool false) = None
slot_text (value.Bool true) = Some (codes "1")
slot_text (value.Ref id) = Some id
slot_text v = Some (print_value v)

abbrev pub entry_text : Option Entry → Option (List ℕ)
entry_text e = option_and_then (λ x. slot_text x.value) e

-- the texts of all slots
unfoldable pub slots_of : (ℕ → Option Entry) → List (Option (List ℕ))
slots_of entries = map (λ s. entry_text (entries s)) (range_with_len 0 slot_count)

-- the text of a record's name
abbrev pub name_text : Value → Option (List ℕ)
name_text (value.Text cs) = Some cs
name_text _ = None

-- the row of a record
abbrev pub data_of : (org object : ℕ) → Record → (ℕ → Option Entry) → DataRow
data_of org n r entries =
    record {
      org = org;
      object = n;
      id = r.id;
      name = name_text (value_at r.values 0);
      owner = r.owner;
      created = r.created;
      modified = r.modified;
      slots = slots_of entries;
    }

-- a value that isn't null, with this order key
abbrev pub has_key : (key : List ℕ) → Entry → Bool
has_key key e = not (is_null e.value) && bytes_eq (order_key e.value) key

-- the values of indexed fields, of unique fields, and the references to this record
abbrev pub is_indexed : (key : List ℕ) → Option Entry → Bool
is_indexed key e = in_case e false (λ x. x.indexed && has_key key x)

abbrev pub is_unique : (key : List ℕ) → Option Entry → Bool
is_unique key e = in_case e false (λ x. x.unique && has_key key x)

abbrev pub is_reference_to : (target : List ℕ) → Option Entry → Bool
is_reference_to target e = in_case e false (λ x. in_case (ref_of x.value) false (bytes_eq target))
