-- The rows of an object's records, and when records are kept in the same rows though plan and tenant change.
-- Source: as in Entries: indexes, unique values and relationships are rows beside those of the records.
use Rattle.std.specs.Prelude.{◌≡◌, ℕ, Bool, true, false, not, ◌&&◌, ◌==◌, if◌then◌else◌, List, bytes_eq, Option, Some, None, is_none}
use Rattle.std.specs.List.{list_any}
use Rattle.formula.specs.Meaning.{value_at}
use Rattle.store_rows.specs.Keys.{Key, Org, Object, Field, Validation, Data, Index, Unique, Relation}
use Rattle.model.specs.Cases.{in_case}
use Rattle.model.specs.Retyping.{job_is_done}
use Rattle.model.specs.SoundMetadata.{implies}
use Rattle.model.specs.Tenant as model
use Rattle.model.specs.Tenant.{Job}
use Rattle.store_abstraction.specs.Entries.{Entry, entry_text, is_indexed, is_reference_to, is_unique, name_text, slot_field}
use Rattle.store_abstraction.specs.Metadata.{named_so}
use Rattle.store_abstraction.specs.declared.layout.Layout.{Layout}
use Rattle.store_abstraction.specs.Plan.{OrgPlan}
use Rattle.store_abstraction.specs.Stands.{Kept}
use Rattle.base_value.specs.Types.{suits_indexed, suits_unique}

-- the object whose records a key is about: their own rows, and those of their values
abbrev pub object_of_records : Key → Option ℕ
object_of_records (Data org n id) = Some n
object_of_records (Index org n slot value id) = Some n
object_of_records (Unique org n slot value) = Some n
object_of_records (Relation org n slot target id) = Some n
object_of_records _ = None

-- the key of an organisation's row, of that of an object, and of that of a field
abbrev pub is_org_key : Key → Bool
is_org_key (Org org) = true
is_org_key _ = false

abbrev pub is_object_key : (object : ℕ) → Key → Bool
is_object_key n (Object org m) = m == n
is_object_key n _ = false

abbrev pub is_field_key : (object field : ℕ) → Key → Bool
is_field_key n f (Field org m g) = (m == n) && (g == f)
is_field_key n f _ = false

-- the key of the validation rule of an object that has this name in lower case
abbrev pub is_rule_key : (object : ℕ) → List ℕ → Key → Bool
is_rule_key n lower_name (Validation org m key) = (m == n) && bytes_eq key lower_name
is_rule_key n lower_name _ = false

-- the validation rule of the object with this number that a key is of, if the object has it
abbrev pub rule_at : (object : ℕ) → Key → model.Object → Option model.ValidationRule
rule_at n (Validation org m name) o = if m == n then named_so (λ r. r.name) o.validation_rules name else None
rule_at n _ o = None

-- ---- the same rows

-- two entries that are the same in all rows, as none and null are
pub record Alike (e f : Option Entry) : Type 0 where
  pub text : entry_text e ≡ entry_text f
  pub indexed : (key : List ℕ) → is_indexed key e ≡ is_indexed key f
  pub unique : (key : List ℕ) → is_unique key e ≡ is_unique key f
  pub reference : (target : List ℕ) → is_reference_to target e ≡ is_reference_to target f

-- two records that are the same in all rows
pub record KeptAlike (k l : Kept) : Type 0 where
  pub id : k.item.id ≡ l.item.id
  pub name : name_text (value_at k.item.values 0) ≡ name_text (value_at l.item.values 0)
  pub owner : k.item.owner ≡ l.item.owner
  pub created : k.item.created ≡ l.item.created
  pub modified : k.item.modified ≡ l.item.modified
  pub entries : (slot : ℕ) → Alike (k.entries slot) (l.entries slot)

-- ---- free slots

-- a change of this object that isn't done has this slot
abbrev pub is_other : OrgPlan → Option Job → (object slot : ℕ) → Bool
is_other p job n s = in_case job false (λ j. not (job_is_done j.phase) && ((j.object == n) && (p.other == s)))

-- no field of the object has this slot, and no change that isn't done
abbrev pub is_free : OrgPlan → Option Job → (object : ℕ) → model.Object → (slot : ℕ) → Bool
is_free p job n o s = is_none (slot_field p n o.fields s) && not (is_other p job n s)

-- the same by the object's layout
abbrev pub has_free : Layout → (slot : ℕ) → Bool
has_free l s =
    not (list_any (λ f. f.slot == s) l.fields) && not (in_case l.job false (λ j. not (job_is_done j.phase) && (j.twin == s)))

-- the plan with this slot for a field
abbrev pub with_slot : (object field slot : ℕ) → OrgPlan → OrgPlan
with_slot n f s p = record p { slot = λ m g. if (m == n) && (g == f) then s else p.slot m g }

-- a type for which these flags may be
abbrev pub suits_flags : model.Field → Bool
suits_flags f = implies f.unique (suits_unique f.kind) && implies f.indexed (suits_indexed f.kind)
