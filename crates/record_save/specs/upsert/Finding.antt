-- What an upsert looks for: its unique field, the value, and the record that has it.
use Rattle.std.specs.Prelude.{◌≡◌, ◌≢◌, ℕ, suc, List, Option, None, Some, Result, Ok, Err, slice_get}
use Rattle.store_edit.specs.Edits.{FailsBy}
use Rattle.record_input.specs.Given.{NamesUnique}
use Rattle.store_rows.specs.declared.fail.StoreFail.{StoreFail}
use Rattle.store_rows.specs.declared.fail.StoreFail.TheVariants.{Damaged, Memory}
use Rattle.model.specs.Cases.{in_case}
use Rattle.model.specs.Given.{record_by_value}
use Rattle.model.specs.Tenant.{Field, Object, Tenant}
use Rattle.model.specs.Upserts.{declared_name, key_value, on_value, unique_named}
use Rattle.model.specs.Verdict.{Verdict, refuse}
use Rattle.model.specs.declared.refusal.Refusal.TheVariants.{InvalidField}
use Rattle.record_target.specs.Kept.{IsKept}
use Rattle.record_target.specs.declared.kept.KeptRecord.{KeptRecord}
use Rattle.schema_rules.specs.Objects.{field_of_place, object_of_layout}
use Rattle.store_abstraction.specs.Plan.{OrgPlan}
use Rattle.store_abstraction.specs.declared.fail.EditFail.{EditFail}
use Rattle.store_abstraction.specs.declared.fail.EditFail.TheVariants.{Refused, Store}
use Rattle.store_abstraction.specs.declared.layout.FieldPlace.{FieldPlace}
use Rattle.store_abstraction.specs.declared.layout.Layout.{Layout}
use Rattle.record_save.specs.declared.upsert.finding.FoundKey.{FoundKey}
use Rattle.base_value.specs.declared.value.Value.{Value}

-- ---- the field

-- the unique field with this name, or INVALID_FIELD with its declared name
abbrev pub NamesField : Layout → (name : List ℕ) → Result ℕ EditFail → Type 0
NamesField l name (Ok number) = NamesUnique l name (Some number)
NamesField l name (Err (Refused r)) = NamesUnique l name None × (r ≡ InvalidField (declared_name (object_of_layout l) name))
NamesField l name (Err (Store e)) = e ≡ Memory

-- ---- the value

-- the value that a text gives the field, or its refusal
abbrev pub ReadsValue : Field → (text : Option (List ℕ)) → Result Value EditFail → Type 0
ReadsValue f text (Ok v) = key_value f text ≡ Ok v
ReadsValue f text (Err (Refused r)) = key_value f text ≡ Err r
ReadsValue f text (Err (Store e)) = e ≡ Memory

-- what an upsert comes to on an object, by its unique field and the value
abbrev pub on_key : Tenant → Object → (name : List ℕ) → (text : Option (List ℕ)) → (ℕ × Field → Value → Verdict) → Verdict
on_key t o name text verdict =
    in_case (unique_named o name) (refuse t (InvalidField (declared_name o name))) (λ f. on_value t (key_value f.1 text) (verdict f))

-- the field of the key, as the definitions have it
abbrev pub numbered_field : FoundKey → FieldPlace → ℕ × Field
numbered_field k f = (suc k.number, field_of_place f)

-- it is the field with this name, and the value that the text gives it
pub record IsKey (l : Layout) (name : List ℕ) (text : Option (List ℕ)) (k : FoundKey) : Type 0 where
  pub field : FieldPlace
  pub at : slice_get l.fields k.number ≡ Some field
  pub named : unique_named (object_of_layout l) name ≡ Some (numbered_field k field)
  pub value : key_value (field_of_place field) text ≡ Ok k.value

-- the same, or why an upsert fails, whatever it would come to
abbrev pub FindsKey : Layout → (name : List ℕ) → (text : Option (List ℕ)) → Result FoundKey EditFail → Type 0
FindsKey l name text (Ok k) = IsKey l name text k
FindsKey l name text (Err e) =
    (t : Tenant) (verdict : ℕ × Field → Value → Verdict) → FailsBy (on_key t (object_of_layout l) name text verdict) e

-- ---- the record

-- the record with an id that some record has: that there is none is damage
abbrev pub kept_there : Result (Option KeptRecord) StoreFail → Result (Option KeptRecord) StoreFail
kept_there (Ok None) = Err Damaged
kept_there (Ok (Some k)) = Ok (Some k)
kept_there (Err fail) = Err fail

-- the object's record that has the value in the field with this number, or that none has, or why the work on the tables stopped
abbrev pub FindsKept : OrgPlan → Tenant → Layout → (number : ℕ) → Value → Result (Option KeptRecord) StoreFail → Type 0
FindsKept q t l number v (Ok None) = record_by_value t l.object (suc number) v ≡ None
FindsKept q t l number v (Ok (Some k)) = (record_by_value t l.object (suc number) v ≡ Some k.item) × IsKept q t l k.item.id k
FindsKept q t l number v (Err e) = e ≢ Damaged
