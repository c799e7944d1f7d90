-- What an edit gives to fields, and the values that it is read as.
-- Source: Salesforce, REST API, "Create a Record" and "Insert or Update (Upsert) a Record Using an External ID", of values in JSON
-- and of parents that are found by a unique field. What suits which type is this product's own.
use Rattle.std.specs.Prelude.{ℕ, suc, Bool, not, ◌&&◌, if◌then◌else◌, List, [], ◌∷◌, codes, slice_get, Option, None, Result, Ok, Err}
use Rattle.std.specs.List.{find}
use Rattle.std.specs.Option.{option_and_then}
use Rattle.base_json.specs.declared.tree.Json.{Json}
use Rattle.base_json.specs.declared.tree.Json.TheVariants as json
use Rattle.base_json.specs.declared.tree.Num.{Num}
use Rattle.base_json.specs.declared.tree.Num.TheVariants as num
use Rattle.base_value.specs.Id.{id_in}
use Rattle.base_value.specs.Reading.{Read, as_id, as_value, in_bounds, read_value}
use Rattle.base_value.specs.Values.{equal}
use Rattle.base_value.specs.declared.fail.ValueFail.{ValueFail}
use Rattle.base_value.specs.declared.fail.ValueFail.TheVariants as fail
use Rattle.base_value.specs.declared.value.FieldType.TheVariants as type
use Rattle.base_value.specs.declared.value.Value.{Value}
use Rattle.base_value.specs.declared.value.Value.TheVariants as value
use Rattle.formula.specs.Meaning.{value_at}
use Rattle.model.specs.declared.record.Record.{Record}
pub use Rattle.model.specs.declared.record_bodies.Assignment.{Assignment}
pub use Rattle.model.specs.declared.record_bodies.Given.{Given}
use Rattle.model.specs.declared.record_bodies.Given.TheVariants as gives
use Rattle.model.specs.declared.refusal.Refusal.{Refusal}
use Rattle.model.specs.declared.refusal.Refusal.TheVariants as refusal
use Rattle.model.specs.Cases.{in_case}
use Rattle.model.specs.Fields.{Column, Content, of_ids, of_type, is_null}
use Rattle.model.specs.Objects.{object_numbered, records_of}
use Rattle.model.specs.Relationships.{target_of}
use Rattle.model.specs.Tenant.{Field, Tenant}

-- ---- texts and JSON

-- what a text reads as in a field
abbrev pub read_text : Content → List ℕ → Read
read_text (of_type kind) text = read_value kind text
read_text of_ids [] = Ok value.Null
read_text of_ids (c ∷ cs) = as_value (λ id. value.Ref id) (as_id (id_in (c ∷ cs)))

-- a number suits Number alone
abbrev pub read_json_number : Content → Num → Read
read_json_number (of_type (type.Number digits decimals)) (num.Exact count) = as_value (λ n. value.Num n) (in_bounds digits decimals count)
read_json_number (of_type (type.Number digits decimals)) num.Beyond = Err fail.OutOfRange
read_json_number _ _ = Err fail.WrongType

-- a truth value suits Checkbox alone
abbrev pub read_json_truth : Content → Bool → Read
read_json_truth (of_type type.Checkbox) truth = Ok (value.Bool truth)
read_json_truth _ truth = Err fail.WrongType

-- a text reads as in every cell, and null as the empty text does
abbrev pub read_json : Content → Json → Read
read_json kind (json.Text text) = read_text kind text
read_json kind json.Null = read_text kind []
read_json kind (json.Number n) = read_json_number kind n
read_json kind (json.Bool truth) = read_json_truth kind truth
read_json kind _ = Err fail.WrongType

-- ---- why a value is refused

-- the most characters of a text
abbrev pub most_of : Content → ℕ
most_of (of_type (type.Text most)) = most
most_of _ = 0

-- the refusal of what was read in this kind of field, under this name
abbrev pub value_refusal : (name : List ℕ) → Content → (text : List ℕ) → ValueFail → Refusal
value_refusal name kind text fail.WrongType = refusal.WrongType name
value_refusal name kind text fail.TooLong = refusal.TooLong name (most_of kind)
value_refusal name kind text fail.OutOfRange = refusal.OutOfRange name
value_refusal name kind text fail.NotListed = refusal.NotListed name
value_refusal name kind text fail.NotAnId = refusal.MalformedId text
value_refusal name kind text fail.Memory = refusal.WrongType name

-- a value, or its refusal
abbrev pub ReadOr : Type 0
ReadOr = Result Value Refusal

-- what was read of a text
abbrev pub or_refusal : (name : List ℕ) → Content → (text : List ℕ) → Read → ReadOr
or_refusal name kind text (Ok v) = Ok v
or_refusal name kind text (Err why) = Err (value_refusal name kind text why)

-- the text in JSON, if it is one
abbrev pub json_text : Json → List ℕ
json_text (json.Text text) = text
json_text _ = []

-- ---- records by a unique field

-- the record has this value at the position; null is no record's
abbrev pub has_value : (position : ℕ) → Value → Record → Bool
has_value position v r = not (is_null v) && equal (value_at r.values position) v

-- the record of an object that has this value in a unique field
unfoldable pub record_by_value : Tenant → (object position : ℕ) → Value → Option Record
record_by_value t object position v = find (has_value position v) (records_of t object)

-- an id that no record has: it isn't null, so it isn't missing, and it is no target
abbrev pub no_record : Value
no_record = value.Ref (codes "000000000000000")

-- the reference to the record that was found, if one was
abbrev pub reference_to : Option Record → Value
reference_to found = in_case found no_record (λ r. value.Ref r.id)

-- the reference to the record that has what was read; null finds null
abbrev pub found_with : Tenant → (object field : ℕ) → ReadOr → ReadOr
found_with t object field (Ok v) = Ok (if is_null v then value.Null else reference_to (record_by_value t object (suc field) v))
found_with t object field (Err refusal) = Err refusal

-- the custom field of an object at this place
abbrev pub field_at : Tenant → (object field : ℕ) → Option Field
field_at t object field = option_and_then (λ o. slice_get o.fields field) (object_numbered t object)

-- the object to which a field refers
abbrev pub target_of_kind : Content → Option ℕ
target_of_kind of_ids = None
target_of_kind (of_type kind) = target_of kind

-- what a text finds for a reference: it is read by the unique field, and refused under the reference's name
abbrev pub read_found : Tenant → Column → (field : ℕ) → (text : List ℕ) → ReadOr
read_found t c field text =
    in_case (target_of_kind c.content) (Err (refusal.WrongType c.name)) (λ object.
    in_case (field_at t object field) (Err (refusal.WrongType c.name)) (λ f.
    found_with t object field (or_refusal c.name (of_type f.kind) text (read_value f.kind text))))

-- ---- the value that is given to a field, or its refusal
abbrev pub read_given : Tenant → Column → Given → ReadOr
read_given t c (gives.Read v) = Ok v
read_given t c (gives.Json j) = or_refusal c.name c.content (json_text j) (read_json c.content j)
read_given t c (gives.Find field text) = read_found t c field text
