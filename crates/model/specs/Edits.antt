-- What an edit makes of a record, and the rules that edits share.
-- Source: Salesforce, REST API, "Update a Record" and "Status Codes and Error Responses"; "Validation Rules"; "External ID". The
-- order in which fields are judged is this product's own.
use Rattle.std.specs.Prelude.{ℕ, Bool, true, false, not, ◌&&◌, ◌||◌, if◌then◌else◌, List, ◌∷◌, [], map, filter, bytes_eq, Option, Some, None, is_none, Ok, Err}
use Rattle.std.specs.List.{enumerate_from, find}
use Rattle.std.specs.Option.{option_and_then, option_eq, option_map, option_or}
use Rattle.base_value.specs.Values.{same_value}
use Rattle.base_value.specs.declared.value.Value.{Value}
use Rattle.base_value.specs.declared.value.Value.TheVariants as value
use Rattle.formula.specs.Meaning.{value_at}
use Rattle.model.specs.declared.record.Record.{Record}
use Rattle.model.specs.declared.refusal.Refusal.{Refusal}
use Rattle.model.specs.declared.refusal.Refusal.TheVariants as refusal
use Rattle.model.specs.Cases.{in_case}
use Rattle.model.specs.Fields.{Column, Site, its_id, its_created, its_modified, column_named, custom_columns, is_detail, is_master, is_null, name_column, owner_column, ref_of, same_name, value_in, writable_columns}
use Rattle.model.specs.FormulaTexts.{reads_text}
use Rattle.model.specs.Given.{Assignment, ReadOr, has_value, read_given}
use Rattle.model.specs.Levels.{can_read, read_holds}
use Rattle.model.specs.Objects.{Numbered, records_of}
use Rattle.model.specs.Paths.{Asked}
use Rattle.model.specs.Relationships.{Reference, references_of}
use Rattle.model.specs.Rights.{record_of_object}
use Rattle.model.specs.Rules.{Rule, refuse_if, first_of, first_refusal}
use Rattle.model.specs.Tenant.{Field, Object, Tenant, ValidationRule}
use Rattle.model.specs.World.{user_at}

-- ---- INVALID_FIELD: a name that the object doesn't have, or a field that can't be given

abbrev pub is_writable : Site → Bool
is_writable its_id = false
is_writable its_created = false
is_writable its_modified = false
is_writable _ = true

abbrev pub bad_field : Object → Assignment → Rule
bad_field o x =
    in_case (column_named o x.field) (Some (refusal.InvalidField x.field)) (λ c.
    refuse_if (not (is_writable c.at)) (refusal.InvalidField c.name))

-- ---- the values that are given

-- what is given to a field, read
abbrev pub given_to : Tenant → List Assignment → Column → Option ReadOr
given_to t given c = option_map (λ x. read_given t c x.given) (find (λ x. same_name x.field c.name) given)

-- the refusal of what was read, if it was refused
abbrev pub refusal_in : ReadOr → Rule
refusal_in (Ok v) = None
refusal_in (Err refusal) = Some refusal

-- wrong type, too long, out of range, not listed, no id: the first field whose given value is refused
abbrev pub bad_value : Tenant → Object → List Assignment → Rule
bad_value t o given = first_of (λ c. in_case (given_to t given c) None refusal_in) (writable_columns o)

-- ---- the record that an edit makes

-- what was read, or else this
abbrev pub value_or : Value → Option ReadOr → Value
value_or v (Some (Ok new)) = new
value_or v _ = v

-- the owner that is given, if one is: null counts as not given, and a detail has none
abbrev pub given_owner : Tenant → Object → List Assignment → Option (List ℕ)
given_owner t o given = if is_detail o then None else ref_of (value_or value.Null (given_to t given owner_column))

-- the record with what is given in place of what it had, and modified now
abbrev pub with_given : Asked → Object → List Assignment → Record → Record
with_given a o given old =
    record old {
      owner = option_or (given_owner a.tenant o given) old.owner;
      modified = a.now;
      values = map (λ c. value_or (value_in c.at old) (given_to a.tenant given c)) (name_column ∷ custom_columns o);
    }

-- ---- REQUIRED_FIELD_MISSING: the first required field that would be null; a Master field is always required
abbrev pub missing : Record → ℕ × Field → Rule
missing new f =
    refuse_if ((f.1.required || is_master f.1.kind) && is_null (value_at new.values f.0)) (refusal.RequiredMissing f.1.name)

abbrev pub required_missing : Object → Record → Rule
required_missing o new = first_of (missing new) (enumerate_from 1 o.fields)

-- ---- INVALID_CROSS_REFERENCE_KEY: the owner, or the first reference, that changes to what isn't there or can't be read

abbrev pub same_owner : Record → Record → Bool
same_owner old new = option_eq bytes_eq old.owner new.owner

abbrev pub bad_owner : Tenant → (old new : Record) → Rule
bad_owner t old new =
    refuse_if (not (same_owner old new) && is_none (option_and_then (user_at t.users) new.owner)) (refusal.InvalidReference owner_column.name)

-- a record of the object has this id, and the user may read it
abbrev pub is_target : Asked → (object : ℕ) → List ℕ → Bool
is_target a object id = in_case (record_of_object a.tenant object id) false (can_read a.tenant a.user)

abbrev pub bad_reference : Asked → (old new : Record) → Reference → Rule
bad_reference a old new f =
    in_case (ref_of (value_at new.values f.position)) None (λ id.
    refuse_if (not (same_value (value_at old.values f.position) (value.Ref id)) && not (is_target a f.target id))
    (refusal.InvalidReference f.field.name))

abbrev pub bad_target : Asked → Numbered → (old new : Record) → Rule
bad_target a o old new = first_refusal (bad_owner a.tenant old new ∷ first_of (bad_reference a old new) (references_of o) ∷ [])

-- ---- FIELD_CUSTOM_VALIDATION_EXCEPTION: the first rule, by lower-case name, whose formula holds
abbrev pub fails : Asked → Object → (new : Record) → (old : Option Record) → ValidationRule → Rule
fails a o new old rule =
    refuse_if (read_holds (reads_text o false rule.formula) new.values (option_map (λ r. r.values) old))
    (refusal.ValidationFailed rule.name rule.message)

abbrev pub validation_failed : Asked → Object → (new : Record) → (old : Option Record) → Rule
validation_failed a o new old = first_of (fails a o new old) o.validation_rules

-- ---- DUPLICATE_VALUE: the first unique field whose value another record of the object has

-- its id is named only where the user may read it
abbrev pub duplicate_of : Asked → Field → Record → Refusal
duplicate_of a f other = if can_read a.tenant a.user other then refusal.DuplicateOf f.name other.id else refusal.DuplicateValue f.name

abbrev pub clash : Asked → List Record → Record → ℕ × Field → Rule
clash a others new f =
    if f.1.unique then option_map (duplicate_of a f.1) (find (has_value f.0 (value_at new.values f.0)) others) else None

abbrev pub duplicate : Asked → Numbered → Record → Rule
duplicate a o new =
    first_of (clash a (filter (λ r. not (bytes_eq r.id new.id)) (records_of a.tenant o.number)) new) (enumerate_from 1 o.object.fields)
