-- What the row of a unique value says, and the rules of single fields. No public contract reaches these words.
use Rattle.std.specs.Prelude.{ℕ, ◌+◌, Bool, not, ◌&&◌, if◌then◌else◌, List, map, filter, drop, bytes_eq, Option, Some, None, slice_get, Result, Ok, Err}
use Rattle.std.specs.List.{enumerate_from, find}
use Rattle.std.specs.Option.{option_and_then, option_map}
use Rattle.formula.specs.Meaning.{value_at}
use Rattle.store_rows.specs.declared.fail.StoreFail.{StoreFail}
use Rattle.store_rows.specs.declared.unique.UniqueRow.{UniqueRow}
use Rattle.model.specs.declared.record.Record.{Record}
use Rattle.model.specs.declared.refusal.Refusal.{Refusal}
use Rattle.model.specs.declared.refusal.Refusal.TheVariants.{DuplicateOf, DuplicateValue}
use Rattle.model.specs.Cases.{in_case}
use Rattle.model.specs.Edits.{clash}
use Rattle.model.specs.Fields.{is_null}
use Rattle.model.specs.Given.{has_value}
use Rattle.model.specs.Objects.{records_of}
use Rattle.model.specs.Paths.{Asked}
use Rattle.model.specs.Rules.{Rule, first_of}
use Rattle.model.specs.Tenant.{Tenant}
use Rattle.record_constraints.specs.inner.Reading.{readable_there}
use Rattle.schema_rules.specs.Objects.{field_of_place}
use Rattle.store_abstraction.specs.declared.layout.FieldPlace.{FieldPlace}
use Rattle.store_abstraction.specs.declared.layout.Layout.{Layout}
use Rattle.base_value.specs.declared.value.Value.{Value}

-- the id in a row that was read, if one was
abbrev pub id_in_row : Result (Option UniqueRow) StoreFail → Result (Option (List ℕ)) StoreFail
id_in_row (Ok found) = Ok (option_map (λ row. row.id) found)
id_in_row (Err e) = Err e

-- the value, if no two records may have it: the field is unique, and it isn't null
abbrev pub unique_value : FieldPlace → Value → Option Value
unique_value f v = if f.unique && not (is_null v) then Some v else None

-- an id that was found, unless it is the record's own
abbrev pub unless_own : (own other : List ℕ) → Option (List ℕ)
unless_own own other = if bytes_eq other own then None else Some other

abbrev pub other_than : (own : List ℕ) → Result (Option (List ℕ)) StoreFail → Result (Option (List ℕ)) StoreFail
other_than own (Ok found) = Ok (option_and_then (unless_own own) found)
other_than own (Err e) = Err e

-- the id of another record that has the record's value of the unique field with this number
abbrev pub clashing_id : Layout → Record → (number : ℕ) → Tenant → Option (List ℕ)
clashing_id l new number t =
    in_case (slice_get l.fields number) None (λ f.
    if f.unique then
    option_map (λ r. r.id)
    (find (has_value (number + 1) (value_at new.values (number + 1))) (filter (λ r. not (bytes_eq r.id new.id)) (records_of t l.object)))
    else None)

-- what a record is refused whose value of a field the record with this id has
abbrev pub clash_with : (field other : List ℕ) → (readable : Bool) → Refusal
clash_with field other readable = if readable then DuplicateOf field other else DuplicateValue field

abbrev pub clash_told : (field other : List ℕ) → Result Bool StoreFail → Result Rule StoreFail
clash_told field other (Ok readable) = Ok (Some (clash_with field other readable))
clash_told field other (Err e) = Err e

-- the same by what who asks may read
abbrev pub told_clash : (object : ℕ) → (field other : List ℕ) → Asked → Rule
told_clash object field other a = Some (clash_with field other (readable_there a.tenant a.user object other))

-- the other records of the layout's object
abbrev pub others_of : Layout → Record → Asked → List Record
others_of l new a = filter (λ r. not (bytes_eq r.id new.id)) (records_of a.tenant l.object)

-- the rule of the field with this number, and that of the fields from it on
abbrev pub clash_at : Layout → Record → (number : ℕ) → Asked → Rule
clash_at l new number a =
    in_case (slice_get l.fields number) None (λ f. clash a (others_of l new a) new (number + 1, field_of_place f))

abbrev pub clashes_from : Layout → Record → (number : ℕ) → Asked → Rule
clashes_from l new number a =
    first_of (clash a (others_of l new a) new) (enumerate_from (number + 1) (map field_of_place (drop number l.fields)))
