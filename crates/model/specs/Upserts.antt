-- Records by a unique field: the one that has the value is changed, and else one is made.
-- Source: Salesforce, REST API, "Insert or Update (Upsert) a Record Using an External ID". The order in which one is judged is this
-- product's own.
use Rattle.std.specs.Prelude.{ℕ, ◌&&◌, List, [], ◌∷◌, Option, Some, None, Ok, Err}
use Rattle.std.specs.List.{enumerate_from, find}
use Rattle.base_value.specs.Reading.{read_value}
use Rattle.base_value.specs.declared.sharing.Level.TheVariants.{Edit}
use Rattle.base_value.specs.declared.value.Value.{Value}
use Rattle.model.specs.declared.refusal.Refusal.TheVariants as refusal
use Rattle.model.specs.Cases.{in_case}
use Rattle.model.specs.Creates.{create_on}
use Rattle.model.specs.Fields.{value_site, column, column_named, of_type, same_name}
use Rattle.model.specs.Given.{Assignment, ReadOr, or_refusal, record_by_value}
use Rattle.model.specs.Objects.{Numbered}
use Rattle.model.specs.Paths.{Asked}
use Rattle.model.specs.Rights.{denied}
use Rattle.model.specs.Tenant.{Field, Object, Tenant}
use Rattle.model.specs.Updates.{update_on}
use Rattle.model.specs.Verdict.{Verdict, judged, on_object, refuse}

-- the unique field with this name, and its position among a record's values
abbrev pub unique_named : Object → List ℕ → Option (ℕ × Field)
unique_named o name = find (λ f. f.1.unique && same_name f.1.name name) (enumerate_from 1 o.fields)

-- the name as declared, where a field has it
abbrev pub declared_name : Object → List ℕ → List ℕ
declared_name o name = in_case (column_named o name) name (λ c. c.name)

-- the value that a path gives the field: what isn't UTF-8, which comes as none, and the empty text are of the wrong type
abbrev pub key_value : Field → Option (List ℕ) → ReadOr
key_value f None = Err (refusal.WrongType f.name)
key_value f (Some []) = Err (refusal.WrongType f.name)
key_value f (Some (c ∷ cs)) = or_refusal f.name (of_type f.kind) (c ∷ cs) (read_value f.kind (c ∷ cs))

-- what it comes to with the value that was read, or its refusal
abbrev pub on_value : Tenant → ReadOr → (Value → Verdict) → Verdict
on_value t (Ok v) verdict = verdict v
on_value t (Err refusal) verdict = refuse t refusal

-- by this field and this value
abbrev pub upsert_by : Asked → Numbered → List Assignment → ℕ × Field → Value → Verdict
upsert_by a o given f v =
    let key = Some (record { column = column f.1.name (of_type f.1.kind) (value_site f.0); value = v }) in
    in_case (record_by_value a.tenant o.number f.0 v) (create_on a o key given) (λ r.
    judged a.tenant (denied a Edit r ∷ []) (update_on a o key given r))

-- upsert; INVALID_FIELD where the key is no unique field
abbrev pub upsert : Asked → (object key : List ℕ) → (text : Option (List ℕ)) → List Assignment → Verdict
upsert a object key text given =
    on_object a.tenant object (λ o.
    in_case (unique_named o.object key) (refuse a.tenant (refusal.InvalidField (declared_name o.object key))) (λ f.
    on_value a.tenant (key_value f.1 text) (upsert_by a o given f)))
