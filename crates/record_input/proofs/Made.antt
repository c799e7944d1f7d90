-- The record that is made of what was read.
use Rattle.std.proofs.Common.{◌≡◌, ℕ, List, Option, Some, None, ◌∷◌, map, Ok, if◌then◌else◌, ap, sym, ◌∙◌}
use Rattle.std.specs.Prelude.{ℤ}
use Rattle.std.specs.Option.{option_or}
use Rattle.base_value.specs.declared.value.Value.{Value}
use Rattle.model.specs.declared.record.Record.{Record}
use Rattle.model.specs.Edits.{given_owner, with_given}
use Rattle.model.specs.Paths.{Asked}
use Rattle.store_abstraction.specs.declared.layout.Layout.{Layout}
use Rattle.record_input.specs.Given.{FindsAll, GivesValues, all_given}
use Rattle.record_input.specs.declared.key.AllGiven.{AllGiven}
use Rattle.schema_rules.specs.Objects.{field_of_place, numbered_in, object_of_layout}
use Rattle.record_input.specs.inner.Fields.{new_record}
use Rattle.base_value.specs.Id.{made}
use Rattle.base_value.specs.Reading.{empty_value}
use Rattle.base_value.specs.declared.value.Value.TheVariants.{Null}
use Rattle.model.specs.Creates.{empty_record}
use Rattle.model.specs.Fields.{is_detail}
use Rattle.model.specs.Objects.{record_prefix}
use Rattle.store_abstraction.specs.declared.layout.FieldPlace.{FieldPlace}
use Rattle.record_input.specs.declared.given.GivenValues.{GivenValues}

abbrev pub made_of : (old : Record) → Option (List ℕ) → ℤ → List Value → Record
made_of old owner now values = record { id = old.id; owner = owner; created = old.created; modified = now; values = values }

pub made_given : (a : Asked) (l : Layout) (all : AllGiven) (old : Record) (x : GivenValues) (now : ℤ)
    → a.now ≡ now → FindsAll a.tenant (object_of_layout l) all → GivesValues l all old (Ok x)
    → made_of old (option_or x.owner old.owner) now x.values ≡ with_given a (object_of_layout l) (all_given all) old
made_given a l all old x now same finds gives =
    let body = all_given all in
    let given = (gives a.tenant finds).1 in
    ap (λ (o : Option (List ℕ)). made_of old (option_or o old.owner) now x.values) given.owner
    ∙ ap (λ (m : ℤ). made_of old (option_or (given_owner a.tenant (object_of_layout l) body) old.owner) m x.values) (sym same)
    ∙ ap (λ (vs : List Value). made_of old (option_or (given_owner a.tenant (object_of_layout l) body) old.owner) a.now vs) given.values

pub empty_made : (a : Asked) (l : Layout) (id user : List ℕ) (now : ℤ) (owner : Option (List ℕ)) (values : List Value) (fields : List FieldPlace)
    → a.user.id ≡ user → a.now ≡ now → id ≡ made (record_prefix l.object) a.tenant.counter
    → owner ≡ (if is_detail (object_of_layout l) then None else Some user) → fields ≡ l.fields
    → values ≡ Null ∷ map (λ f. empty_value f.kind) (map field_of_place fields)
    → new_record id owner now values ≡ empty_record a (numbered_in l)
empty_made a l id user now owner values fields by at is owned same empty =
    ap (λ (x : List ℕ). new_record x owner now values) is
    ∙ ap (λ (x : Option (List ℕ)). new_record (made (record_prefix l.object) a.tenant.counter) x now values) (owned ∙ ap (λ (u : List ℕ). if is_detail (object_of_layout l) then None else Some u) (sym by))
    ∙ ap (λ (x : ℤ). new_record (made (record_prefix l.object) a.tenant.counter) (if is_detail (object_of_layout l) then None else Some a.user.id) x values) (sym at)
    ∙ ap (λ (x : List Value). new_record (made (record_prefix l.object) a.tenant.counter) (if is_detail (object_of_layout l) then None else Some a.user.id) a.now x)
    (empty ∙ ap (λ (fs : List FieldPlace). Null ∷ map (λ f. empty_value f.kind) (map field_of_place fs)) same)
