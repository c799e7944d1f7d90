-- New records.
-- Source: Salesforce, REST API, "Create a Record". The order in which one is judged is this product's own.
use Rattle.std.specs.Prelude.{ℕ, ◌+◌, true, if◌then◌else◌, List, [], ◌∷◌, map, length, Option, Some, None}
use Rattle.std.specs.Ordering.{nat_cmp}
use Rattle.std.specs.Cmp.Lexicographic.{slice_cmp}
use Rattle.base_value.specs.Id.{made}
use Rattle.base_value.specs.Reading.{empty_value}
use Rattle.base_value.specs.declared.sharing.Level.TheVariants.{Edit}
use Rattle.base_value.specs.declared.value.Value.TheVariants as value
use Rattle.model.specs.declared.limit.Limit.TheVariants as limit
use Rattle.model.specs.declared.record.Record.{Record}
use Rattle.model.specs.Cases.{in_case}
use Rattle.model.specs.Edits.{bad_target, bad_value, duplicate, required_missing, validation_failed, with_given}
use Rattle.model.specs.Fields.{is_detail}
use Rattle.model.specs.Given.{Assignment}
use Rattle.model.specs.Keys.{Key, bad_fields, with_key}
use Rattle.model.specs.Objects.{Numbered, record_prefix, records_of}
use Rattle.model.specs.Ordered.{put_in}
use Rattle.model.specs.Paths.{Asked}
use Rattle.model.specs.Relationships.{master_of_object, named_record}
use Rattle.model.specs.Rights.{denied}
use Rattle.model.specs.Rules.{Rule, over_limit}
use Rattle.model.specs.Tenant.{Tenant}
use Rattle.model.specs.Verdict.{Verdict, accept, judged, made_new, on_object, upserted}

-- a new record to which nothing is given: the next id, the caller as owner unless it is a detail, null or false, made now
abbrev pub empty_record : Asked → Numbered → Record
empty_record a o =
    record {
      id = made (record_prefix o.number) a.tenant.counter;
      owner = if is_detail o.object then None else Some a.user.id;
      created = a.now;
      modified = a.now;
      values = value.Null ∷ map (λ f. empty_value f.kind) o.object.fields;
    }

-- one more record, in the order of ids
abbrev pub with_record : Record → Tenant → Tenant
with_record r t = record t { records = put_in (λ a b. slice_cmp nat_cmp a.id b.id) r t.records; counter = t.counter + 1 }

-- who makes a detail needs Edit on its master
abbrev pub master_denied : Asked → Numbered → Record → Rule
master_denied a o new =
    in_case (master_of_object a.tenant.objects o.number) None (λ f. in_case (named_record a.tenant f new) None (denied a Edit))

-- the rules of a create, for the record that it would make
abbrev pub create_rules : Asked → Numbered → Option Key → List Assignment → (new : Record) → List Rule
create_rules a o key given new =
    bad_fields a.tenant o.object key given
    ∷ bad_value a.tenant o.object (with_key key given)
    ∷ required_missing o.object new
    ∷ bad_target a o (empty_record a o) new
    ∷ master_denied a o new
    ∷ validation_failed a o.object new None
    ∷ duplicate a o new
    ∷ over_limit
    ((limit.RecordsPerObject, length (records_of a.tenant o.number) + 1)
    ∷ (limit.Records, length a.tenant.records + 1)
    ∷ (limit.Ids, a.tenant.counter + 1)
    ∷ [])
    ∷ []

-- a new record of this object, by a create or by an upsert with a key
abbrev pub create_on : Asked → Numbered → Option Key → List Assignment → Verdict
create_on a o key given =
    let new = with_given a o.object (with_key key given) (empty_record a o) in
    judged a.tenant (create_rules a o key given new)
    (accept (in_case key (made_new new.id) (λ k. upserted new.id true)) (with_record new a.tenant))

-- create
abbrev pub create : Asked → (object : List ℕ) → List Assignment → Verdict
create a object given = on_object a.tenant object (λ o. create_on a o None given)
