-- Sound records: what holds of every organisation's records at every moment. Each record is sound by itself, over what is known
-- and its own object. The limits are this product's own.
use Rattle.std.specs.Prelude.{◌≡◌, ℕ, suc, ◌<◌, ◌≤◌, Bool, true, false, not, ◌&&◌, List, [], ◌∷◌, length, map, filter, Option, Some, slice_get, T, IsTrue}
use Rattle.std.specs.List.{AllByRecursion, list_all}
use Rattle.base_value.specs.Dates.{is_moment}
use Rattle.base_value.specs.Id.{made}
use Rattle.base_value.specs.Values.{equal, valid}
use Rattle.base_value.specs.declared.value.FieldType.{FieldType}
use Rattle.base_value.specs.declared.value.FieldType.TheVariants as type
use Rattle.base_value.specs.declared.value.Value.{Value}
use Rattle.formula.specs.Meaning.{value_at}
use Rattle.model.specs.declared.limit.Limit.TheVariants as limit
use Rattle.model.specs.declared.record.Record.{Record}
use Rattle.model.specs.Cases.{in_case}
use Rattle.model.specs.Fields.{is_detail, is_master, is_null, ref_of}
use Rattle.model.specs.Known.{Known, item_of}
use Rattle.model.specs.Limits.{limit_number, name_limit}
use Rattle.model.specs.Membership.{Has}
use Rattle.model.specs.Objects.{is_of, object_number, record_prefix}
use Rattle.model.specs.Relationships.{Reference, references_of}
use Rattle.model.specs.SoundPeople.{ids_rise}
use Rattle.model.specs.Tenant.{Field, Object}

abbrev pub record_id : Record → List ℕ
record_id r = r.id

-- the types of a record's values: the name is a text of at most 80 characters, and those of the custom fields follow
abbrev pub kinds_of : Object → List FieldType
kinds_of o = type.Text name_limit ∷ map (λ f. f.kind) o.fields

-- one valid value for each type
abbrev pub all_valid : List FieldType → List Value → Bool
all_valid [] [] = true
all_valid (k ∷ ks) (v ∷ vs) = valid k v && all_valid ks vs
all_valid _ _ = false

-- what a reference names is a record of its target; a Master names one
abbrev pub is_sound_reference : Known → List Value → Reference → Bool
is_sound_reference k values f = in_case (ref_of (value_at values f.position)) (not (is_master f.field.kind)) (item_of k f.target)

-- an owner, who is a user, exactly where the object is no detail
abbrev pub is_sound_owner : Known → Object → Option (List ℕ) → Bool
is_sound_owner k o owner = in_case owner (is_detail o) (λ i. not (is_detail o) && k.user i)

-- a record, and its object
pub record IsSoundRecord (k : Known) (os : List Object) (r : Record) : Type 0 where
  pub object : Object
  pub there : slice_get os (object_number r.id) ≡ Some object
  -- the id was made of a number below the counter
  pub number : ℕ
  pub drawn : number < k.counter
  pub id : r.id ≡ made (record_prefix (object_number r.id)) number
  pub owner : IsTrue (is_sound_owner k object r.owner)
  pub created : IsTrue (is_moment r.created)
  pub modified : IsTrue (is_moment r.modified)
  pub values : IsTrue (all_valid (kinds_of object) r.values)
  pub references : IsTrue (list_all (is_sound_reference k r.values) (references_of (record { number = object_number r.id; object = object })))

-- the records of the object with this number
abbrev pub those_of : ℕ → List Record → List Record
those_of n rs = filter (is_of n) rs

-- no two records of one object have equal values in a unique field, nulls aside
abbrev pub UniqueHold : List Object → List Record → Type 0
UniqueHold os rs =
    (n place : ℕ) (o : Object) (f : Field) → slice_get os n ≡ Some o → slice_get o.fields place ≡ Some f → f.unique ≡ true
    → (r s : Record) → Has (those_of n rs) r → Has (those_of n rs) s
    → is_null (value_at r.values (suc place)) ≡ false → equal (value_at r.values (suc place)) (value_at s.values (suc place)) ≡ true → r.id ≡ s.id

-- all records
pub record HasSoundRecords (k : Known) (os : List Object) (rs : List Record) : Type 0 where
  pub each : AllByRecursion (IsSoundRecord k os) rs
  pub rise : T (ids_rise record_id rs)
  pub unique : UniqueHold os rs
  pub few : length rs ≤ limit_number limit.Records
  pub few_of : (n : ℕ) → length (those_of n rs) ≤ limit_number limit.RecordsPerObject
