-- What each read is told. None of them changes anything.
-- Source of the reads of records and objects: Salesforce, REST API. Those of administrators, and the orders of refusals, are this
-- product's own.
use Rattle.std.specs.Prelude.{ℕ, Bool, true, false, if◌then◌else◌, List, [], ◌∷◌, map, bytes_eq, codes, Ok, Err}
use Rattle.base_value.specs.Id.{id_in}
use Rattle.base_value.specs.declared.sharing.Level.TheVariants.{Full}
use Rattle.base_value.specs.declared.value.Value.{Value}
use Rattle.model.specs.declared.refusal.Refusal.TheVariants.{InvalidField, MalformedId}
use Rattle.model.specs.Cases.{in_case}
use Rattle.model.specs.Given.{ReadOr, record_by_value}
use Rattle.model.specs.Objects.{record_at}
use Rattle.model.specs.Paths.{Asked}
use Rattle.model.specs.Rights.{denied, record_of_object}
use Rattle.model.specs.Shares.{detail_refused}
use Rattle.model.specs.Shown.{readable_shown}
use Rattle.model.specs.Tenant.{Tenant}
use Rattle.model.specs.Upserts.{declared_name, key_value, unique_named}
use Rattle.model.specs.Verdict.{Verdict}
use Rattle.model_reads.specs.declared.read.Read.{Read}
use Rattle.model_reads.specs.declared.read.Read.TheVariants as read
use Rattle.model_reads.specs.CallerJson.{caller_json, limits_json, resources_json, versions_json}
use Rattle.model_reads.specs.DescribeJson.{description_json, object_json, objects_json}
use Rattle.model_reads.specs.Parts.{value_part}
use Rattle.model_reads.specs.PeopleJson.{group_json, listed, people_json, role_json, user_json}
use Rattle.model_reads.specs.RecordJson.{record_asked}
use Rattle.model_reads.specs.SettingsJson.{settings_json, sharing_rule_json, shares_json, validation_rules_json}
use Rattle.model_reads.specs.Told.{Telling, of_object, of_readable, telling_verdict, unless_refused}

-- ---- records

-- INVALID_TYPE, MALFORMED_ID, NOT_FOUND, and then the fields
abbrev pub record_told : Asked → (object key pairs : List ℕ) → Telling
record_told a object key pairs =
    of_object a.tenant object (λ o.
    in_case (id_in key) (Err (MalformedId key)) (λ id.
    of_readable a (record_of_object a.tenant o.number id) (record_asked a o.object pairs)))

-- with the value that was read, or its refusal
abbrev pub with_value : ReadOr → (Value → Telling) → Telling
with_value (Ok v) tell = tell v
with_value (Err refusal) tell = Err refusal

-- INVALID_TYPE, INVALID_FIELD where the field isn't unique, why the value doesn't suit, NOT_FOUND, and then the fields
abbrev pub record_by_told : Asked → (object field part pairs : List ℕ) → Telling
record_by_told a object field part pairs =
    of_object a.tenant object (λ o.
    in_case (unique_named o.object field) (Err (InvalidField (declared_name o.object field))) (λ f.
    with_value (key_value f.1 (value_part part)) (λ v.
    of_readable a (record_by_value a.tenant o.number f.0 v) (record_asked a o.object pairs))))

-- MALFORMED_ID, NOT_FOUND, INVALID_TYPE of a detail, and INSUFFICIENT_ACCESS_OR_READONLY
abbrev pub shares_told : Asked → (text : List ℕ) → Telling
shares_told a text =
    in_case (id_in text) (Err (MalformedId text)) (λ id.
    of_readable a (record_at a.tenant id) (λ r.
    unless_refused (detail_refused a.tenant r ∷ denied a Full r ∷ []) (Ok (shares_json a.tenant r))))

-- ---- objects

abbrev pub description_told : Tenant → (object : List ℕ) → Telling
description_told t object = of_object t object (λ o. Ok (description_json t o))

-- ---- any read

-- the key that no id can be
abbrev pub is_describe : (key : List ℕ) → Bool
is_describe key = bytes_eq key (codes "describe")

-- what is told to who asks, in the organisation with this number
abbrev pub told_of : (org : ℕ) → Asked → Read → Telling
told_of org a read.Caller = Ok (caller_json org a.user)
told_of org a read.People = Ok (people_json a.tenant)
told_of org a read.Versions = Ok versions_json
told_of org a read.Resources = Ok resources_json
told_of org a read.Limits = Ok (limits_json a.tenant)
told_of org a read.Objects = Ok (objects_json a.tenant)
told_of org a (read.Object object) = of_object a.tenant object (λ o. Ok (object_json o))
told_of org a (read.Record object key pairs) =
    if is_describe key then description_told a.tenant object else record_told a object key pairs
told_of org a (read.RecordBy object field part pairs) = record_by_told a object field part pairs
told_of org a (read.Shares text) = shares_told a text
told_of org a read.Users = Ok (listed (codes "users") (map user_json a.tenant.users))
told_of org a read.Roles = Ok (listed (codes "roles") (map role_json a.tenant.roles))
told_of org a read.Groups = Ok (listed (codes "groups") (map group_json a.tenant.groups))
told_of org a read.SharingRules = Ok (listed (codes "sharingRules") (map (sharing_rule_json a.tenant) a.tenant.sharing_rules))
told_of org a read.ObjectSettings = Ok (settings_json a.tenant)
told_of org a (read.ValidationRules object) = of_object a.tenant object (λ o. Ok (validation_rules_json o.object))

-- the same as a verdict
abbrev pub read_verdict : (org : ℕ) → Asked → Read → Verdict
read_verdict org a r = telling_verdict a.tenant (told_of org a r)

-- administrators alone may ask for what is set of an organisation
abbrev pub for_administrators : Read → Bool
for_administrators read.Users = true
for_administrators read.Roles = true
for_administrators read.Groups = true
for_administrators read.SharingRules = true
for_administrators read.ObjectSettings = true
for_administrators (read.ValidationRules object) = true
for_administrators _ = false

-- how many data rows are shown to a read at most: none, but for a record and what decides the user's level on it
abbrev pub read_shown : Read → ℕ
read_shown (read.Record object key pairs) = readable_shown
read_shown (read.RecordBy object field part pairs) = readable_shown
read_shown (read.Shares text) = readable_shown
read_shown _ = 0
