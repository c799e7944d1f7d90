-- Objects with what is set of them, validation rules, sharing rules and manual shares in JSON.
-- The members are those of the bodies by which they are made; the forms are this product's own.
use Rattle.std.specs.Prelude.{ℕ, List, [], ◌∷◌, map, length, codes}
use Rattle.base_json.specs.declared.tree.Json.{Json}
use Rattle.base_json.specs.declared.tree.Member.{Member}
use Rattle.base_json_tree.specs.Words.{id_text, member, number, object, or_null, text, truth}
use Rattle.base_value.specs.declared.job.RuleState.{RuleState}
use Rattle.base_value.specs.declared.job.RuleState.TheVariants as state
use Rattle.base_value.specs.declared.sharing.Access.{Access}
use Rattle.base_value.specs.declared.sharing.Access.TheVariants as access
use Rattle.base_value.specs.declared.sharing.Level.{Level}
use Rattle.base_value.specs.declared.sharing.Level.TheVariants as level
use Rattle.model.specs.declared.record.Record.{Record}
use Rattle.model.specs.Cases.{in_case}
use Rattle.model.specs.Objects.{Numbered, numbered, object_numbered, records_of}
use Rattle.model.specs.Shares.{shares_of}
use Rattle.model.specs.Tenant.{Object, Share, SharingRule, Source, Tenant, ValidationRule, meets, owned}
use Rattle.model_reads.specs.PeopleJson.{listed, principal_json}

-- ---- objects

abbrev pub access_name : Access → List ℕ
access_name access.Private = codes "Private"
access_name access.Read = codes "Read"
access_name access.ReadWrite = codes "ReadWrite"
access_name access.ControlledByParent = codes "ControlledByParent"

-- an object, and how many records, fields and validation rules it has
abbrev pub object_settings_json : Tenant → Numbered → Json
object_settings_json t o =
    object
    (member (codes "name") (text o.object.name)
    ∷ member (codes "access") (text (access_name o.object.access))
    ∷ member (codes "hierarchy") (truth o.object.hierarchy)
    ∷ member (codes "records") (number (length (records_of t o.number)))
    ∷ member (codes "fields") (number (length o.object.fields))
    ∷ member (codes "validationRules") (number (length o.object.validation_rules))
    ∷ [])

abbrev pub settings_json : Tenant → Json
settings_json t = listed (codes "objects") (map (object_settings_json t) (numbered t.objects))

-- ---- validation rules

abbrev pub validation_rule_json : (object_name : List ℕ) → ValidationRule → Json
validation_rule_json object_name r =
    object
    (member (codes "object") (text object_name)
    ∷ member (codes "name") (text r.name)
    ∷ member (codes "formula") (text r.formula)
    ∷ member (codes "message") (text r.message)
    ∷ [])

-- those of an object
abbrev pub validation_rules_json : Object → Json
validation_rules_json o = listed (codes "validationRules") (map (validation_rule_json o.name) o.validation_rules)

-- ---- sharing rules

abbrev pub level_name : Level → List ℕ
level_name level.Nothing = codes "Nothing"
level_name level.Read = codes "Read"
level_name level.Edit = codes "Edit"
level_name level.Full = codes "Full"

abbrev pub state_name : RuleState → List ℕ
state_name state.Whole = codes "Whole"
state_name state.Building = codes "Building"
state_name state.Leaving = codes "Leaving"

-- the name of the object with this number
abbrev pub object_name_at : Tenant → ℕ → List ℕ
object_name_at t n = in_case (object_numbered t n) [] (λ o. o.name)

-- whose records they are, or the formula that they meet
abbrev pub source_member : Source → Member
source_member (owned p) = member (codes "from") (principal_json p)
source_member (meets formula) = member (codes "formula") (text formula)

-- a rule, and how far its grants are written
abbrev pub sharing_rule_json : Tenant → SharingRule → Json
sharing_rule_json t r =
    object
    (member (codes "object") (text (object_name_at t r.object))
    ∷ member (codes "name") (text r.name)
    ∷ source_member r.source
    ∷ member (codes "to") (principal_json r.to)
    ∷ member (codes "level") (text (level_name r.level))
    ∷ member (codes "state") (text (state_name r.state))
    ∷ member (codes "cursor") (or_null id_text r.cursor)
    ∷ [])

-- ---- manual shares

abbrev pub share_json : Share → Json
share_json s = object (member (codes "to") (principal_json s.to) ∷ member (codes "level") (text (level_name s.level)) ∷ [])

-- those of a record
abbrev pub shares_json : Tenant → Record → Json
shares_json t r = listed (codes "shares") (map share_json (shares_of r.id t.shares))
