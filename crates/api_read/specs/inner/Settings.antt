-- What is told of objects and of validation rules, by their rows.
use Rattle.std.specs.Prelude.{List, [], ◌∷◌, map, codes, ℕ}
use Rattle.base_json.specs.declared.tree.Json.{Json}
use Rattle.base_json_tree.specs.Words.{member, number, object, text, truth}
use Rattle.store_rows.specs.declared.object.ObjectRow.{ObjectRow}
use Rattle.store_rows.specs.declared.validation.ValidationRow.{ValidationRow}
use Rattle.model_reads.specs.PeopleJson.{listed}
use Rattle.model_reads.specs.SettingsJson.{access_name}

-- an object, by its row
abbrev pub settings_by_row : ObjectRow → Json
settings_by_row r =
    object
    (member (codes "name") (text r.name)
    ∷ member (codes "access") (text (access_name r.access.access))
    ∷ member (codes "hierarchy") (truth r.access.hierarchy)
    ∷ member (codes "records") (number r.records)
    ∷ member (codes "fields") (number r.fields)
    ∷ member (codes "validationRules") (number r.validation_rules)
    ∷ [])

abbrev pub settings_by_rows : List ObjectRow → Json
settings_by_rows rows = listed (codes "objects") (map settings_by_row rows)

-- a rule of an object, by these texts, and by its row
abbrev pub rule_texts : (object_name name formula message : List ℕ) → Json
rule_texts object_name name formula message =
    object
    (member (codes "object") (text object_name)
    ∷ member (codes "name") (text name)
    ∷ member (codes "formula") (text formula)
    ∷ member (codes "message") (text message)
    ∷ [])

abbrev pub rule_by_row : (object_name : List ℕ) → ValidationRow → Json
rule_by_row object_name r = rule_texts object_name r.name r.formula r.message

abbrev pub rules_by_rows : (object_name : List ℕ) → List ValidationRow → Json
rules_by_rows object_name rows = listed (codes "validationRules") (map (rule_by_row object_name) rows)
