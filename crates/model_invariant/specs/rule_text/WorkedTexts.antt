-- Objects and formulas for rows worked by hand. A reader of the rules may pass them over.
use Rattle.std.specs.Prelude.{ℕ, true, false, List, [], ◌∷◌, ◌++◌, codes, None, Result}
use Rattle.base_value.specs.declared.sharing.Access.TheVariants as access
use Rattle.base_value.specs.declared.value.FieldType.{FieldType}
use Rattle.base_value.specs.declared.value.FieldType.TheVariants as type
use Rattle.formula.specs.Worked.{whole}
use Rattle.formula.specs.declared.formula.Formula.{Formula}
use Rattle.formula.specs.declared.formula.Formula.TheVariants as formula
use Rattle.formula.specs.declared.formula.Relation.TheVariants as relation
use Rattle.formula.specs.declared.formula.Term.TheVariants as term
use Rattle.model.specs.Tenant.{Field}
use Rattle.model.specs.FormulaTexts.{reads_text}

-- a custom field without flags
abbrev pub custom_field : List ℕ → FieldType → Field
custom_field name kind = record { name = name; kind = kind; required = false; unique = false; indexed = false; child = None }

-- a number `Amount__c`
abbrev pub amount : Field
amount = custom_field (codes "Amount__c") (type.Number 18 2)

-- how a text is read in a validation rule of an object with these custom fields
abbrev pub read_over : List Field → List ℕ → Result Formula ℕ
read_over fields text = reads_text (record { name = codes "Deal__c"; access = access.Private; hierarchy = true; fields = fields; validation_rules = [] }) false text

-- the field at this position is over 5
abbrev pub over_five : ℕ → Formula
over_five position = formula.Compare (term.Field position) relation.Greater (term.Num (whole 5))

-- a text between quotes
abbrev pub quoted : List ℕ → List ℕ
quoted cs = 34 ∷ cs ++ 34 ∷ []
