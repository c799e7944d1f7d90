-- How many fields a formula may name; and words of the worked rows on texts: the fields of a deal, and its records.
use Rattle.std.specs.Prelude.{ℕ, Bool, true, false, List, [], ◌∷◌, ◌++◌, codes, Option, Some, None, option_map}
use Rattle.base_value.specs.declared.value.FieldType.TheVariants as type
use Rattle.base_value.specs.declared.value.Value.{Value}
use Rattle.base_value.specs.declared.value.Value.TheVariants as value
use Rattle.formula.specs.Meaning.{holds}
use Rattle.formula.specs.declared.formula.NamedField.{NamedField}
use Rattle.formula.specs.grammar.Spelling.{formula_in}

-- the most fields that a formula may name: a record's name, and forty of its object's own
abbrev pub most_fields : ℕ
most_fields = 41

-- the fields of a deal
abbrev pub deal : List NamedField
deal =
    record { name = codes "Name"; kind = type.Text 80 }
    ∷ record { name = codes "Stage__c"; kind = type.Picklist (codes "Open" ∷ codes "Won" ∷ []) }
    ∷ record { name = codes "Amount__c"; kind = type.Number 18 8 }
    ∷ record { name = codes "Closed__c"; kind = type.Checkbox } ∷ []

-- a deal that isn't closed
abbrev pub of_deal : (name : List ℕ) → (stage amount : Value) → List Value
of_deal name stage amount = value.Text name ∷ stage ∷ amount ∷ value.Bool false ∷ []

-- a text between quotes
abbrev pub quoted : List ℕ → List ℕ
quoted cs = 34 ∷ cs ++ 34 ∷ []

-- whether the formula that a text spells holds of a new deal
abbrev pub judged : List Value → (text : List ℕ) → Option Bool
judged now text = option_map (λ f. holds f now None) (formula_in false deal text)

-- of a deal that was there before
abbrev pub judged_before : List Value → List Value → (text : List ℕ) → Option Bool
judged_before before now text = option_map (λ f. holds f now (Some before)) (formula_in false deal text)

-- whether a deal is taken by a rule by criteria
abbrev pub by_criteria : (text : List ℕ) → List Value → Option Bool
by_criteria text now = option_map (λ f. holds f now None) (formula_in true deal text)
