-- How texts of formulas are read over the fields of an object: the formula that a text spells, or the place at which it is refused.
-- Source: Salesforce, "Formula Operators and Functions", of formulas over a record's fields. That a refusal names the first token
-- that can't follow is this product's own.
use Rattle.std.specs.Prelude.{ℕ, Bool, List, ◌∷◌, map, codes, Result}
use Rattle.std.specs.Option.{ok_or}
use Rattle.base_grammar.specs.Tokens.{byte_len}
use Rattle.base_value.specs.declared.value.FieldType.TheVariants as type
use Rattle.formula.specs.declared.formula.Formula.{Formula}
use Rattle.formula.specs.declared.formula.NamedField.{NamedField}
use Rattle.formula.specs.grammar.Spelling.{formula_in, place_in}
use Rattle.model.specs.Limits.{name_limit}
use Rattle.model.specs.Tenant.{Field, Object}

-- ---- fields
abbrev pub as_named : Field → NamedField
as_named f = record { name = f.name; kind = f.kind }

-- `Name`: a text of at most 80 characters
abbrev pub name_field : NamedField
name_field = record { name = codes "Name"; kind = type.Text name_limit }

-- the fields that a formula over an object may name, in the order of a record's values: `Name`, then the custom fields
abbrev pub formula_fields : List Field → List NamedField
formula_fields fields = name_field ∷ map as_named fields

-- ---- reading
-- the formula that a text spells over an object's fields, or the place at which it is refused
unfoldable pub reads_text : Object → (criteria : Bool) → List ℕ → Result Formula ℕ
reads_text o criteria text =
    let its = formula_fields o.fields in
    ok_or (formula_in criteria its text) (place_in criteria its text (byte_len text))
