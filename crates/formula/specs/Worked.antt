-- Words of the worked rows: formulas on a record of one or two fields.
use Rattle.std.specs.Prelude.{ℕ, ◌*◌, Bool, List, [], ◌∷◌, ◌++◌, codes, Some, None, ℤ, pos}
use Rattle.base_value.specs.Printing.{scale}
use Rattle.base_value.specs.declared.value.Value.{Value}
use Rattle.formula.specs.Meaning.{holds}
use Rattle.formula.specs.declared.formula.Formula.{Formula}
use Rattle.formula.specs.declared.formula.Formula.TheVariants as formula
use Rattle.formula.specs.declared.formula.Relation.{Relation}
use Rattle.formula.specs.declared.formula.Relation.TheVariants.{Less}
use Rattle.formula.specs.declared.formula.Term.{Term}
use Rattle.formula.specs.declared.formula.Term.TheVariants as term

-- the record's one field
abbrev pub field : Term
field = term.Field 0

-- a formula on a new record with this value
abbrev pub on_new : Value → Formula → Bool
on_new now f = holds f (now ∷ []) None

-- a formula on a record that had the first value before, and has the second
abbrev pub on_old : Value → Value → Formula → Bool
on_old before now f = holds f (now ∷ []) (Some (before ∷ []))

-- one field compared with another, on a new record with these two values
abbrev pub fields : Value → Relation → Value → Bool
fields a relation b = holds (formula.Compare (term.Field 0) relation (term.Field 1)) (a ∷ b ∷ []) None

-- AND(ISCHANGED(F), F < PRIORVALUE(F))
abbrev pub is_less : Formula
is_less = formula.And (formula.IsChanged 0 ∷ formula.Compare field Less (term.Prior 0) ∷ [])

-- AND(NOT(ISNEW()), OR(ISBLANK(F), AND(ISCHANGED(F), F < PRIORVALUE(F))))
abbrev pub fell : Formula
fell = formula.And (formula.Not formula.IsNew ∷ formula.Or (formula.IsBlank 0 ∷ is_less ∷ []) ∷ [])

-- a whole number, as a count of 10^-8
abbrev pub whole : ℕ → ℤ
whole n = pos (n * scale)

-- `é`
abbrev pub accented_e : List ℕ
accented_e = 0xE9 ∷ []

-- `Straße`
abbrev pub street : List ℕ
street = codes "Stra" ++ 0xDF ∷ codes "e"
