-- How rows of validation rules are judged. No public contract reaches these words.
use Rattle.std.specs.Prelude.{◌≡◌, ◌<◌, false, List, length, Option, Result, Ok, Err}
use Rattle.store_rows.specs.declared.fail.StoreFail.{StoreFail}
use Rattle.store_rows.specs.declared.fail.StoreFail.TheVariants.{Damaged, Keeper, Memory}
use Rattle.store_rows.specs.declared.validation.ValidationRow.{ValidationRow}
use Rattle.model.specs.declared.refusal.Refusal.TheVariants.{ValidationFailed}
use Rattle.model.specs.FormulaTexts.{reads_text}
use Rattle.model.specs.Levels.{read_holds}
use Rattle.model.specs.Rules.{Rule, refuse_if}
use Rattle.model.specs.Tenant.{Object}
use Rattle.store_abstraction.specs.declared.layout.Layout.{Layout}
use Rattle.base_value.specs.declared.value.Value.{Value}

-- the refusal of the rule with this row, where its formula holds on these values, which had the old ones before
abbrev pub row_fails : Object → (new : List Value) → (old : Option (List Value)) → ValidationRow → Rule
row_fails o new old row =
    refuse_if (read_holds (reads_text o false row.formula) new old) (ValidationFailed row.name row.message)

-- this is what was judged; it is damaged only where the layout has more fields than an object may have
abbrev pub JudgesBy : Layout → Rule → Result Rule StoreFail → Type 0
JudgesBy l rule (Ok judged) = judged ≡ rule
JudgesBy l rule (Err Damaged) = 40 < length l.fields
JudgesBy l rule (Err Keeper) = ⊥
JudgesBy l rule (Err Memory) = Unit {0}
