use Rattle.std.proofs.Common.{refl}
use Rattle.formula.proofs.Computing.{reading_formulas}
use Rattle.model.specs.FormulaTexts.{reads_text}
use Rattle.model_invariant.proofs.rule_text.texts.text_rows.Goals as goal

pub returns : goal.returns
unfolding reading_formulas reads_text
returns c = record {
  amount = refl;
  second = refl;
  missing = refl;
  twin = refl;
  word = refl;
  other_kind = refl;
  too_early = refl;
  too_much = refl;
  bytes = refl;
}
