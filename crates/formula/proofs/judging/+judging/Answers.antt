use Rattle.std.proofs.Common.{Bool, not, ◌∙◌, ap, sym, Option, List, option_map}
use Rattle.base_value.specs.declared.value.Value.{Value}
use Rattle.formula.specs.Meaning.{holds}
use Rattle.formula.specs.declared.formula.Formula.{Formula}
use Rattle.formula.proofs.Rows.{holds_not, holds_and, holds_or}
use Rattle.formula.proofs.judging.+judging.Goals as goal

pub holds-returns-in-Not : goal.holds-returns-in-Not
holds-returns-in-Not t c =
    let old : Option (List Value) = option_map (λ r. r.now.values) c.args.old in
    let held : Formula → Bool = λ f. holds f c.args.new.now.values old in
    ap not (c.holds.ensures ∙ ap held c.get.ensures) ∙ sym (holds_not c.args.new.now.values old c.in-Not.part) ∙ ap held (sym c.in-Not.is)

pub holds-returns-in-And : goal.holds-returns-in-And
holds-returns-in-And t c =
    let old : Option (List Value) = option_map (λ r. r.now.values) c.args.old in
    let held : Formula → Bool = λ f. holds f c.args.new.now.values old in
    c.all_hold.ensures ∙ (rw c.as_slice.ensures (sym (holds_and c.args.new.now.values old c.in-And.parts))) ∙ ap held (sym c.in-And.is)

pub holds-returns-in-Or : goal.holds-returns-in-Or
holds-returns-in-Or t c =
    let old : Option (List Value) = option_map (λ r. r.now.values) c.args.old in
    let held : Formula → Bool = λ f. holds f c.args.new.now.values old in
    c.some_hold.ensures ∙ (rw c.as_slice-in-Or.ensures (sym (holds_or c.args.new.now.values old c.in-Or.parts))) ∙ ap held (sym c.in-Or.is)
