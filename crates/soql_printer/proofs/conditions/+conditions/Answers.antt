use Rattle.std.proofs.Common.{◌+◌, ◌∷◌, ◌++◌, ◌∙◌, ap, refl, sym, drop, append-nil}
use Rattle.std.proofs.lemmas.List.{at_drop_all, at_drop_more}
use Rattle.std.proofs.lemmas.Result.{on_ok_weaker as on_ok}
use Rattle.soql_printer.specs.Printing.{printed_condition}
use Rattle.soql_printer.proofs.Grown.{left_text, none_left, not_text, unit_more}
use Rattle.soql_printer.proofs.Units.{printed_and, printed_or}
use Rattle.soql_printer.proofs.conditions.+conditions.Goals as goal

pub condition-returns-in_ok-condition-in-Not : goal.condition-returns-in_ok-condition-in-Not
condition-returns-in_ok-condition-in-Not t c =
    on_ok c.only_if-in-Not.result (λ e. not_text c.args.out.now c.word.new.self c.only_if.new.out c.condition.new.out c.only_if-in-Not.new.out c.is_simple-bare.result
    c.in-Not.part c.get-part.result.now c.args.cond.now c.get-part.ensures c.in-Not.is c.is_simple-bare.ensures c.in_ok-word-in-Not.ensures c.in_ok-only_if-in-Not.ensures
    c.in_ok-condition-in-Not.ensures e) c.only_if-in-Not.ensures

pub condition-returns-in-And : goal.condition-returns-in-And
condition-returns-in-And t c =
    on_ok c.units.result (λ e. e ∙ ap (λ z. c.args.out.now ++ z) ((rw c.as_slice-in-And.ensures (sym (printed_and c.in-And.parts))) ∙ ap printed_condition (sym c.in-And.is))) c.units.ensures

pub condition-returns-in-Or : goal.condition-returns-in-Or
condition-returns-in-Or t c =
    on_ok c.units-in-Or.result (λ e. e ∙ ap (λ z. c.args.out.now ++ z) ((rw c.as_slice-in-Or.ensures (sym (printed_or c.in-Or.parts))) ∙ ap printed_condition (sym c.in-Or.is))) c.units-in-Or.ensures

pub units-parts-preserved : goal.units-parts-preserved
units-parts-preserved t c =
    let parts = c.args.parts.now in
    let between = c.args.between.now in
    let part = c.part-item.result in
    let more = drop (c.parts.part-index + 1) parts in
    unit_more c.parts.out c.only_if.new.out c.only_if-in-parts.new.out c.condition.new.out c.only_if-in-parts-2.new.out between c.parts.begun c.is_simple-bare.result part part more refl
    c.is_simple-bare.ensures c.in_ok-only_if.ensures c.in_ok-only_if-2.ensures c.in_ok-condition.ensures c.in_ok-only_if-3.ensures
    ∙ ap (λ p. c.parts.out ++ left_text c.parts.begun between (p ∷ more)) c.part-item.is
    ∙ sym (at_drop_more (λ rest. c.parts.out ++ left_text c.parts.begun between rest) parts c.parts.part-index part c.parts-test.true)
    ∙ c.parts.invariant

pub units-returns : goal.units-returns
units-returns t c =
    sym (append-nil c.parts.out) ∙ ap (λ z. c.parts.out ++ z) (sym (none_left c.parts.begun c.args.between.now))
    ∙ sym (at_drop_all (λ rest. c.parts.out ++ left_text c.parts.begun c.args.between.now rest) c.args.parts.now c.parts.part-index c.parts-test.false)
    ∙ c.parts.invariant
