use Rattle.std.proofs.Common.{◌≡◌, ◌∙◌, ℕ, ◌+◌, ◌-◌, suc, sym, arith}
use Rattle.schema_edit.proofs.Layouts.{level_none, level_some}
use Rattle.schema_edit.proofs.relations.+masters_above.Goals as goal

pub returns-in-None-clause-value : goal.returns-in-None-clause-value
returns-in-None-clause-value m c = λ t h. level_none t c.args.layouts.now h c.args.most c.args.number (sym c.in-None.ensures)

pub returns-in-Some-clause-value : goal.returns-in-Some-clause-value
returns-in-Some-clause-value m c =
    λ t h.
    let r : ℕ = c.masters_above.result in
    let more : 1 + r ≡ suc r = omega arith in
    let less : c.args.most ≡ suc (c.args.most - 1) = omega (arith, c.if-most-eq0.false) in
    more ∙ level_some t c.args.layouts.now h c.args.most (c.args.most - 1) c.args.number c.in-Some.target r less (sym c.in-Some.ensures) (c.masters_above.ensures.value t h)
