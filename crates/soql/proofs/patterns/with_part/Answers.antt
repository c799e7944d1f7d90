use Rattle.std.proofs.Common.{◌∷◌, false, ◌||◌, None, sym, ap, ◌∙◌}
use Rattle.std.proofs.lemmas.Result.{IfOk-weaker}
use Rattle.std.specs.List.{scan}
use Rattle.soql.specs.inner.Rests.{row_of, with_one}
use Rattle.soql.proofs.Rows.{row_of-one, row_of-many}
use Rattle.soql.proofs.patterns.with_part.Goals as goal

pub returns-in-One : goal.returns-in-One
returns-in-One c =
    IfOk-weaker c.with_one.result _ _
    (λ next e parts is.
    e ∙ ap (with_one None c.args.backwards.now) (c.as_slice.ensures.value ∙ is) ∙ sym (row_of-one parts c.args.backwards.now)
    ∙ ap (λ part. row_of (part ∷ parts) c.args.backwards.now) (sym c.in-One.is))
    c.with_one.ensures

pub returns-in-Many : goal.returns-in-Many
returns-in-Many c =
    IfOk-weaker c.with_any.result _ _
    (λ next e parts is.
    e ∙ ap (scan ◌||◌ ◌||◌ false) (c.as_slice-in-Many.ensures.value ∙ is) ∙ sym (row_of-many parts c.args.backwards.now)
    ∙ ap (λ part. row_of (part ∷ parts) c.args.backwards.now) (sym c.in-Many.is))
    c.with_any.ensures
