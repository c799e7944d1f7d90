use Rattle.std.proofs.Common.{◌-◌, false, length, reverse, chars, slice_get, unwrap_or, ap, ◌∙◌}
use Rattle.caseless.specs.Caseless.{default_case_fold}
use Rattle.soql.specs.inner.Rests.{row_of}
use Rattle.soql.proofs.Rows.{slice_get-row_of}
use Rattle.soql.proofs.patterns.like.Goals as goal

pub returns : goal.returns
returns c =
    let parts = c.args.pattern.now.parts in
    let backwards = c.as_slice-2.ensures.value ∙ c.reverse.ensures.items ∙ ap reverse c.in_ok-backwards.ensures in
    let row = c.deref.ensures.value ∙ c.in_ok-row.ensures ∙ ap (λ ps. row_of ps c.as_slice-2.result.now) c.as_slice.ensures ∙ ap (row_of parts) backwards in
    c.unwrap_or.ensures
    ∙ ap (λ o. unwrap_or o false) (c.copied.ensures ∙ c.last.ensures.value ∙ ap (λ r. slice_get r (length r - 1)) row ∙ slice_get-row_of parts (default_case_fold (chars c.args.text.now)))
