use Rattle.std.proofs.Common.{◌∙◌, ◌==◌, List, ap, length, sym}
use Rattle.std.specs.Prelude.{Result, Vec}
use Rattle.store_rows.specs.declared.fail.StoreFail.{StoreFail}
use Rattle.store_rows.specs.declared.share.ShareRow.{ShareRow}
use Rattle.access_user.specs.inner.Judging.{is_some_row}
use Rattle.access_user.proofs.ManyShares.{not_empty}
use Rattle.access_user.proofs.shares.is_some_row.Goals as goal

pub returns-in-Ok : goal.returns-in-Ok
returns-in-Ok c = not_empty c.in-Ok.rows.items c.is_empty.result (c.is_empty.ensures ∙ ap (λ (xs : List ShareRow). length xs == 0) c.as_slice.ensures.value) ∙ ap (λ (r : Result (Vec ShareRow _) StoreFail). is_some_row r) (sym c.in-Ok.is)
