use Rattle.std.proofs.Common.{◌≡◌, IsErrOf, sym, ap, ◌∙◌, subst, length, ◌<◌, arith}
use Rattle.std.specs.Prelude.{get_or}
use Rattle.std.proofs.lemmas.Result.{err_from_is_err_and}
use Rattle.store_kv.specs.declared.keeper.KeptRow.{KeptRow}
use Rattle.store_rows.specs.Forms.{FitsForm, kept_as}
use Rattle.store_codec.specs.declared.fail.CodecFail.TheVariants.{Damaged}
use Rattle.store_rows.proofs.Elements.{element, no_row}
use Rattle.store_rows.proofs.scans.read_rows.Goals as goal

pub returns-in_err-read-clause-damaged : goal.returns-in_err-read-clause-damaged
returns-in_err-read-clause-damaged g c = λ d rows fits same.
    let row = c.row-item.result in
    let lt : c.loop-row.row-index < length c.args.kept.now = omega (arith, c.loop-row-test.true) in
    let it = element (kept_as g.R.RowForm.form) (FitsForm g.R.RowForm.form) rows c.loop-row.row-index row fits (subst (λ z. c.loop-row.row-index < length z) (sym same) lt) in
    let is : kept_as g.R.RowForm.form it.0 ≡ row = it.2 ∙ ap (λ z. get_or z c.loop-row.row-index row) same ∙ sym c.row-item.is in
    let gives = c.in_err-read.ensures.only it.0 it.1 (c.as_slice.ensures ∙ ap (λ (r : KeptRow). r.key) (sym is)) (c.as_slice-in-loop-row.ensures ∙ ap (λ (r : KeptRow). r.row) (sym is)) in
    let e = err_from_is_err_and c.from_residual.result c.from_residual.ensures.1 in
    let said = subst (λ z. IsErrOf z Damaged) e.1 d in
    no_row c.in_err-read.field-0.0 it.0 gives (cc (said, e.2))
