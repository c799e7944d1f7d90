use Rattle.std.proofs.Common.{sym, subst, rules, w64, Bor}
use Rattle.std.specs.Prelude.{FitsSigned}
use Rattle.std.specs.Option.{option_map}
use Rattle.std.proofs.lemmas.Result.{IfOk-weaker}
use Rattle.store_rows.specs.declared.data.DataRow.{DataRow}
use Rattle.store_rows.specs.Forms.{FitsForm}
use Rattle.store_rows.specs.Rows.{data_form}
use Rattle.record_read.proofs.WrittenFits.{row_from_fits}
use Rattle.record_read.proofs.encoding.row_of.Goals as goal

pub returns-clause-fits : goal.returns-clause-fits
returns-clause-fits c = λ types valids kept.
    let known = c.parts_fit.ensures in
    let created : FitsSigned w64 c.args.item.now.created = search rules in
    let modified : FitsSigned w64 c.args.item.now.modified = search rules in
    let fits =
    row_from_fits (record { short = c.value_laws.ensures.short; scalars = c.value_laws.ensures.scalars }) c.args.layout.now c.args.item.now (option_map {T = Bor DataRow} {U = DataRow} (λ row. row.now) c.args.kept) known.key known.owner created modified types valids kept
    in
    IfOk-weaker c.made_row.result _ _ (λ row is. subst (FitsForm data_form) (sym is) fits) c.made_row.ensures
