use Rattle.std.proofs.Common.{[], ◌∷◌, arith}
use Rattle.store_edit.proofs.Judged.{done_so}
use Rattle.store_edit.specs.Rows.{change_to}
use Rattle.store_kv.specs.Draft.{tables_of}
use Rattle.store_rows.specs.Rows.{job_form}
use Rattle.model.specs.Paths.{Asked}
use Rattle.model.specs.Retyping.{cancel_retype}
use Rattle.retype_request.proofs.Begun.{row_own}
use Rattle.retype_request.proofs.Cancelled.{cancelled_takes}
use Rattle.retype_request.proofs.cancelling.CancelRetypeEdit.judge.Goals as goal
use Rattle.retype_cutover.specs.Switch.{any_plan}

pub returns-clause-what : goal.returns-clause-what
returns-clause-what g c told =
    let org = c.args.org in
    let row = c.in_ok-row.row in
    done_so org (λ (a : Asked). cancel_retype a.tenant) any_plan (λ a. Unit {0}) (tables_of g.K.Keeper.state c.args.draft.now) (change_to job_form row ∷ []) c.one_row.result c.one_row.ensures.made c.one_row.ensures.cause
    (row_own org row c.in_ok-row.ensures.fits c.in_ok-row.ensures.own)
    (λ q a s f. cancelled_takes c.switch_laws.ensures.stops c.jobs_sound.ensures.cancel org q a.tenant row (omega arith) s.sound s.plan (c.in_ok-row.ensures.cancels told q a.tenant s))
