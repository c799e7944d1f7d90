use Rattle.std.proofs.Common.{[], ◌∷◌, Some, ap, IsTrue}
use Rattle.store_edit.proofs.Judged.{done_so}
use Rattle.store_edit.specs.Rows.{change_to}
use Rattle.store_kv.specs.Draft.{tables_of}
use Rattle.store_rows.specs.Rows.{share_form}
use Rattle.model.specs.Paths.{Asked}
use Rattle.model.specs.Shares.{share, share_of}
use Rattle.people_edit.proofs.ChangedOnes.{changed_own}
use Rattle.people_edit.proofs.Joining.{SamePlan}
use Rattle.model_invariant.specs.Fit.{is_fit_share}
use Rattle.access_shares.proofs.Changing.{share_takes}
use Rattle.access_shares.proofs.sharing.ShareEdit.judge.Goals as goal

pub returns-clause-what : goal.returns-clause-what
returns-clause-what g c told =
    let b = c.args.self.now.new.now in
    let org = c.args.org in
    let row = c.in_ok-row.row in
    let fit = c.in_ok-row.ensures.fits in
    done_so org (λ (a : Asked). share a b) SamePlan (λ (a : Asked). g.R.Rights.whose c.args.self.now.rights.now a.tenant a.user × IsTrue (is_fit_share b)) (tables_of g.K.Keeper.state c.args.draft.now)
    (change_to share_form row ∷ []) c.one_row.result c.one_row.ensures.made c.one_row.ensures.cause (changed_own share_form org row fit.form (ap Some fit.own))
    (λ q a s f.
    let accepts = c.in_ok-row.ensures.accepts told q a s f.0 f.1 in
    share_takes c.principal_laws.ensures.same org q a.tenant (share a b) (share_of b) row s.plan (c.sharing_sound.ensures.share a b f.1 s.sound) fit.form accepts.0 accepts.1)
