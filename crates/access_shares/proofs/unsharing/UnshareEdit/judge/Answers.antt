use Rattle.std.proofs.Common.{◌∙◌, [], ◌∷◌, arith}
use Rattle.std.specs.Option.{option_copied}
use Rattle.store_edit.proofs.Judged.{done_so, passed_on}
use Rattle.store_kv.specs.Draft.{tables_of}
use Rattle.model.specs.Paths.{Asked}
use Rattle.model.specs.Shares.{unshare}
use Rattle.model.specs.Verdict.{done}
use Rattle.people_edit.proofs.Joining.{SamePlan}
use Rattle.access_shares.proofs.Changing.{end_own, end_takes, no_row_at}
use Rattle.access_shares.proofs.Verdicts.{unshare_is}
use Rattle.access_shares.proofs.unsharing.UnshareEdit.judge.Goals as goal

pub returns-in_err-named-clause-what : goal.returns-in_err-named-clause-what
returns-in_err-named-clause-what g c told =
    let x = c.args.self.now in
    passed_on {answered = λ (y : Unit {0}). done} c.args.org (λ (a : Asked). unshare a x.item.now x.part.now (option_copied x.to)) SamePlan (λ (a : Asked). g.R.Rights.whose x.rights.now a.tenant a.user)
    (tables_of g.K.Keeper.state c.args.draft.now) c.in_err-named.field-0.0 c.from_residual.result c.from_residual.ensures.1
    (λ q a s f. c.in_err-named.ensures.names a)

pub returns-clause-what : goal.returns-clause-what
returns-clause-what g c told =
    let x = c.args.self.now in
    let org = c.args.org in
    let named = c.in_ok-named.named in
    let fits = c.in_ok-named.ensures.fits in
    done_so org (λ (a : Asked). unshare a x.item.now x.part.now (option_copied x.to)) SamePlan (λ (a : Asked). g.R.Rights.whose x.rights.now a.tenant a.user) (tables_of g.K.Keeper.state c.args.draft.now)
    (no_row_at org named ∷ []) c.no_row.result c.no_row.ensures.made c.no_row.ensures.cause (end_own org named (omega arith) fits)
    (λ q a s f.
    end_takes c.principal_laws.ensures.same org q a.tenant (unshare a x.item.now x.part.now (option_copied x.to)) named (omega arith) fits s.plan
    (c.sharing_sound.ensures.unshare a x.item.now x.part.now (option_copied x.to) s.sound)
    (unshare_is a named x.item.now x.part.now (option_copied x.to) c.in_ok-named.ensures.names ∙ c.in_ok-accept_end.ensures.accepts told q a s f))
