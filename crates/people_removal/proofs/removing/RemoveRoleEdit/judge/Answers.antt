use Rattle.std.proofs.Common.{arith}
use Rattle.store_edit.proofs.Judged.{done_so, passed_on}
use Rattle.store_kv.specs.Draft.{tables_of}
use Rattle.model.specs.Paths.{Asked}
use Rattle.model.specs.Verdict.{done}
use Rattle.model_requests.specs.Removals.{remove_role}
use Rattle.people_removal.specs.declared.named.Named.TheVariants as named
use Rattle.people_removal.specs.inner.Removing.{changes_of}
use Rattle.people_removal.proofs.Going.{OrgLaws, SamePlan, gone_own}
use Rattle.people_removal.proofs.Verdicts.{not_removed, removed}
use Rattle.people_removal.proofs.removing.RemoveRoleEdit.judge.Goals as goal

pub returns-in_err-row-clause-what : goal.returns-in_err-row-clause-what
returns-in_err-row-clause-what g c told =
    let text = c.args.self.now.role.now in
    let spelled = c.in_ok-id_spelled.ensures.passes in
    let e = c.in_err-row.field-0.0 in
    passed_on {answered = λ (x : Unit {0}). done} c.args.org (λ (a : Asked). remove_role a.tenant text) SamePlan (λ a. Unit {0}) (tables_of g.K.Keeper.state c.args.draft.now) e c.from_residual-in_err-row.result c.from_residual-in_err-row.ensures.1
    (λ q a s f. not_removed named.Role text c.in_ok-id_spelled.field-0 spelled.0 spelled.1.0 a.tenant e (c.in_err-row.ensures.passes told q a.tenant s))

pub returns-clause-what : goal.returns-clause-what
returns-clause-what g c told =
    let org = c.args.org in
    let text = c.args.self.now.role.now in
    let id = c.in_ok-id_spelled.field-0 in
    let spelled = c.in_ok-id_spelled.ensures.passes in
    let row = c.in_ok-row.row in
    let laws : OrgLaws = record { fits = c.roster_laws.ensures.org_fits; counted = c.roster_laws.ensures.counted; plan = c.roster_laws.ensures.plan } in
    done_so org (λ (a : Asked). remove_role a.tenant text) SamePlan (λ a. Unit {0}) (tables_of g.K.Keeper.state c.args.draft.now) (changes_of org (named.Role id) row) c.decided.result c.decided.ensures.made c.decided.ensures.cause
    (gone_own org (named.Role id) row (omega arith) spelled.1.1 c.in_ok-row.ensures.fits (c.in_ok-row.ensures.own told))
    (λ q a s f.
    let passes = c.in_ok-row.ensures.passes told q a.tenant s in
    removed named.Role text id spelled.0 spelled.1.0 a.tenant laws org q row (omega arith) spelled.1.1 s.plan (c.removals_sound.ensures.remove_role a.tenant text s.sound) passes.0 passes.1)
