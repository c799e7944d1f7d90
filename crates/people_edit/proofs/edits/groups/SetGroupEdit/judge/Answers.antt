use Rattle.std.proofs.Common.{[], ◌∷◌, Some, ap}
use Rattle.store_edit.proofs.Judged.{done_so}
use Rattle.store_edit.specs.Rows.{change_to}
use Rattle.store_kv.specs.Draft.{tables_of}
use Rattle.store_rows.specs.Rows.{group_form}
use Rattle.model.specs.Paths.{Asked}
use Rattle.model.specs.People.{changed, changed_group, group_rules, set_group}
use Rattle.model.specs.Principals.{spelled_id}
use Rattle.model.specs.Rules.{first_refusal}
use Rattle.model.specs.Verdict.{accept, done}
use Rattle.people_edit.proofs.ChangedOnes.{GroupChanges, changed_own, group_set_takes}
use Rattle.people_edit.proofs.Deciding.{decides_not}
use Rattle.people_edit.proofs.Joining.{SamePlan}
use Rattle.people_edit.proofs.edits.groups.SetGroupEdit.judge.Goals as goal

pub returns-in_err-row-clause-what : goal.returns-in_err-row-clause-what
returns-in_err-row-clause-what g c told =
    let e = c.args.self.now in
    let text = e.group.now in
    let b = e.change.now in
    decides_not {answered = λ (x : Unit {0}). done} c.args.org (λ (a : Asked). first_refusal (group_rules a.tenant text b)) (λ (a : Asked). accept done (record a.tenant { groups = changed (λ g. g.id) (changed_group b) (spelled_id text) a.tenant.groups }))
    (λ a. Unit {0}) (tables_of g.K.Keeper.state c.args.draft.now) c.in_err-row.field-0.0 c.from_residual.result c.from_residual.ensures.1
    (λ q a s. c.in_err-row.ensures.passes told q a.tenant s)

pub returns-clause-what : goal.returns-clause-what
returns-clause-what g c told =
    let e = c.args.self.now in
    let text = e.group.now in
    let b = e.change.now in
    let org = c.args.org in
    let row = c.in_ok-row.row in
    let laws : GroupChanges = record { plan = c.roster_laws.ensures.plan; rows = c.roster_laws.ensures.group_changed; kept = c.roster_laws.ensures.group_kept; sound = c.people_sound.ensures.set_group } in
    done_so org (λ (a : Asked). set_group a.tenant text b) SamePlan (λ a. Unit {0}) (tables_of g.K.Keeper.state c.args.draft.now) (change_to group_form row ∷ []) c.one_row.result c.one_row.ensures.made c.one_row.ensures.cause
    (changed_own group_form org row c.in_ok-row.ensures.fits (ap Some (c.in_ok-row.ensures.own told)))
    (λ q a s f.
    let passes = c.in_ok-row.ensures.passes told q a.tenant s in
    group_set_takes laws org q a.tenant text b row s.plan s.sound c.in_ok-row.ensures.fits passes.0 passes.1)
