use Rattle.std.proofs.Common.{[], ◌∷◌, Some, ap}
use Rattle.store_edit.proofs.Judged.{done_so}
use Rattle.store_edit.specs.Rows.{change_to}
use Rattle.store_kv.specs.Draft.{tables_of}
use Rattle.store_rows.specs.Rows.{org_form}
use Rattle.model.specs.Paths.{Asked}
use Rattle.model.specs.People.{set_organisation}
use Rattle.people_edit.proofs.ChangedOnes.{changed_own}
use Rattle.people_edit.proofs.Joining.{SamePlan}
use Rattle.people_edit.proofs.NamedOrg.{name_set_takes}
use Rattle.people_edit.proofs.edits.organisation.SetOrganisationEdit.judge.Goals as goal

pub returns-clause-what : goal.returns-clause-what
returns-clause-what g c told =
    let name = c.args.self.now.name.now in
    let org = c.args.org in
    let row = c.in_ok-row.row in
    done_so org (λ (a : Asked). set_organisation a.tenant name) SamePlan (λ a. Unit {0}) (tables_of g.K.Keeper.state c.args.draft.now) (change_to org_form row ∷ []) c.one_row.result c.one_row.ensures.made c.one_row.ensures.cause
    (changed_own org_form org row c.in_ok-row.ensures.fits (ap Some (c.in_ok-row.ensures.own told)))
    (λ q a s f.
    let passes = c.in_ok-row.ensures.passes told q a.tenant s in
    name_set_takes c.roster_laws.ensures.plan c.roster_laws.ensures.counted c.people_sound.ensures.set_organisation org q a.tenant name row s.plan s.sound c.in_ok-row.ensures.fits passes.0 passes.1)
