use Rattle.std.proofs.Common.{[], ◌∷◌, ℕ, List, refl, arith}
use Rattle.std.specs.Option.{option_copied, option_map}
use Rattle.store_edit.proofs.Judged.{made_so}
use Rattle.store_edit.specs.Rows.{change_to}
use Rattle.store_kv.specs.Draft.{tables_of}
use Rattle.store_rows.specs.declared.role.RoleRow.{RoleRow}
use Rattle.store_rows.specs.Rows.{org_form, role_form}
use Rattle.model.specs.Paths.{Asked}
use Rattle.model.specs.People.{add_role, new_role_rules, next_id, with_role}
use Rattle.model.specs.Principals.{spelled_id}
use Rattle.model.specs.Rules.{first_refusal}
use Rattle.model.specs.Verdict.{accept, made_new}
use Rattle.model.specs.World.{role_prefix}
use Rattle.people_edit.proofs.Deciding.{decides_not}
use Rattle.people_edit.proofs.Joining.{SamePlan, new_own}
use Rattle.people_edit.proofs.NewOnes.{RoleLaws, role_row_fits, role_takes}
use Rattle.people_edit.proofs.edits.roles.AddRoleEdit.judge.Goals as goal

pub returns-in_err-drawn-clause-what : goal.returns-in_err-drawn-clause-what
returns-in_err-drawn-clause-what g c told =
    let e = c.args.self.now in
    let name = e.name.now in
    let parent = option_copied e.parent in
    decides_not {answered = λ (id : List ℕ). made_new id} c.args.org (λ (a : Asked). first_refusal (new_role_rules a.tenant name parent))
    (λ (a : Asked). accept (made_new (next_id a.tenant role_prefix)) (with_role (record { id = next_id a.tenant role_prefix; name = name; parent = option_map spelled_id parent }) a.tenant))
    (λ a. Unit {0}) (tables_of g.K.Keeper.state c.args.draft.now) c.in_err-drawn.field-0.0 c.from_residual.result c.from_residual.ensures.1
    (λ q a s. c.in_err-drawn.ensures.draws told q a.tenant s)

pub two_rows-requires-clause-row : goal.two_rows-requires-clause-row
two_rows-requires-clause-row g c =
    role_row_fits c.name_laws.ensures.text c.name_laws.ensures.short c.args.org c.args.self.now.name.now c.in_ok-copy.field-0 c.in_ok-drawn.drawn (omega arith) c.in_ok-drawn.ensures.fits c.in_ok-copy.ensures

pub returns-clause-what : goal.returns-clause-what
returns-clause-what g c told =
    let state = g.K.Keeper.state in
    let e = c.args.self.now in
    let name = e.name.now in
    let parent = option_copied e.parent in
    let org = c.args.org in
    let drawn = c.in_ok-drawn.drawn in
    let row : RoleRow = record { org = org; id = drawn.id; name = c.in_ok-copy.field-0; parent = drawn.role } in
    let laws : RoleLaws = record {
      org = record { fits = c.roster_laws.ensures.org_fits; counted = c.roster_laws.ensures.counted; plan = c.roster_laws.ensures.plan };
      rows = c.roster_laws.ensures.role;
      own = c.roster_laws.ensures.role_row;
      none = c.roster_laws.ensures.no_role;
      fits = c.roster_laws.ensures.role_fits;
      sound = c.people_sound.ensures.add_role;
    } in
    made_so {answered = λ (id : List ℕ). made_new id} org (λ (a : Asked). add_role a.tenant name parent) SamePlan (λ a. Unit {0}) (tables_of state c.args.draft.now) drawn.id (change_to org_form drawn.org ∷ change_to role_form row ∷ [])
    c.two_rows.result c.two_rows.ensures.answers c.two_rows.ensures.made c.two_rows.ensures.cause
    (new_own role_form org name drawn row c.in_ok-drawn.ensures.fits (c.in_ok-drawn.ensures.own told) (role_row_fits c.name_laws.ensures.text c.name_laws.ensures.short org name c.in_ok-copy.field-0 drawn (omega arith) c.in_ok-drawn.ensures.fits c.in_ok-copy.ensures) refl)
    (λ q a s f.
    let draws = c.in_ok-drawn.ensures.draws told q a.tenant s in
    role_takes laws org q a.tenant name parent drawn c.in_ok-copy.field-0 (omega arith) s.plan s.sound draws.0 draws.1 c.in_ok-copy.ensures)
