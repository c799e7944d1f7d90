use Rattle.std.proofs.Common.{[], ◌∷◌, ℕ, List, refl, arith, subst}
use Rattle.store_edit.proofs.Judged.{made_so}
use Rattle.store_edit.specs.Rows.{change_to}
use Rattle.store_kv.specs.Draft.{tables_of}
use Rattle.store_rows.specs.declared.group.GroupRow.{GroupRow}
use Rattle.store_rows.specs.Rows.{group_form, org_form}
use Rattle.model.specs.Paths.{Asked}
use Rattle.model.specs.People.{add_group, new_group_rules, next_id, with_group}
use Rattle.model.specs.Rules.{Rule, first_refusal}
use Rattle.model.specs.Verdict.{accept, made_new}
use Rattle.model.specs.World.{group_prefix}
use Rattle.store_edit.specs.Judging.{FailsRule}
use Rattle.people_edit.proofs.Deciding.{decides_not}
use Rattle.people_edit.proofs.Joining.{SamePlan, new_own}
use Rattle.people_edit.proofs.NewOnes.{GroupLaws, group_row_fits, group_rules_are, group_takes}
use Rattle.people_edit.proofs.edits.groups.AddGroupEdit.judge.Goals as goal

pub returns-in_err-drawn-clause-what : goal.returns-in_err-drawn-clause-what
returns-in_err-drawn-clause-what g c told =
    let name = c.args.self.now.name.now in
    let e = c.in_err-drawn.field-0.0 in
    decides_not {answered = λ (id : List ℕ). made_new id} c.args.org (λ (a : Asked). first_refusal (new_group_rules a.tenant name))
    (λ (a : Asked). accept (made_new (next_id a.tenant group_prefix)) (with_group (record { id = next_id a.tenant group_prefix; name = name; members = [] }) a.tenant))
    (λ a. Unit {0}) (tables_of g.K.Keeper.state c.args.draft.now) e c.from_residual.result c.from_residual.ensures.1
    (λ q a s. subst (λ (r : Rule). FailsRule r e) (group_rules_are c.args.org a.tenant name) (c.in_err-drawn.ensures.draws told q a.tenant s))

pub two_rows-requires-clause-row : goal.two_rows-requires-clause-row
two_rows-requires-clause-row g c =
    group_row_fits c.name_laws.ensures.text c.name_laws.ensures.short c.args.org c.args.self.now.name.now c.in_ok-copy.field-0 c.new.result c.in_ok-drawn.drawn (omega arith) c.in_ok-drawn.ensures.fits c.in_ok-copy.ensures c.new.ensures

pub returns-clause-what : goal.returns-clause-what
returns-clause-what g c told =
    let state = g.K.Keeper.state in
    let name = c.args.self.now.name.now in
    let org = c.args.org in
    let drawn = c.in_ok-drawn.drawn in
    let row : GroupRow = record { org = org; id = drawn.id; name = c.in_ok-copy.field-0; members = c.new.result } in
    let laws : GroupLaws = record {
      org = record { fits = c.roster_laws.ensures.org_fits; counted = c.roster_laws.ensures.counted; plan = c.roster_laws.ensures.plan };
      rows = c.roster_laws.ensures.group;
      own = c.roster_laws.ensures.group_row;
      none = c.roster_laws.ensures.no_group;
      fits = c.roster_laws.ensures.group_fits;
      sound = c.people_sound.ensures.add_group;
    } in
    made_so {answered = λ (id : List ℕ). made_new id} org (λ (a : Asked). add_group a.tenant name) SamePlan (λ a. Unit {0}) (tables_of state c.args.draft.now) drawn.id (change_to org_form drawn.org ∷ change_to group_form row ∷ [])
    c.two_rows.result c.two_rows.ensures.answers c.two_rows.ensures.made c.two_rows.ensures.cause
    (new_own group_form org name drawn row c.in_ok-drawn.ensures.fits (c.in_ok-drawn.ensures.own told)
    (group_row_fits c.name_laws.ensures.text c.name_laws.ensures.short org name c.in_ok-copy.field-0 c.new.result drawn (omega arith) c.in_ok-drawn.ensures.fits c.in_ok-copy.ensures c.new.ensures) refl)
    (λ q a s f.
    let draws = c.in_ok-drawn.ensures.draws told q a.tenant s in
    group_takes laws org q a.tenant name drawn c.in_ok-copy.field-0 c.new.result (omega arith) s.plan s.sound draws.0 draws.1 c.in_ok-copy.ensures c.new.ensures)
