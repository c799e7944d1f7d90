use Rattle.std.proofs.Common.{Ok, Some, subst, sym}
use Rattle.store_kv.specs.Draft.{tables_of}
use Rattle.store_kv.specs.Tables.{Tables}
use Rattle.model_reads.specs.PeopleJson.{people_json}
use Rattle.people_rows.specs.Roster.{group_rows, role_rows, user_rows}
use Rattle.store_abstraction.specs.Local.{StandsIn}
use Rattle.store_edit.proofs.Reading.{two_reads}
use Rattle.api_read.proofs.CallerReads.{failed_so, no_memory}
use Rattle.api_read.proofs.PeopleReads.{three_reads, unlisted}
use Rattle.api_read.proofs.PeopleTold.{people_told, rows_are}
use Rattle.api_read.proofs.people.people.Goals as goal

pub returns-in_err-users-clause-tells : goal.returns-in_err-users-clause-tells
returns-in_err-users-clause-tells g c told q t s =
    let org = c.args.org in
    let m = tables_of g.K.Keeper.state c.args.draft.now in
    let e = c.in_err-users.field-0.0 in
    failed_so (Ok (people_json t)) c.from_residual.result e c.from_residual.ensures.1
    (unlisted org q m t (λ q t. user_rows org t) c.users_of.result e (c.users_of.ensures.finds told) c.in_err-users.was s)

pub returns-in_err-roles-clause-tells : goal.returns-in_err-roles-clause-tells
returns-in_err-roles-clause-tells g c told q t s =
    let state = g.K.Keeper.state in
    let laws = c.call_laws.ensures in
    let org = c.args.org in
    let b = c.users_of.new.draft in
    let e = c.in_err-roles.field-0.0 in
    let reads = two_reads state laws.told_first laws.told_then laws.tables c.args.draft.now b c.roles_of.new.draft c.users_of.ensures.calls c.roles_of.ensures.calls told in
    let stands = subst (λ (m : Tables). StandsIn org q m (Some t)) (sym reads.same) s in
    failed_so (Ok (people_json t)) c.from_residual-in_err-roles.result e c.from_residual-in_err-roles.ensures.1
    (unlisted org q (tables_of state b) t (λ q t. role_rows org t) c.roles_of.result e (c.roles_of.ensures.finds reads.then) c.in_err-roles.was stands)

pub returns-in_err-groups-clause-tells : goal.returns-in_err-groups-clause-tells
returns-in_err-groups-clause-tells g c told q t s =
    let state = g.K.Keeper.state in
    let laws = c.call_laws.ensures in
    let org = c.args.org in
    let b = c.users_of.new.draft in
    let d = c.roles_of.new.draft in
    let e = c.in_err-groups.field-0.0 in
    let reads = three_reads state laws.told_first laws.told_then laws.tables c.args.draft.now b d c.groups_of.new.draft c.users_of.ensures.calls c.roles_of.ensures.calls c.groups_of.ensures.calls told in
    let stands = subst (λ (m : Tables). StandsIn org q m (Some t)) (sym reads.after_second) s in
    failed_so (Ok (people_json t)) c.from_residual-in_err-groups.result e c.from_residual-in_err-groups.ensures.1
    (unlisted org q (tables_of state d) t (λ q t. group_rows org t) c.groups_of.result e (c.groups_of.ensures.finds reads.third) c.in_err-groups.was stands)

pub returns-in_err-short_people-clause-tells : goal.returns-in_err-short_people-clause-tells
returns-in_err-short_people-clause-tells g c told q t s = no_memory (Ok (people_json t)) c.from_residual-in_err-short_people.result c.from_residual-in_err-short_people.ensures.1

pub returns-clause-tells : goal.returns-clause-tells
returns-clause-tells g c told q t s =
    let state = g.K.Keeper.state in
    let laws = c.call_laws.ensures in
    let org = c.args.org in
    let a = c.args.draft.now in
    let b = c.users_of.new.draft in
    let d = c.roles_of.new.draft in
    let users = c.as_slice.result.now in
    let roles = c.as_slice-2.result.now in
    let groups = c.as_slice-3.result.now in
    let reads = three_reads state laws.told_first laws.told_then laws.tables a b d c.groups_of.new.draft c.users_of.ensures.calls c.roles_of.ensures.calls c.groups_of.ensures.calls told in
    let on_b = subst (λ (m : Tables). StandsIn org q m (Some t)) (sym reads.after_first) s in
    let on_d = subst (λ (m : Tables). StandsIn org q m (Some t)) (sym reads.after_second) s in
    people_told org t c.in_ok-short_people.field-0 users roles groups c.in_ok-short_people.ensures
    (rows_are org q (tables_of state a) t (λ q t. user_rows org t) c.users_of.result c.in_ok-users.users users (c.users_of.ensures.finds reads.first) c.in_ok-users.was s c.as_slice.ensures.value)
    (rows_are org q (tables_of state b) t (λ q t. role_rows org t) c.roles_of.result c.in_ok-roles.roles roles (c.roles_of.ensures.finds reads.second) c.in_ok-roles.was on_b c.as_slice-2.ensures.value)
    (rows_are org q (tables_of state d) t (λ q t. group_rows org t) c.groups_of.result c.in_ok-groups.groups groups (c.groups_of.ensures.finds reads.third) c.in_ok-groups.was on_d c.as_slice-3.ensures.value)
