use Rattle.std.proofs.Common.{Ok, map}
use Rattle.std.specs.Prelude.{codes}
use Rattle.std.specs.Str.{chars}
use Rattle.store_kv.specs.Draft.{tables_of}
use Rattle.model_reads.specs.PeopleJson.{listed, role_json}
use Rattle.people_rows.specs.Roster.{role_rows}
use Rattle.api_read.proofs.CallerReads.{failed_so, no_memory}
use Rattle.api_read.proofs.PeopleReads.{unlisted}
use Rattle.api_read.proofs.PeopleTold.{rows_are, roles_told}
use Rattle.api_read.proofs.people.roles.Goals as goal

pub returns-in_err-rows-clause-tells : goal.returns-in_err-rows-clause-tells
returns-in_err-rows-clause-tells g c told q t s =
    let org = c.args.org in
    let m = tables_of g.K.Keeper.state c.args.draft.now in
    let e = c.in_err-rows.field-0.0 in
    failed_so (Ok (listed (codes "roles") (map role_json t.roles))) c.from_residual.result e c.from_residual.ensures.1
    (unlisted org q m t (λ q t. role_rows org t) c.roles_of.result e (c.roles_of.ensures.finds told) c.in_err-rows.was s)

pub returns-in_err-listed_rows-clause-tells : goal.returns-in_err-listed_rows-clause-tells
returns-in_err-listed_rows-clause-tells g c told q t s =
    no_memory (Ok (listed (codes "roles") (map role_json t.roles))) c.from_residual-in_err-listed_rows.result c.from_residual-in_err-listed_rows.ensures.1

pub returns-clause-tells : goal.returns-clause-tells
unfolding chars
returns-clause-tells g c told q t s =
    let org = c.args.org in
    let m = tables_of g.K.Keeper.state c.args.draft.now in
    let given = c.as_slice.result.now in
    roles_told org t c.in_ok-listed_rows.field-0 given c.in_ok-listed_rows.ensures
    (rows_are org q m t (λ q t. role_rows org t) c.roles_of.result c.in_ok-rows.rows given (c.roles_of.ensures.finds told) c.in_ok-rows.was s c.as_slice.ensures.value)
